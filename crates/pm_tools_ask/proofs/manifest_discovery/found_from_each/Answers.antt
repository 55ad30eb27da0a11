-- What is found from one more path.
use Rattle.std.proofs.Common.{ap, ◌++◌, ◌∙◌}
use Rattle.pm_tools_ask.specs.ManifestDiscovery.{found_or_none}
use Rattle.pm_tools_ask.proofs.ManifestSearch.{flat_more}
use Rattle.pm_tools_ask.proofs.manifest_discovery.found_from_each.Goals as goal

pub loop-path-preserved : goal.loop-path-preserved
loop-path-preserved g c =
    let found = found_or_none (g.T.Tree.files c.args.tree.now) in
    flat_more found c.args.paths.now c.loop-path.path-index c.path-item.result c.loop-path-test.true c.path-item.is c.loop-path.found.items c.push_found.new.found.items c.loop-path.invariant
    (c.in_ok-push_found.ensures ∙ ap (λ path. c.loop-path.found.items ++ found path) c.as_path.ensures)
