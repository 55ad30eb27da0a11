-- One more entry, with a manifest or without one.
use Rattle.std.proofs.Common.{ap, sym, ◌∙◌}
use Rattle.base_text_paths.specs.AbsPath.{abs_text}
use Rattle.pm_tools_ask.specs.ManifestDiscovery.{manifest_below}
use Rattle.pm_tools_ask.proofs.ManifestSearch.{taken_none, taken_some}
use Rattle.pm_tools_ask.proofs.manifest_discovery.manifests_below.Goals as goal
use Rattle.pm_tools_ask.proofs.manifest_discovery.manifests_below.Goals.{in-Some+in_ok-push, in_default}

pub loop-name-preserved : goal.loop-name-preserved
loop-name-preserved g c =
    let gives = manifest_below (g.T.Tree.files c.args.tree.now) (abs_text c.args.directory) in
    let names = c.args.names.now in
    let place = c.loop-name.name-index in
    elim c.match-branch-2.branch [
      | in-Some+in_ok-push w ↦
          ap (λ v. v.items) w.found-is
          ∙ taken_some gives names place c.name-item.result c.loop-name-test.true c.name-item.is w.in-Some.manifest c.loop-name.found.items w.push.new.self.items
          (ap gives (sym c.as_str.ensures) ∙ sym c.in_ok-manifest.ensures ∙ w.in-Some.is) c.loop-name.invariant w.in_ok-push.ensures.items
      | in_default w ↦
          ap (λ v. v.items) w.found-is
          ∙ taken_none gives names place c.name-item.result c.loop-name-test.true c.name-item.is c.loop-name.found.items
          (ap gives (sym c.as_str.ensures) ∙ sym c.in_ok-manifest.ensures ∙ w.in_default.is) c.loop-name.invariant
    ]
