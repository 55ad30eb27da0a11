-- An entry that is held is the nearest; past another the search goes on in the parent.
use Rattle.std.proofs.Common.{ap, sym, ◌∙◌}
use Rattle.base_text_paths.specs.AbsPath.{abs_text}
use Rattle.pm_tools_ask.proofs.ManifestSearch.{found_here, nearest_left, passed, up_smaller}
use Rattle.pm_tools_ask.proofs.manifest_discovery.nearest_entry.Goals as goal

pub loop-above-smaller : goal.loop-above-smaller
loop-above-smaller g c =
    up_smaller c.loop-above.above c.parent-above.result c.in-Some.directory c.in-Some.is c.parent-above.ensures.text c.parent-above.ensures.components

pub loop-above-preserved : goal.loop-above-preserved
loop-above-preserved g c =
    let files = g.T.Tree.files c.args.tree.now in
    let name = c.args.name.now in
    let directory = c.in-Some.directory in
    passed files name (abs_text directory) c.parent-above.result directory.clean (sym c.in-None.is ∙ c.in_ok-manifest.ensures) c.parent-above.ensures.text c.parent-above.ensures.components
    ∙ ap (nearest_left files name) (sym c.in-Some.is) ∙ c.loop-above.invariant

pub returns-in-Some-2 : goal.returns-in-Some-2
returns-in-Some-2 g c =
    let files = g.T.Tree.files c.args.tree.now in
    let name = c.args.name.now in
    let directory = c.in-Some.directory in
    found_here files name (abs_text directory) c.in-Some-2.manifest directory.clean (sym c.in-Some-2.is ∙ c.in_ok-manifest.ensures)
    ∙ ap (nearest_left files name) (sym c.in-Some.is) ∙ c.loop-above.invariant
