use Rattle.std.proofs.Common.{◌<◌, Some, ap, arith, cond, get_or, length, refl, ◌∙◌}
use Rattle.std.specs.BTreeMap as tree
use Rattle.base_text_paths.specs.contracts.arena.IdxOrd.TheImpl as numbers
use Rattle.crate_graph_values.specs.contracts.crate_data.CrateTag.{the_row}
use Rattle.crate_graph.proofs.NumberMapLemmas.{is_at_number, numbers_more}
use Rattle.crate_graph.proofs.graph.renaming.ids_of_numbers.Goals as goal

pub loop-old-preserved : goal.loop-old-preserved
loop-old-preserved c = λ q.
    let cmp = (numbers.ghosts the_row).cmp in
    let key = c.from_raw-old.result in
    let value = c.from_raw.result in
    let before = tree.get (numbers.ghosts the_row).cmp c.loop-old.ids q in
    let below : c.loop-old.old < length c.args.new_numbers.now = omega (arith, c.loop-old-test.true) in
    let test = is_at_number key q in
    let step = c.in_ok-insert.ensures.updates.0 q ∙ ap (λ t. cond t (Some value) before) test in
    numbers_more c.args.new_numbers.now c.loop-old.old (get_or c.args.new_numbers.now c.loop-old.old 0) key value q before (tree.get cmp c.insert.new.self q) below refl c.from_raw-old.ensures c.from_raw.ensures step (c.loop-old.invariant q)
