use Rattle.std.proofs.Common.{◌<◌, ℕ, Some, ap, arith, cond, eqb, length, sym, ◌∙◌}
use Rattle.std.specs.BTreeMap as tree
use Rattle.base_text_paths.specs.Arena.{number_of}
use Rattle.base_text_paths.specs.contracts.arena.IdxOrd.TheImpl as numbers
use Rattle.crate_graph_values.specs.contracts.crate_data.CrateTag.{the_row}
use Rattle.crate_graph.proofs.NumberMapLemmas.{is_at_number, slice_get-take_more}
use Rattle.input_db.proofs.lowering.ids_of_numbers.Goals as goal

pub loop-number-preserved : goal.loop-number-preserved
loop-number-preserved c = λ q.
    let i = c.loop-number.number in
    let new = c.index-numbers-number.result in
    let before = tree.get (numbers.ghosts the_row).cmp c.loop-number.ids q in
    let below : i < length c.args.numbers.now = omega arith in
    c.in_ok-insert.ensures.updates.0 q ∙ ap (λ t. cond t (Some new) before) (is_at_number c.from_raw-id.result q)
    ∙ ap (λ (k : ℕ). cond (eqb k (number_of q)) (Some new) before) c.from_raw-id.ensures
    ∙ ap (cond (eqb i (number_of q)) (Some new)) (c.loop-number.invariant q)
    ∙ sym (slice_get-take_more c.args.numbers.now i (number_of q) new new below c.index-numbers-number.is)
