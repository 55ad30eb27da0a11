use Rattle.std.proofs.Common.{◌∷◌, ◌<◌, Some, ap, cond, eqb, length, sym, ◌∙◌}
use Rattle.std.specs.BTreeMap as tree
use Rattle.std.proofs.lemmas.List.Elements.{All-head, All-rest, All-same}
use Rattle.base_text_paths.specs.Arena.{number_of}
use Rattle.base_text_paths.specs.contracts.arena.IdxOrd.TheImpl as numbers
use Rattle.crate_graph_values.specs.contracts.crate_data.CrateTag.{the_row}
use Rattle.crate_graph.specs.Extend.{moved_entry, new_id_at}
use Rattle.crate_graph.proofs.NumberMapLemmas.{is_at_number, keys_hold, lookup_none, moved_more, moved_none}
use Rattle.crate_graph.proofs.graph.extend.macros.renumber_macros.Goals as goal

pub loop-id-init : goal.loop-id-init
loop-id-init c =
    let all = c.into_iter-id-iterator.ensures.into_iter_gives ∙ c.iter-id-items.ensures.rest in
    record {
      within = All-same (λ e. number_of e.0 < length c.args.new_numbers.now) c.into_iter-id-iterator.result c.args.macros.now.entries all (keys_hold (λ id. number_of id < length c.args.new_numbers.now) c.args.macros.now.entries c.requires);
      moved_entry = λ id.
          let none = lookup_none (tree.is_at ((numbers.ghosts the_row).cmp id)) c.new-new_macros.result.entries c.new-new_macros.ensures.empty in
          moved_none (new_id_at c.args.new_numbers.now) id c.into_iter-id-iterator.result (tree.get (numbers.ghosts the_row).cmp c.new-new_macros.result id) none ∙ ap (λ es. moved_entry (new_id_at c.args.new_numbers.now) es id) all;
    }

pub new_id_at-requires : goal.new_id_at-requires
new_id_at-requires c =
    All-head (λ e. number_of e.0 < length c.args.new_numbers.now) (c.in-Some.id.now, c.in-Some.library.now) c.next.new.self
    (All-same (λ e. number_of e.0 < length c.args.new_numbers.now) ((c.in-Some.id.now, c.in-Some.library.now) ∷ c.next.new.self) c.loop-id.id-iterator (sym c.in-Some.ensures.steps) c.loop-id.invariant.within)

pub loop-id-preserved : goal.loop-id-preserved
loop-id-preserved c =
    let new_numbers = c.args.new_numbers.now in
    let cmp = (numbers.ghosts the_row).cmp in
    record {
      within = All-rest (λ e. number_of e.0 < length c.args.new_numbers.now) (c.in-Some.id.now, c.in-Some.library.now) c.next.new.self c.loop-id.id-iterator c.in-Some.ensures.steps c.loop-id.invariant.within;
      moved_entry = λ id.
          let before = tree.get (numbers.ghosts the_row).cmp c.loop-id.new_macros id in
          let test = is_at_number c.new_id_at.result id ∙ ap (λ k. eqb (number_of k) (number_of id)) c.new_id_at.ensures in
          let copy = c.in_ok-library.ensures in
          let step = c.in_ok-insert.ensures.updates.0 id ∙ (λ i. cond (test i) (Some (copy i)) before) in
          moved_more (new_id_at c.args.new_numbers.now) id (c.in-Some.id.now, c.in-Some.library.now) c.loop-id.id-iterator c.next.new.self before (tree.get cmp c.insert.new.self id) (moved_entry (new_id_at c.args.new_numbers.now) c.args.macros.now.entries id) c.in-Some.ensures.steps step (c.loop-id.invariant.moved_entry id);
    }
