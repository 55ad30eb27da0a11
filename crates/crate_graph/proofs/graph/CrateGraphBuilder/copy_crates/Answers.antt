use Rattle.std.proofs.Common.{◌≡◌, ◌+◌, ◌<◌, ◌∙◌, ◌++◌, ◌∷◌, [], None, Some, ap, arith, drop, false, get_or, length, map, subst, sym, true}
use Rattle.std.specs.List.{range_with_len}
use Rattle.std.specs.Option.{is_some, option_map}
use Rattle.std.proofs.lemmas.List.{get_or_read}
use Rattle.base_text_paths.specs.Arena.{number_of}
use Rattle.graph_base.specs.Kept.{is_named, kept_below}
use Rattle.crate_graph.specs.Suborder.{new_number}
use Rattle.crate_graph.specs.Prune.{kept_crates, renumbered_crate, number_after_prune}
use Rattle.crate_graph.proofs.PruneLemmas.{kept_more, kept_skip, length-ids, length-numbers, renumbered_kept, named_here, is_some-id}
use Rattle.crate_graph.proofs.ExtendLemmas.{targets_within}
use Rattle.crate_graph.specs.Graph.{edges}
use Rattle.graph_base.specs.Edges.{IsInRange}
use Rattle.std.specs.Prelude.{slice_get}
use Rattle.std.proofs.lemmas.Option.{slice_get-get_or}
use Rattle.crate_graph.proofs.graph.CrateGraphBuilder.copy_crates.Goals as goal
use Rattle.crate_graph.proofs.graph.CrateGraphBuilder.copy_crates.Goals.{then-is_some+in_ok-renumbered_copy+in_ok-push, else-is_some}

pub index-requires : goal.index-requires
index-requires c =
    let long = length-ids (map number_of c.args.to_keep.now) c.in_ok-ids.ids.items c.len.result c.in_ok-ids.ensures.ids in
    omega (arith, c.loop-place-test.true, ap length c.deref-krate-items.ensures.value, c.len.ensures, long)

pub renumbered_copy-requires : goal.renumbered_copy-requires
renumbered_copy-requires c =
    let keep = map number_of c.args.to_keep.now in
    let crates = c.args.self.now.crates in
    let place = c.loop-place.place in
    let krate = c.krate-item.result in
    let same = c.deref-krate-items.ensures.value ∙ ap (λ graph. graph.crates) c.self.view_is in
    let within : place < length crates = subst (λ cs. place < length cs) same c.loop-place-test.true in
    let at : krate ≡ get_or crates place krate = subst (λ cs. krate ≡ get_or cs place krate) same c.krate-item.is in
    let count : c.len.result ≡ length crates = omega (arith, c.len.ensures, ap (λ graph. length graph.crates) c.self.view_is) in
    let in_range = subst (λ graph. IsInRange (edges graph.crates)) c.self.view_is c.self.invariant.well_made.in_range in
    let here : slice_get crates place ≡ Some krate = slice_get-get_or crates place krate within ∙ ap Some (sym at) in
    let long : length c.deref.result.now ≡ length crates = ap length c.deref.ensures.value ∙ length-numbers keep c.in_ok-ids.numbers.items (length crates) (subst (λ n. c.in_ok-ids.numbers.items ≡ map (kept_below keep) (range_with_len 0 n)) count c.in_ok-ids.ensures.numbers) in
    targets_within crates place krate (length c.deref.result.now) in_range long here

pub loop-place-preserved : goal.loop-place-preserved
loop-place-preserved c =
    let keep = map number_of c.args.to_keep.now in
    let crates = c.args.self.now.crates in
    let ids = c.in_ok-ids.ids.items in
    let place = c.loop-place.place in
    let krate = c.krate-item.result in
    let done = c.loop-place.kept.items in
    let whole = kept_crates keep 0 crates in
    let left = kept_crates keep (place + 1) (drop (place + 1) crates) in
    let same = c.deref-krate-items.ensures.value ∙ ap (λ graph. graph.crates) c.self.view_is in
    let within : place < length crates = subst (λ cs. place < length cs) same c.loop-place-test.true in
    let at : krate ≡ get_or crates place krate = subst (λ cs. krate ≡ get_or cs place krate) same c.krate-item.is in
    let count : c.len.result ≡ length crates = omega (arith, c.len.ensures, ap (λ graph. length graph.crates) c.self.view_is) in
    let ids_are : map (option_map number_of) ids ≡ map (new_number keep) (range_with_len 0 (length crates)) = subst (λ n. map (option_map number_of) ids ≡ map (new_number keep) (range_with_len 0 n)) count c.in_ok-ids.ensures.ids in
    let numbers_are : c.in_ok-ids.numbers.items ≡ map (kept_below keep) (range_with_len 0 (length crates)) = subst (λ n. c.in_ok-ids.numbers.items ≡ map (kept_below keep) (range_with_len 0 n)) count c.in_ok-ids.ensures.numbers in
    let there : place < length ids = omega (arith, within, length-ids keep ids (length crates) ids_are) in
    let read : is_some (get_or ids place None) ≡ c.is_some.result = ap is_some (sym (get_or_read ids place c.index.result.now there c.index.ensures None)) ∙ sym c.is_some.ensures in
    elim c.if-is_some.branch [
      | then-is_some+in_ok-renumbered_copy+in_ok-push w ↦
          let some : is_some (get_or ids place None) ≡ true = read ∙ w.if-is_some.true in
          let copy : w.in_ok-renumbered_copy.field-0 ≡ renumbered_crate (kept_below keep) krate = w.in_ok-renumbered_copy.ensures ∙ ap (λ xs. renumbered_crate (number_after_prune xs) krate) w.deref.ensures.value ∙ renumbered_kept keep crates ids c.requires ids_are place krate within at some c.in_ok-ids.numbers.items numbers_are in
          ap (λ v. v.items ++ left) w.kept-is ∙ ap (λ xs. xs ++ left) w.in_ok-push.ensures.items ∙ ap (λ x. (done ++ x ∷ []) ++ left) copy
          ∙ kept_more keep crates done whole place krate within at c.loop-place.invariant (named_here keep crates ids c.requires ids_are place krate within at some)
      | else-is_some w ↦
          let other : is_named keep place ≡ false = sym (is_some-id keep ids (length crates) ids_are place within) ∙ read ∙ w.if-is_some.false in
          ap (λ v. v.items ++ left) w.kept-is ∙ kept_skip keep crates done whole place krate within at c.loop-place.invariant other
    ]
