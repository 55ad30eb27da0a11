use Rattle.std.proofs.Common.{◌≡◌, ◌+◌, ◌<◌, ◌∙◌, ap, arith, false, get_or, map, subst, sym, true}
use Rattle.base_text_paths.specs.Arena.{number_of}
use Rattle.std.specs.List.{range_with_len}
use Rattle.graph_base.specs.Kept.{is_named, kept_below}
use Rattle.crate_graph.proofs.PruneLemmas.{ids_more-named, ids_more-other, numbers_more-kept}
use Rattle.crate_graph.proofs.graph.prune.new_ids.Goals as goal
use Rattle.crate_graph.proofs.graph.prune.new_ids.Goals.{then-mark+in_ok-push-2, else-mark+in_ok-push-3}
use Rattle.crate_graph.proofs.SuborderLemmas.{below_small, more_named, more_other}

pub overflow_add-next : goal.overflow_add-next
overflow_add-next c =
    let below = below_small (map number_of c.args.to_keep.now) c.loop-mark.mark-index in
    omega (arith, c.loop-mark.invariant.next, below, c.loop-mark-test.true, c.in_ok-marks.ensures.long, c.requires.short)

pub loop-mark-preserved : goal.loop-mark-preserved
loop-mark-preserved c =
    let keep = map number_of c.args.to_keep.now in
    let place = c.loop-mark.mark-index in
    let marks = c.in_ok-marks.marks.items in
    let within : c.loop-mark.mark-index < c.args.count = omega (arith, c.loop-mark-test.true, c.in_ok-marks.ensures.long) in
    let ids_are = c.loop-mark.invariant.ids_are in
    let numbers : c.push.new.self.items ≡ map (kept_below keep) (range_with_len 0 (place + 1)) = c.in_ok-push.ensures.items ∙ (numbers_more-kept keep c.loop-mark.numbers.items place c.loop-mark.next c.loop-mark.invariant.numbers_are c.loop-mark.invariant.next) in
    elim c.if-mark.branch [
      | then-mark+in_ok-push-2 w ↦
          let mark : get_or marks place false ≡ true = subst (λ xs. get_or xs place false ≡ true) c.deref-mark-items.ensures.value w.if-mark.true in
          let named : is_named keep place ≡ true = sym (c.in_ok-marks.ensures.named place within) ∙ mark in
          record {
            ids_are = rw (w.ids-is, w.in_ok-push-2.ensures.items) (ids_more-named keep c.loop-mark.ids.items place ids_are w.from_raw.result named (w.from_raw.ensures ∙ c.loop-mark.invariant.next));
            numbers_are = numbers;
            next = w.next-is ∙ ap (λ n. n + 1) c.loop-mark.invariant.next ∙ sym (more_named keep place named);
          }
      | else-mark+in_ok-push-3 w ↦
          let mark : get_or marks place false ≡ false = subst (λ xs. get_or xs place false ≡ false) c.deref-mark-items.ensures.value w.if-mark.false in
          let other : is_named keep place ≡ false = sym (c.in_ok-marks.ensures.named place within) ∙ mark in
          record {
            ids_are = rw (w.ids-is, w.in_ok-push-3.ensures.items) (ids_more-other keep c.loop-mark.ids.items place ids_are other);
            numbers_are = numbers;
            next = w.next-is ∙ c.loop-mark.invariant.next ∙ sym (more_other keep place other);
          }
    ]
