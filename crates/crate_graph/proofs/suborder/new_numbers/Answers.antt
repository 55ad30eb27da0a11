use Rattle.std.proofs.Common.{◌≡◌, ◌+◌, ◌<◌, ◌∙◌, ap, arith, false, get_or, subst, sym, true}
use Rattle.graph_base.specs.Kept.{is_named}
use Rattle.crate_graph.proofs.SuborderLemmas.{below_small, more_named, more_other, numbers_push-named, numbers_push-other}
use Rattle.crate_graph.proofs.suborder.new_numbers.Goals as goal
use Rattle.crate_graph.proofs.suborder.new_numbers.Goals.{then-mark+in_ok-push, else-mark+in_ok-push-2}

pub overflow_add-next : goal.overflow_add-next
overflow_add-next c =
    omega (arith, c.loop-mark.invariant.next, below_small c.args.keep.now c.loop-mark.mark-index, c.loop-mark-test.true, c.in_ok-marks.ensures.long, c.requires.short)

pub loop-mark-preserved : goal.loop-mark-preserved
loop-mark-preserved c =
    let keep = c.args.keep.now in
    let place = c.loop-mark.mark-index in
    let within : c.loop-mark.mark-index < c.args.count = omega (arith, c.loop-mark-test.true, c.in_ok-marks.ensures.long) in
    elim c.if-mark.branch [
      | then-mark+in_ok-push w ↦
          let mark : get_or c.in_ok-marks.marks.items place false ≡ true = subst (λ xs. get_or xs place false ≡ true) c.deref-mark-items.ensures.value w.if-mark.true in
          let named : is_named c.args.keep.now c.loop-mark.mark-index ≡ true = sym (c.in_ok-marks.ensures.named place within) ∙ mark in
          record {
            numbers = rw (w.numbers-is, w.in_ok-push.ensures.items) (numbers_push-named keep c.loop-mark.numbers.items place c.loop-mark.invariant.numbers c.loop-mark.next named c.loop-mark.invariant.next);
            next = w.next-is ∙ ap (λ n. n + 1) c.loop-mark.invariant.next ∙ sym (more_named keep place named);
          }
      | else-mark+in_ok-push-2 w ↦
          let mark : get_or c.in_ok-marks.marks.items place false ≡ false = subst (λ xs. get_or xs place false ≡ false) c.deref-mark-items.ensures.value w.if-mark.false in
          let other : is_named c.args.keep.now c.loop-mark.mark-index ≡ false = sym (c.in_ok-marks.ensures.named place within) ∙ mark in
          record {
            numbers = rw (w.numbers-is, w.in_ok-push-2.ensures.items) (numbers_push-other keep c.loop-mark.numbers.items place c.loop-mark.invariant.numbers other);
            next = w.next-is ∙ c.loop-mark.invariant.next ∙ sym (more_other keep place other);
          }
    ]
