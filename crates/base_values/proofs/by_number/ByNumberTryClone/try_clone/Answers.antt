use Rattle.base_values.proofs.NumberMaps.{copied_more}
use Rattle.base_values.proofs.by_number.ByNumberTryClone.try_clone.Goals as goal

pub loop-number-preserved : goal.loop-number-preserved
loop-number-preserved g c =
    copied_more c.args.self.now c.loop-number.copy c.insert.new.self c.loop-number.number-iterator
    c.next.new.self c.in-Some.number.now c.in-Some.value.now c.in_ok-try_clone.field-0
    c.loop-number.invariant c.in-Some.ensures.steps
    c.in_ok-try_clone.ensures c.in_ok-insert.ensures.ok
