use Rattle.std.proofs.Common.{◌≡◌, ◌↔◌, ℕ, Bool, false, Result, Ok, Err, IfErr, IsErrOf, IsTrue, sym, ap, ◌∙◌}
use Rattle.base_text_outside.specs.declared.sink.SinkError.{SinkError}
use Rattle.base_text_outside.specs.declared.sink.SinkError.TheVariants.{Failed, OutOfMemory}
use Rattle.base_text_outside.specs.Faults.{fails_next}
use Rattle.base_text_outside.proofs.sink.FaultSinkByteSink.write.Goals as goal

-- out of memory is not a failure
never_failed : (r : Result ℕ SinkError) (b : Bool) → IfErr r (λ e. e ≡ OutOfMemory) → b ≡ false → IsErrOf r Failed ↔ IsTrue b
never_failed (Ok n) b memory off = (λ h. cc, λ h. cc)
never_failed (Err e) b memory off = (λ h. cc, λ h. cc)

pub returns-clause-failed : goal.returns-clause-failed
returns-clause-failed c =
    let off : fails_next c.args.self.now ≡ false = ap fails_next (sym c.self.view_is) ∙ sym c.next_fails.ensures.listed ∙ c.if-next_fails.false in
    never_failed _ _ c.write.ensures.memory_only off
