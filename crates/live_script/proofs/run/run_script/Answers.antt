use Rattle.std.proofs.Common.{ℕ, arith}
use Rattle.live_script.proofs.Causes.{cause_line, cause_next, completes_err, completes_ok}
use Rattle.live_script.proofs.Running.{Running-start, Running-line, Ends-line, Ends-next, Finishes-end, Takes-gave}
use Rattle.live_script.proofs.run.run_script.Goals as goal

pub run-init : goal.run-init
run-init g c = (rw c.new-lines.ensures (Running-start g.P.Stepper.rules g.P.Stepper.has_ended _ _ _ _ c.requires.going), omega arith, omega arith, g.met.P.Stepper.keeps_itself _ _)

pub returns-in-Err-take_line-clause-err : goal.returns-in-Err-take_line-clause-err
returns-in-Err-take_line-clause-err g c =
    let next = rw c.in-Ok-Some.field-0-is at c.in-Ok-Some.ensures in
    let gave = rw (← c.deref.ensures.value) at (next.gave _ _ _ c.run.invariant.0.gave) in
    Ends-line g.P.Stepper.rules g.P.Stepper.has_ended _ _ _ _ _ _ _ _ _ c.run.invariant.0 _ _ _ gave _ _ _ c.in-Err-take_line.ensures.cause.only c.in-Err-take_line.ensures.err

pub returns-in-Err-take_line-clause-taken : goal.returns-in-Err-take_line-clause-taken
returns-in-Err-take_line-clause-taken g c =
    let next = rw c.in-Ok-Some.field-0-is at c.in-Ok-Some.ensures in
    Takes-gave _ _ _ _ _ (next.gave _ _ _ c.run.invariant.0.gave)

pub returns-in-Err-take_line-clause-rest : goal.returns-in-Err-take_line-clause-rest
returns-in-Err-take_line-clause-rest g c = record { kept = g.met.P.Stepper.keeps_on _ _ _ _ _ c.run.invariant.3 c.in-Err-take_line.ensures.rest.kept; going = tt }

pub returns-in-Err-take_line-clause-complete : goal.returns-in-Err-take_line-clause-complete
returns-in-Err-take_line-clause-complete g c = λ s before h all known faultless.
    let next = rw c.in-Ok-Some.field-0-is at c.in-Ok-Some.ensures in
    let gave = rw (← c.deref.ensures.value) at (next.gave _ _ _ c.run.invariant.0.gave) in
    completes_err g.P.Stepper.rules _ _ _ _ _ _ _ _ _ _
    (Ends-line g.P.Stepper.rules g.P.Stepper.has_ended _ _ _ _ _ _ _ _ _ c.run.invariant.0 _ _ _ gave _ _ _ c.in-Err-take_line.ensures.cause.only c.in-Err-take_line.ensures.err s before h all known).refused
    (cause_line _ _ _ _ _ _ c.in-Err-take_line.ensures.cause c.run.invariant.2) faultless.read faultless.written

pub run-preserved : goal.run-preserved
run-preserved g c =
    let next = rw c.in-Ok-Some.field-0-is at c.in-Ok-Some.ensures in
    let gave = rw (← c.deref.ensures.value) at (next.gave _ _ _ c.run.invariant.0.gave) in (
      Running-line g.P.Stepper.rules g.P.Stepper.has_ended _ _ _ _ _ _ _ _ _ c.run.invariant.0 _ _ _ gave _ _ c.in-Ok.ensures.ok c.in-Ok.ensures.rest.going next.answers.told next.answers.refused,
      omega (arith, c.run.invariant.1, next.answers.later),
      omega (arith, c.run.invariant.2, c.in-Ok.ensures.cause.later),
      g.met.P.Stepper.keeps_on _ _ _ _ _ c.run.invariant.3 c.in-Ok.ensures.rest.kept,
    )

pub returns-in-Ok-None-clause-ok : goal.returns-in-Ok-None-clause-ok
returns-in-Ok-None-clause-ok g c =
    let next = rw c.in-Ok-None.field-0-is at c.in-Ok-None.ensures in
    Finishes-end g.P.Stepper.rules g.P.Stepper.has_ended _ _ _ _ _ _ _ _ _ c.run.invariant.0 _ _ (next.gave _ _ _ c.run.invariant.0.gave) next.answers.told

pub returns-in-Ok-None-clause-taken : goal.returns-in-Ok-None-clause-taken
returns-in-Ok-None-clause-taken g c =
    let next = rw c.in-Ok-None.field-0-is at c.in-Ok-None.ensures in
    Takes-gave _ _ _ _ _ (next.gave _ _ _ c.run.invariant.0.gave)

pub returns-in-Ok-None-clause-rest : goal.returns-in-Ok-None-clause-rest
returns-in-Ok-None-clause-rest g c = record { kept = c.run.invariant.3; going = c.run.invariant.0.going }

pub returns-in-Ok-None-clause-complete : goal.returns-in-Ok-None-clause-complete
returns-in-Ok-None-clause-complete g c = λ s before h all known faultless.
    let next = rw c.in-Ok-None.field-0-is at c.in-Ok-None.ensures in
    completes_ok g.P.Stepper.rules _ s before all _ _ _ _ _ known
    (Finishes-end g.P.Stepper.rules g.P.Stepper.has_ended _ _ _ _ _ _ _ _ _ c.run.invariant.0 _ _ (next.gave _ _ _ c.run.invariant.0.gave) next.answers.told s before h)

pub returns-in-Err-clause-err : goal.returns-in-Err-clause-err
returns-in-Err-clause-err g c =
    Ends-next g.P.Stepper.rules g.P.Stepper.has_ended _ _ _ _ _ _ _ _ _ c.run.invariant.0 _ _ (c.in-Err.ensures.gave _ _ _ c.run.invariant.0.gave)
    ℕ c.in-Err.error _ _ _ c.fault_of.ensures c.in-Err.ensures.answers.told (λ all gave. c.in-Err.ensures.too_many _ _ all gave)

pub returns-in-Err-clause-taken : goal.returns-in-Err-clause-taken
returns-in-Err-clause-taken g c = Takes-gave _ _ _ _ _ (c.in-Err.ensures.gave _ _ _ c.run.invariant.0.gave)

pub returns-in-Err-clause-rest : goal.returns-in-Err-clause-rest
returns-in-Err-clause-rest g c = record { kept = g.met.P.Stepper.keeps_on _ _ _ _ _ c.run.invariant.3 (g.met.P.Stepper.keeps_itself _ _); going = tt }

pub returns-in-Err-clause-complete : goal.returns-in-Err-clause-complete
returns-in-Err-clause-complete g c = λ s before h all known faultless.
    let ends = Ends-next g.P.Stepper.rules g.P.Stepper.has_ended _ _ _ _ _ _ _ _ _ c.run.invariant.0 _ _ (c.in-Err.ensures.gave _ _ _ c.run.invariant.0.gave)
    ℕ c.in-Err.error _ _ _ c.fault_of.ensures c.in-Err.ensures.answers.told (λ every gave. c.in-Err.ensures.too_many _ _ every gave) s before h all known in
    completes_err g.P.Stepper.rules _ _ _ _ _ _ _ _ _ _ ends.refused
    (cause_next ℕ c.in-Err.error _ _ _ _ _ _ _ _ c.fault_of.ensures c.in-Err.ensures.answers.told c.run.invariant.1) faultless.read faultless.written
