use Rattle.live_script.proofs.Causes.{cause_turn}
use Rattle.live_script.proofs.Lines.{line_ends, line_missed, line_refused}
use Rattle.live_script.proofs.run.take_line.Goals as goal

pub returns-in-Ok-clause-err : goal.returns-in-Ok-clause-err
returns-in-Ok-clause-err g c = line_ends g.P.Stepper.rules _ c.args.line.now c.args.number _ _ _ _ _ c.in-Ok.ensures c.take.ensures.err

pub returns-in-Ok-clause-cause : goal.returns-in-Ok-clause-cause
returns-in-Ok-clause-cause g c = cause_turn _ _ _ c.take.ensures.cause

pub returns-in-Err-Refused-clause-err : goal.returns-in-Err-Refused-clause-err
returns-in-Err-Refused-clause-err g c = λ s before h. line_refused g.P.Stepper.rules c.args.line.now c.args.number _ _ s before (rw c.in-Err-Refused.field-0-is at c.in-Err-Refused.ensures) h

pub returns-in-Err-Refused-clause-rest : goal.returns-in-Err-Refused-clause-rest
returns-in-Err-Refused-clause-rest g c = record { kept = g.met.P.Stepper.keeps_itself _ _; going = tt }

pub returns-in-Err-OutOfMemory-clause-err : goal.returns-in-Err-OutOfMemory-clause-err
returns-in-Err-OutOfMemory-clause-err g c = λ s before h. line_missed g.P.Stepper.rules c.args.line.now c.args.number _ _ s before h

pub returns-in-Err-OutOfMemory-clause-rest : goal.returns-in-Err-OutOfMemory-clause-rest
returns-in-Err-OutOfMemory-clause-rest g c = record { kept = g.met.P.Stepper.keeps_itself _ _; going = tt }
