use Rattle.live.proofs.Turns.{steps_err, steps_ok, steps_stay}
use Rattle.live.proofs.run.LiveStepper.take.Goals as goal

pub returns-clause-ok : goal.returns-clause-ok
returns-clause-ok g c = steps_ok _ _ _ _ _ _ c.turn.ensures.ok

pub returns-clause-err : goal.returns-clause-err
returns-clause-err g c = steps_err _ _ _ _ _ _ c.turn.ensures.err

pub returns-clause-rest : goal.returns-clause-rest
returns-clause-rest g c = steps_stay _ _ _ _ c.requires c.turn.ensures.rest
