use Rattle.live_script.proofs.Joins.{sessions_join}
use Rattle.live_script.proofs.laws.sessions_join.Goals as goal

pub returns : goal.returns
returns g c = sessions_join g.P.Stepper.rules.turn
