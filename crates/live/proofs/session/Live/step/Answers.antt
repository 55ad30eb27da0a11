use Rattle.live.proofs.Turns.{step_leaves}
use Rattle.live.proofs.session.Live.step.Goals as goal

pub returns-in-Err-turn-clause-rest : goal.returns-in-Err-turn-clause-rest
returns-in-Err-turn-clause-rest g c =
    step_leaves c.args.event.now c.in-Ok.event c.in-Err-turn.error c.args.self.now c.turn.new.self c.in-Ok.ensures.same c.in-Err-turn.ensures.rest
