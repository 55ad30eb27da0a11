use Rattle.live.proofs.TwoTexts.{sessions_join}
use Rattle.live.proofs.laws.sessions_join.Goals as goal

pub returns : goal.returns
returns c = sessions_join
