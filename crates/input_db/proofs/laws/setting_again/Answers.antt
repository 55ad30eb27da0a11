use Rattle.input_db.proofs.SetAgain.{set_again}
use Rattle.input_db.proofs.laws.setting_again.Goals as goal

pub returns : goal.returns
returns c = set_again
