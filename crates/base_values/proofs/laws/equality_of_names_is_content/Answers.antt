use Rattle.base_values.proofs.Equalities.{tagged, texts}
use Rattle.base_values.proofs.laws.equality_of_names_is_content.Goals as goal

pub returns : goal.returns
returns g c = tagged _ texts
