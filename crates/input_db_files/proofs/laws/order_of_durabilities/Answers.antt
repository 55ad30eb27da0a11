use Rattle.input_db_files.proofs.LawLemmas.{ordered_by_level}
use Rattle.input_db_files.proofs.laws.order_of_durabilities.Goals as goal

pub returns : goal.returns
returns c = ordered_by_level
