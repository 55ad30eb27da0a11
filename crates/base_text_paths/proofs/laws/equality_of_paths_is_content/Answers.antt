use Rattle.base_text_paths.proofs.Equalities.{paths}
use Rattle.base_text_paths.proofs.laws.equality_of_paths_is_content.Goals as goal

pub returns : goal.returns
returns c = paths
