use Rattle.pm_cargo.proofs.ShuffleLemmas.{shuffle-read}
use Rattle.pm_cargo.proofs.laws.shuffled_documents_give_one_workspace.Goals as goal

pub returns : goal.returns
returns c = shuffle-read
