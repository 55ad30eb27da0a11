use Rattle.pm_lower.proofs.DetachedLemmas.{detached-order}
use Rattle.pm_lower.proofs.laws.shuffled_metadata_gives_one_detached_project.Goals as goal

pub returns : goal.returns
returns c = detached-order
