use Rattle.pm_lower.proofs.ProjectLemmas.{project-order}
use Rattle.pm_lower.proofs.laws.shuffled_metadata_gives_one_project.Goals as goal

pub returns : goal.returns
returns c = project-order
