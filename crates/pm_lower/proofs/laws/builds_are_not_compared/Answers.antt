use Rattle.pm_lower.proofs.EqualityLemmas.{project_itself}
use Rattle.pm_lower.proofs.laws.builds_are_not_compared.Goals as goal

pub returns : goal.returns
returns c = project_itself
