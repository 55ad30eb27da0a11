use Rattle.live_project.proofs.BuildLemmas.{built_alone}
use Rattle.live_project.proofs.laws.a_build_replaces_the_one_before.Goals as goal

pub returns : goal.returns
returns c = built_alone
