use Rattle.pm_json.proofs.Equalities.{projects_are_equal}
use Rattle.pm_json.proofs.laws.equality_of_projects_is_content.Goals as goal

pub returns : goal.returns
returns c = projects_are_equal c.equality_of_crates_is_content.ensures c.equality_of_stated_parts_is_content.ensures.runnables
