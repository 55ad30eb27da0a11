use Rattle.std.proofs.Common.{rules}
use Rattle.pm_json.specs.ProjectJsonData.{project_data}
use Rattle.pm_json.specs.laws.ProjectJsonData.{project-round_trips}
use Rattle.pm_json.proofs.project_json_data.ProjectJsonData.of_value.Goals as goal

pub returns-clause-again : goal.returns-clause-again
returns-clause-again c = let again = c.of_value.ensures.again project_data 0 project-round_trips in search rules
