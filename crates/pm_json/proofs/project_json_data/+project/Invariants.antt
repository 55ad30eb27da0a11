use Rattle.std.proofs.Common.{◌+◌, ◌*◌}
use Rattle.pm_json.proofs.project_json_data.+project.Given as goal

abbrev pub decreases-read_project : goal.decreases-read_project
decreases-read_project l = 3 * l.left

abbrev pub decreases-read_level : goal.decreases-read_level
decreases-read_level l = 3 * l.inner + 2

abbrev pub decreases-project_found : goal.decreases-project_found
decreases-project_found l = 3 * l.left + 1
