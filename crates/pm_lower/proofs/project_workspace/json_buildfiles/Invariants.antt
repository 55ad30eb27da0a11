use Rattle.std.proofs.Common.{◌≡◌, flat_map, take}
use Rattle.pm_json.specs.Queries.{crates_in, project_base}
use Rattle.pm_lower.specs.ProjectWorkspace.{build_file_of}
use Rattle.pm_lower.proofs.project_workspace.json_buildfiles.Given as goal

abbrev pub invariant-loop-krate : goal.invariant-loop-krate
invariant-loop-krate l = l.files.items ≡ flat_map (build_file_of (project_base l.project)) (take l.krate-index (crates_in l.project))
