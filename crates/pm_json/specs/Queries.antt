-- what a project is asked: the first of its members, or of its runnables, that is meant
use Rattle.std.specs.Prelude.{ℕ, Bool, ◌&&◌, false, bytes_eq, List, find, Option}
use Rattle.std.specs.Option.{option_map_or}
use Rattle.base_text_paths.specs.PathOrder.{path_eq}
use Rattle.pm_json.specs.declared.parts.Runnable.{Runnable}
use Rattle.pm_json.specs.declared.krate.Build.{Build}
use Rattle.pm_json.specs.declared.krate.Crate.{Crate}
use Rattle.pm_json.specs.declared.project_json.ProjectJson.{ProjectJson, out-ProjectJson}

-- the crates of a project
abbrev pub crates_in : ProjectJson → List Crate
crates_in project = (out-ProjectJson project).crates

-- the runnables of a project
abbrev pub runnables_in : ProjectJson → List Runnable
runnables_in project = (out-ProjectJson project).runnables

-- the base directory of a project
abbrev pub project_base : ProjectJson → List ℕ
project_base project = (out-ProjectJson project).project_root

-- the path of a project's document, where it has one
abbrev pub document_path : ProjectJson → Option (List ℕ)
document_path project = (out-ProjectJson project).manifest

-- the crate is a member with that property
abbrev pub is_member_that : (Crate → Bool) → Crate → Bool
is_member_that test krate = krate.is_workspace_member && test krate

-- the first member with that property
abbrev pub first_member : (Crate → Bool) → ProjectJson → Option Crate
first_member test project = find (is_member_that test) (crates_in project)

-- the crate begins in the file
abbrev pub begins_in : List ℕ → Crate → Bool
begins_in root krate = path_eq krate.root_module root

-- the crate has a build with that property
abbrev pub has_build : (Build → Bool) → Crate → Bool
has_build test krate = option_map_or test krate.build false

-- the build has the label
abbrev pub has_label : List ℕ → Build → Bool
has_label label build = bytes_eq build.label label

-- the file describes the build: what the document states is the file's text
abbrev pub is_described_in : List ℕ → Build → Bool
is_described_in file build = bytes_eq build.build_file file
