-- a project, as rust-analyzer reads a `rust-project.json` on a base directory; its standard library may be a
-- project of its own
use Rattle.std.specs.Prelude.{ℕ, if◌then◌else◌, nat_lt, List, length, Option, Some, None, Ok, Err}
use Rattle.std.specs.Option.{option_map}
use Rattle.base_text_outside.specs.declared.limits.Limit.TheVariants.{Crates}
use Rattle.pm_json.specs.declared.project_json_data.ProjectJsonData.{ProjectJsonData}
use Rattle.pm_json.specs.declared.project_json_data.ProjectJsonData.TheFolds.{fold-ProjectJsonData}
use Rattle.pm_json.specs.declared.project_json_data.ProjectJsonData.TheOpen.{ProjectJsonData-F}
use Rattle.pm_json.specs.Crates.{absolute_from, crates_on_base}
use Rattle.base_values.specs.Outcome.{◌>>=◌}
use Rattle.pm_json.specs.Refusals.{Reading, under}
use Rattle.pm_json.specs.declared.project_json.ProjectJson.{ProjectJson}
use Rattle.pm_json.specs.declared.project_json.ProjectJson.TheViews.{roll-ProjectJson}
use Rattle.pm_json.specs.declared.workspace_json_error.WorkspaceJsonError.TheVariants.{TooMany}

-- a document's project, given the path of the document and the base directory
abbrev pub OnBase : Type 0
OnBase = Option (List ℕ) → List ℕ → Reading ProjectJson

-- the project of the standard library, read on the directory of its sources; with no such directory there is
-- none
abbrev pub sysroot_project_of : Option (List ℕ) → Option OnBase → Reading (Option ProjectJson)
sysroot_project_of None inner = Ok None
sysroot_project_of (Some source) None = Ok None
sysroot_project_of (Some source) (Some inner) = under Some (inner None source)

-- one level of a project, given how the project of its standard library is read
unfoldable pub level_read : ProjectJsonData-F OnBase → OnBase
level_read stated manifest base = do
  crates ← crates_on_base base stated.cfg_groups stated.crates
  sysroot_project ← sysroot_project_of (option_map (absolute_from base) stated.sysroot_src)
      stated.sysroot_project
  Ok (roll-ProjectJson (record {
    sysroot = option_map (absolute_from base) stated.sysroot;
    sysroot_src = option_map (absolute_from base) stated.sysroot_src;
    sysroot_project = sysroot_project;
    project_root = base;
    manifest = manifest;
    crates = crates;
    runnables = stated.runnables;
  }))

-- the same, where the level has no more crates than the limit
unfoldable pub level_within_limit : ℕ → ProjectJsonData-F OnBase → OnBase
level_within_limit limit stated manifest base =
    if nat_lt limit (length stated.crates) then Err (TooMany Crates) else level_read stated manifest base

-- the project of a document, each of whose levels has no more crates than the limit
abbrev pub project_of : ℕ → ProjectJsonData → OnBase
project_of limit = fold-ProjectJsonData OnBase (level_within_limit limit)
