-- the table of a project, which may hold a project, in the field order of `rust-project.json`
use Rattle.std.specs.Prelude.{ℕ, [], codes, Ok}
use Rattle.serde_json.specs.Data.{Data, object, string, no_members}
use Rattle.serde_json.specs.Read.{max_depth}
use Rattle.json_fields.specs.Cfg.{cfg_at, cfg_data}
use Rattle.json_fields.specs.Fields.{default_member, list_at, map_at, members_at, optional_member, required_member, text_at}
use Rattle.json_fields.specs.Nested.{within_levels, or_null}
use Rattle.base_values.specs.Outcome.{◌>>=◌}
use Rattle.json_fields.specs.Outcome.{Reading}
use Rattle.json_fields.specs.Written.{list_data, map_data, option_data, set_member}
use Rattle.pm_json.specs.CrateData.{crate_at, crate_data}
use Rattle.pm_json.specs.Parts.{runnable_at, runnable_data}
use Rattle.pm_json.specs.declared.project_json_data.ProjectJsonData.{ProjectJsonData}
use Rattle.pm_json.specs.declared.project_json_data.ProjectJsonData.TheFolds.{fold-ProjectJsonData}
use Rattle.pm_json.specs.declared.project_json_data.ProjectJsonData.TheOpen.{ProjectJsonData-F}
use Rattle.pm_json.specs.declared.project_json_data.ProjectJsonData.TheViews.{roll-ProjectJsonData}

-- one level of a project, whose inner project is read by `inner`
unfoldable pub project_row : (Data → Reading ProjectJsonData) → Data → Reading ProjectJsonData
project_row inner d = do
  ms ← members_at d
  sysroot ← optional_member (codes "sysroot") text_at ms
  sysroot_src ← optional_member (codes "sysroot_src") text_at ms
  sysroot_project ← optional_member (codes "sysroot_project") inner ms
  cfg_groups ← default_member (codes "cfg_groups") [] (map_at (list_at cfg_at)) ms
  crates ← required_member (codes "crates") (list_at crate_at) ms
  runnables ← default_member (codes "runnables") [] (list_at runnable_at) ms
  Ok (roll-ProjectJsonData (record {
    sysroot = sysroot;
    sysroot_src = sysroot_src;
    sysroot_project = sysroot_project;
    cfg_groups = cfg_groups;
    crates = crates;
    runnables = runnables;
  }))

-- a project of at most n levels
abbrev pub project_within : ℕ → Data → Reading ProjectJsonData
project_within = within_levels project_row

-- a project, of as many levels as a document may have
unfoldable pub project_at : Data → Reading ProjectJsonData
project_at = project_within max_depth

-- one level of a project, whose inner project is written
unfoldable pub project_level : ProjectJsonData-F Data → Data
project_level p =
    object (set_member (codes "runnables") (list_data runnable_data p.runnables)
    (set_member (codes "crates") (list_data crate_data p.crates)
    (set_member (codes "cfg_groups") (map_data (list_data cfg_data) p.cfg_groups)
    (set_member (codes "sysroot_project") (or_null p.sysroot_project)
    (set_member (codes "sysroot_src") (option_data string p.sysroot_src)
    (set_member (codes "sysroot") (option_data string p.sysroot) no_members))))))

-- the document of a project
abbrev pub project_data : ProjectJsonData → Data
project_data = fold-ProjectJsonData Data project_level
