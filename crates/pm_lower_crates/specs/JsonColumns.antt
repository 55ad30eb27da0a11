-- What is known of a row's crate beside its root file and its dependencies: each column is a function of the
-- facts of its part and of the crate. The rule is that of rust-analyzer's `project_json_to_crate_graph`.
use Rattle.std.specs.Prelude.{ℕ, List, [], map, Option, Some, None, if◌then◌else◌}
use Rattle.std.specs.Option.{option_map_or, unwrap_or}
use Rattle.crate_graph.specs.Graph.{attribute}
use Rattle.crate_graph_values.specs.Names.{DisplayName}
use Rattle.crate_graph_values.specs.Origin.{lang_origin_of}
use Rattle.crate_graph_values.specs.declared.origin.CrateOrigin.{CrateOrigin}
use Rattle.crate_graph_values.specs.declared.origin.CrateOrigin.TheVariants.{Lang, Local}
use Rattle.crate_graph_values.specs.declared.origin.LangCrateOrigin.TheVariants.{Dependency}
use Rattle.crate_graph_values.specs.declared.target_kind.TargetKind.TheVariants.{Lib}
use Rattle.pm_json.specs.Queries.{project_base}
use Rattle.pm_json.specs.declared.krate.Crate.{Crate}
use Rattle.pm_json.specs.declared.project_json.ProjectJson.{ProjectJson}
use Rattle.pm_lower_crates.specs.Columns.{Columns, cfgs_of}
use Rattle.pm_lower_crates.specs.Facts.{Facts}

-- a crate is local, by its repository and its name; one without a name is local by neither
abbrev pub local_origin : Option (List ℕ) → Option DisplayName → CrateOrigin
local_origin repository (Some name) = Local repository (Some name.canonical_name)
local_origin repository None = Local None None

-- in a sysroot a crate is the language's one of its name, and one without a name a dependency of these
abbrev pub lang_origin : Option DisplayName → CrateOrigin
lang_origin (Some name) = Lang (lang_origin_of name.canonical_name)
lang_origin None = Lang Dependency

-- where a crate comes from
abbrev pub json_origin : Facts → Crate → CrateOrigin
json_origin facts krate =
    if facts.in_sysroot then lang_origin krate.display_name
    else local_origin krate.repository krate.display_name

-- the name by which a user changes the atoms of a crate: the one that it is shown under, or the empty one
abbrev pub name_of : Crate → List ℕ
name_of krate = option_map_or (λ name. name.canonical_name) krate.display_name []

-- the directory of a crate is the one that is stated, else that of the project
abbrev pub crate_directory : ProjectJson → Crate → List ℕ
crate_directory project krate = unwrap_or krate.proc_macro_cwd (project_base project)

-- the columns of a crate of a project
unfoldable pub json_columns : Facts → ProjectJson → Crate → Columns
json_columns facts project krate = record {
  edition = krate.edition;
  target_kind = Lib krate.is_proc_macro;
  display_name = krate.display_name;
  version = krate.version;
  origin = json_origin facts krate;
  attributes = map attribute krate.crate_attrs;
  directory = crate_directory project krate;
  cfgs = cfgs_of facts (name_of krate);
  potential_cfgs = None;
  environment = [];
  workspace_data = facts.shared;
}
