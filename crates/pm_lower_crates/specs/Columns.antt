-- What is known of a row's crate beside its root file and its dependencies: each column is a function of the
-- facts of its part, of the package and of the target. The rule is that of rust-analyzer's
-- `add_target_crate_root`.
use Rattle.std.specs.Prelude.{ℕ, List, [], Option, Some, None, if◌then◌else◌}
use Rattle.std.specs.Option.{option_map_or}
use Rattle.semver.specs.Identifiers.{parts_text}
use Rattle.base_text_paths.specs.CfgOrder.{with_atoms}
use Rattle.base_text_outside.specs.declared.cfg.CfgAtom.{CfgAtom}
use Rattle.base_text_paths.specs.declared.edition.Edition.{Edition}
use Rattle.crate_graph_values.specs.Builder.{workspace_of}
use Rattle.crate_graph_values.specs.Names.{DisplayName, shown_as}
use Rattle.crate_graph_values.specs.Origin.{lang_origin_of}
use Rattle.crate_graph_values.specs.declared.builder.CrateBuilder.{CrateBuilder}
use Rattle.crate_graph_values.specs.declared.origin.CrateOrigin.{CrateOrigin}
use Rattle.crate_graph_values.specs.declared.origin.CrateOrigin.TheVariants.{Local, Library, Lang}
use Rattle.crate_graph_values.specs.declared.origin.LangCrateOrigin.{LangCrateOrigin}
use Rattle.crate_graph_values.specs.declared.origin.LangCrateOrigin.TheVariants.{Dependency}
use Rattle.crate_graph_values.specs.declared.target_kind.TargetKind.{TargetKind}
use Rattle.crate_graph_values.specs.declared.workspace_data.CrateWorkspaceData.{CrateWorkspaceData}
use Rattle.pm_cargo_config.specs.Overrides.{atoms_with_overrides}
use Rattle.base_text_paths.specs.ManifestPath.{directory_of}
use Rattle.pm_cargo_packages.specs.declared.package.PackageData.{PackageData}
use Rattle.pm_cargo.specs.Workspace.{Workspace}
use Rattle.pm_lower_crates.specs.Facts.{Facts}
use Rattle.pm_lower_crates.specs.Rows.{Row}

-- the columns of a crate
pub record Columns : Type 0 where
  pub edition : Edition
  pub target_kind : TargetKind
  pub display_name : Option DisplayName
  pub version : Option (List ℕ)
  pub origin : CrateOrigin
  pub attributes : List (List ℕ)
  pub directory : List ℕ
  pub cfgs : List CfgAtom
  pub potential_cfgs : Option (List CfgAtom)
  pub environment : List (List ℕ × List ℕ)
  pub workspace_data : CrateWorkspaceData

-- ---- of any part

-- the atoms that hold in the crates of a name: those of the compiler, and then what a user changes for all
-- crates and for those of the name
unfoldable pub cfgs_of : Facts → List ℕ → List CfgAtom
cfgs_of facts name = atoms_with_overrides facts.overrides name (with_atoms [] facts.atoms)

-- ---- of a Cargo workspace

-- in a sysroot a local package is the language's crate of its name, and any other a dependency of these
abbrev pub lang_of : PackageData → LangCrateOrigin
lang_of p = if p.is_local then lang_origin_of p.name else Dependency

-- outside a sysroot the crates of a local package are local, by its repository and its name, and those of any
-- other a library's
unfoldable pub origin_of : Facts → PackageData → CrateOrigin
origin_of facts p =
    if facts.in_sysroot then Lang (lang_of p)
    else if p.is_local then Local p.repository (Some p.name) else Library p.repository p.name

-- the directory that a package's crates run in: of a member that of the workspace, and of any other package
-- that of its manifest
unfoldable pub working_directory : Workspace → PackageData → List ℕ
working_directory w p = if p.is_member then w.workspace_root else directory_of p.manifest

-- the variables of the crates of the package with a number: those that its build sets
unfoldable pub environment_of : Facts → ℕ → List (List ℕ × List ℕ)
environment_of facts number = option_map_or (λ output. output.envs) (facts.outputs number) []

-- the columns of a row
unfoldable pub columns_of : Facts → Workspace → Row → Columns
columns_of facts w row = record {
  edition = row.of.edition;
  target_kind = row.target.kind;
  display_name = Some (shown_as row.target.name);
  version = Some (parts_text row.of.version);
  origin = origin_of facts row.of;
  attributes = [];
  directory = working_directory w row.of;
  cfgs = cfgs_of facts row.of.name;
  potential_cfgs = None;
  environment = environment_of facts row.of_number;
  workspace_data = facts.shared;
}

-- ---- of a graph

-- the columns of a crate of a graph
abbrev pub columns_seen : CrateBuilder → Columns
columns_seen krate = record {
  edition = krate.basic.edition;
  target_kind = krate.basic.target_kind;
  display_name = krate.extra.display_name;
  version = krate.extra.version;
  origin = krate.basic.origin;
  attributes = krate.basic.crate_attrs;
  directory = krate.basic.proc_macro_cwd;
  cfgs = krate.cfg_options;
  potential_cfgs = krate.extra.potential_cfg_options;
  environment = krate.env;
  workspace_data = workspace_of krate;
}
