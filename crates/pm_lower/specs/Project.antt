-- A Cargo project as a load reads it: which question is asked of what, and which refusal comes first. Each
-- step is the definition of its own call in a lower crate. The order is that of rust-analyzer's
-- `ProjectWorkspace::load`.
use Rattle.std.specs.Prelude.{ℕ, false, List, Option, None, Ok, Err}
use Rattle.std.specs.Option.{option_map}
use Rattle.base_text_outside.specs.declared.limits.Limits.{Limits}
use Rattle.cargo_meta.specs.declared.metadata.Metadata.{Metadata}
use Rattle.cargo_meta_values.specs.Errors.{metadata_error_text}
use Rattle.cargo_meta_values.specs.declared.errors.Error.{Error}
use Rattle.pm_cargo.specs.ReadWorkspace.{read_workspace}
use Rattle.pm_cargo.specs.Workspace.{Workspace}
use Rattle.pm_cargo_config.specs.declared.config.CargoConfig.{CargoConfig}
use Rattle.pm_lower_load.specs.Located.{located_manifest}
use Rattle.base_values.specs.Outcome.{◌>>=◌}
use Rattle.pm_lower_load.specs.Loading.{Loading, of_fetch, of_reading}
use Rattle.pm_lower_load.specs.Metadata.{environment, metadata_answer}
use Rattle.pm_lower_load.specs.ToolAnswers.{tool_answers}
use Rattle.pm_lower_load.specs.declared.tool_answers.PlatformAsked.TheVariants.{FirstTarget}
use Rattle.pm_lower_load.specs.declared.tool_answers.ToolAnswers.{ToolAnswers}
use Rattle.pm_lower.specs.Builds.{no_scripts}
use Rattle.pm_lower.specs.declared.project_workspace.ProjectWorkspace.{ProjectWorkspace}
use Rattle.pm_lower.specs.declared.project_workspace.ProjectWorkspaceKind.{ProjectWorkspaceKind}
use Rattle.pm_lower.specs.declared.project_workspace.ProjectWorkspaceKind.TheVariants as of
use Rattle.pm_tools_ask.specs.Ask.{Means}
use Rattle.pm_tools_ask.specs.Toolchain.{Toolchain}

-- a workspace as a kind of project, with why the light metadata stood in, where it did; nothing is built yet
abbrev pub kind_of_project : Option Error → Workspace → ProjectWorkspaceKind
kind_of_project error cargo = of.Cargo cargo (option_map metadata_error_text error) no_scripts (Err None)

-- the workspace of metadata, as a kind of project
unfoldable pub kind_with : List ℕ → CargoConfig → ToolAnswers → Limits → Means → Metadata × Option Error
    → Loading ProjectWorkspaceKind
kind_with manifest config answers limits means metadata =
    of_reading
    (read_workspace metadata.0 manifest (environment answers.config_file config means) false limits)
    >>= λ cargo.
    Ok (kind_of_project metadata.1 cargo)

-- the project of a workspace
abbrev pub project_of_workspace : Toolchain → CargoConfig → ToolAnswers → ProjectWorkspaceKind
    → ProjectWorkspace
project_of_workspace sysroot config answers kind = record {
  kind = kind;
  sysroot = sysroot;
  rustc_cfg = answers.rustc_cfg;
  toolchain = answers.toolchain;
  target = answers.target;
  cfg_overrides = config.cfg_overrides;
  extra_includes = config.extra_includes;
  set_test = config.set_test;
}

-- the project of metadata
unfoldable pub project_with : Toolchain → List ℕ → CargoConfig → ToolAnswers → Limits → Means
    → Metadata × Option Error → Loading ProjectWorkspace
project_with sysroot manifest config answers limits means metadata =
    kind_with manifest config answers limits means metadata >>= λ kind.
    Ok (project_of_workspace sysroot config answers kind)

-- the project of a located manifest
unfoldable pub located_project : Toolchain → List ℕ → CargoConfig → Limits → Means → Loading ProjectWorkspace
located_project sysroot manifest config limits means =
    let answers = tool_answers sysroot manifest FirstTarget config means in
    of_fetch (metadata_answer sysroot manifest config answers means) >>= λ metadata.
    project_with sysroot manifest config answers limits means metadata

-- the project of a manifest: the workspace's root is located first, then its metadata is fetched by what the
-- tools say of it, and then the workspace is read
unfoldable pub cargo_project : Toolchain → List ℕ → CargoConfig → Limits → Means → Loading ProjectWorkspace
cargo_project sysroot manifest config limits means = do
  located ← located_manifest sysroot manifest means
  let answers = tool_answers sysroot located FirstTarget config means
  metadata ← of_fetch (metadata_answer sysroot located config answers means)
  kind ← kind_with located config answers limits means metadata
  Ok (project_of_workspace sysroot config answers kind)
