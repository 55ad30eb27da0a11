-- A detached file as a load reads it, which is a Rust file that may hold its own manifest: what the tools say
-- of it, and the project that cargo reads it as, where there is metadata. It is refused as that is. The order
-- is that of rust-analyzer's `ProjectWorkspace::load_detached_file`.
use Rattle.std.specs.Prelude.{ℕ, false, List, Option, Some, None, Ok, Err}
use Rattle.std.specs.Option.{option_map}
use Rattle.base_text_outside.specs.declared.limits.Limits.{Limits}
use Rattle.cargo_meta.specs.declared.metadata.Metadata.{Metadata}
use Rattle.cargo_meta_values.specs.Errors.{metadata_error_text}
use Rattle.cargo_meta_values.specs.declared.errors.Error.{Error}
use Rattle.pm_cargo.specs.ReadWorkspace.{read_workspace}
use Rattle.pm_cargo.specs.Workspace.{Workspace}
use Rattle.pm_cargo_config.specs.declared.config.CargoConfig.{CargoConfig}
use Rattle.pm_cargo_fetch.specs.Fetch.{FetchAnswer}
use Rattle.pm_lower_load.specs.Metadata.{metadata_answer}
use Rattle.pm_lower_load.specs.ToolAnswers.{tool_answers}
use Rattle.pm_lower_load.specs.declared.tool_answers.PlatformAsked.TheVariants.{NoTarget}
use Rattle.pm_lower_load.specs.declared.tool_answers.ToolAnswers.{ToolAnswers}
use Rattle.pm_lower.specs.Builds.{no_scripts}
use Rattle.pm_lower.specs.Project.{project_of_workspace}
use Rattle.pm_lower.specs.ProjectWorkspace.{ScriptPart}
use Rattle.pm_lower.specs.declared.project_workspace.ProjectWorkspace.{ProjectWorkspace}
use Rattle.pm_lower.specs.declared.project_workspace.ProjectWorkspaceKind.{ProjectWorkspaceKind}
use Rattle.pm_lower.specs.declared.project_workspace.ProjectWorkspaceKind.TheVariants as of
use Rattle.base_values.specs.Outcome.{◌>>=◌}
use Rattle.pm_cargo_reading.specs.Reading.{Reading}
use Rattle.pm_tools_ask.specs.Ask.{Means}
use Rattle.pm_tools_ask.specs.Toolchain.{Toolchain}
use Rattle.pm_tools_ask.specs.ConfigEnv.{config_env}

-- the metadata that is fetched; a failed answer means that there is none
abbrev pub metadata_or_none : FetchAnswer → Option (Metadata × Option Error)
metadata_or_none (Ok metadata) = Some metadata
metadata_or_none (Err error) = None

-- a workspace as the project of a file, with why the light metadata stood in, where it did; nothing is built
-- yet
abbrev pub script_of : Option Error → Workspace → ScriptPart
script_of error cargo = (cargo, no_scripts, option_map metadata_error_text error)

-- the project that cargo reads a file as, where there is metadata; its environment is the one that the
-- printed configuration gives, and no variable is set behind it
abbrev pub script_with : List ℕ → Option (List ℕ) → Limits → Means → Option (Metadata × Option Error)
    → Reading (Option ScriptPart)
script_with file printed limits means None = Ok None
script_with file printed limits means (Some metadata) =
    read_workspace metadata.0 file (config_env printed means) false limits >>= λ cargo.
    Ok (Some (script_of metadata.1 cargo))

-- a file as a kind of project, with what is fetched of it
abbrev pub detached_kind : List ℕ → Option (List ℕ) → Limits → Means → Option (Metadata × Option Error)
    → Reading ProjectWorkspaceKind
detached_kind file printed limits means metadata =
    script_with file printed limits means metadata >>= λ script. Ok (of.DetachedFile file script)

-- the project of a file, with what is fetched of it
unfoldable pub detached_with : Toolchain → List ℕ → CargoConfig → ToolAnswers → Limits → Means
    → Option (Metadata × Option Error) → Reading ProjectWorkspace
detached_with sysroot file config answers limits means metadata =
    script_with file answers.config_file limits means metadata >>= λ script.
    Ok (project_of_workspace sysroot config answers (of.DetachedFile file script))

-- the project of a file; atoms and the machine are asked of no platform by name
unfoldable pub detached_project : Toolchain → List ℕ → CargoConfig → Limits → Means → Reading ProjectWorkspace
detached_project sysroot file config limits means = do
  let answers = tool_answers sysroot file NoTarget config means
  let metadata = metadata_or_none (metadata_answer sysroot file config answers means)
  script ← script_with file answers.config_file limits means metadata
  Ok (project_of_workspace sysroot config answers (of.DetachedFile file script))
