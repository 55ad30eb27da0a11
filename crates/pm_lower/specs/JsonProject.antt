-- A JSON project as a load reads it: the project of the document, and what the compiler of its toolchain says
-- in its directory. The order is that of rust-analyzer's `ProjectWorkspace::load`.
use Rattle.std.specs.Prelude.{ℕ, List, Ok}
use Rattle.base_text_outside.specs.declared.limits.Limits.{Limits}
use Rattle.pm_cargo_config.specs.declared.config.CargoConfig.{CargoConfig}
use Rattle.pm_json.specs.Queries.{project_base}
use Rattle.pm_json.specs.declared.project_json.ProjectJson.{ProjectJson}
use Rattle.pm_lower_load.specs.ToolAnswers.{compiler_answers}
use Rattle.pm_lower_load.specs.JsonDocument.{json_content, stated_sysroot}
use Rattle.base_values.specs.Outcome.{◌>>=◌}
use Rattle.pm_lower_load.specs.Loading.{Loading, of_reading}
use Rattle.pm_lower.specs.Project.{project_of_workspace}
use Rattle.pm_lower.specs.declared.project_workspace.ProjectWorkspace.{ProjectWorkspace}
use Rattle.pm_lower.specs.declared.project_workspace.ProjectWorkspaceKind.TheVariants as of
use Rattle.pm_cargo_reading.specs.Reading.{Reading}
use Rattle.pm_tools_ask.specs.Ask.{Means}

-- a project with what the compiler of its toolchain says in its directory; nothing refuses it
unfoldable pub inline_project : ProjectJson → CargoConfig → Means → Reading ProjectWorkspace
inline_project project config means =
    let sysroot = stated_sysroot project in
    let answers = compiler_answers sysroot (project_base project) config.target means in
    Ok (project_of_workspace sysroot config answers (of.Json project))

-- the project of a document's path
unfoldable pub json_project : List ℕ → CargoConfig → Limits → Means → Loading ProjectWorkspace
json_project path config limits means = do
  project ← json_content path limits means.files
  of_reading (inline_project project config means)
