-- The order of metadata has no effect on the project that is loaded from it.
use Rattle.std.specs.Prelude.{◌≡◌, ℕ, List, Option, Some, Ok}
use Rattle.base_text_outside.specs.declared.limits.Limits.{Limits}
use Rattle.cargo_meta.specs.declared.metadata.Metadata.{Metadata}
use Rattle.cargo_meta_values.specs.declared.errors.Error.{Error}
use Rattle.pm_cargo_config.specs.declared.config.CargoConfig.{CargoConfig}
use Rattle.pm_lower.specs.DetachedProject.{detached_with}
use Rattle.pm_lower.specs.Project.{project_with}
use Rattle.pm_lower.specs.declared.project_workspace.ProjectWorkspace.{ProjectWorkspace}
use Rattle.pm_lower_load.specs.declared.tool_answers.ToolAnswers.{ToolAnswers}
use Rattle.pm_tools_ask.specs.Ask.{Means}
use Rattle.pm_tools_ask.specs.Toolchain.{Toolchain}

-- where both give a project, with everything else equal, the projects are equal
abbrev pub IsLoadedAlike : Metadata → Metadata → Type 0
IsLoadedAlike a b =
    (sysroot : Toolchain) (manifest : List ℕ) (config : CargoConfig) (answers : ToolAnswers) (limits : Limits)
    (means : Means)
    (error : Option Error) (p q : ProjectWorkspace)
    → project_with sysroot manifest config answers limits means (a, error) ≡ Ok p
    → project_with sysroot manifest config answers limits means (b, error) ≡ Ok q → p ≡ q

-- the same of the project that cargo reads a detached file as
abbrev pub IsDetachedAlike : Metadata → Metadata → Type 0
IsDetachedAlike a b =
    (sysroot : Toolchain) (file : List ℕ) (config : CargoConfig) (answers : ToolAnswers) (limits : Limits)
    (means : Means)
    (error : Option Error) (p q : ProjectWorkspace)
    → detached_with sysroot file config answers limits means (Some (a, error)) ≡ Ok p
    → detached_with sysroot file config answers limits means (Some (b, error)) ≡ Ok q → p ≡ q
