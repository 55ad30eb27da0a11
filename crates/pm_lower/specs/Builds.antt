-- Builds of projects: what a build gives one project, or several, which may share one build; and a project
-- with what a build gave. The rules are those of rust-analyzer's `ProjectWorkspace`.
use Rattle.std.specs.Prelude.{◌≡◌, ◌⊎◌, ℕ, true, List, [], ◌∷◌, map, Option, Some, None, Result, Ok}
use Rattle.std.specs.FinMap.{empty}
use Rattle.std.specs.List.{flat_map}
use Rattle.std.specs.Option.{option_map}
use Rattle.base_values.specs.Version.{Parts}
use Rattle.base_text_outside.specs.declared.command.CommandLine.{CommandLine}
use Rattle.base_text_outside.specs.declared.command.Output.{Output}
use Rattle.pm_tools.specs.Build.{build_of}
use Rattle.pm_tools.specs.Outputs.{BuildScripts, outputs_of}
use Rattle.base_values.specs.Outcome.{◌>>=◌}
use Rattle.pm_tools.specs.Reading.{Gives, Reading}
use Rattle.pm_tools.specs.SharedBuild.{SharedBuild, scripts_for, shared_build}
use Rattle.pm_tools.specs.declared.build_error.BuildError.{BuildError}
use Rattle.pm_tools.specs.Question.{configured_question}
use Rattle.pm_cargo.specs.Workspace.{Workspace}
use Rattle.pm_cargo_config.specs.declared.config.CargoConfig.{CargoConfig}
use Rattle.pm_cargo_config.specs.declared.config.InvocationStrategy.{InvocationStrategy}
use Rattle.pm_cargo_config.specs.declared.config.InvocationStrategy.TheVariants.{Once, PerWorkspace}
use Rattle.pm_lower.specs.ProjectWorkspace.{ScriptPart, has_cargo_workspace}
use Rattle.pm_lower.specs.declared.project_workspace.ProjectWorkspace.{ProjectWorkspace}
use Rattle.pm_lower.specs.declared.project_workspace.ProjectWorkspaceKind.{ProjectWorkspaceKind}
use Rattle.pm_lower.specs.declared.project_workspace.ProjectWorkspaceKind.TheVariants.{Cargo, Json, DetachedFile}
use Rattle.pm_tools_ask.specs.Ask.{Means}
use Rattle.pm_tools_ask.specs.Toolchain.{Toolchain}

-- no outputs and no error
abbrev pub no_scripts : BuildScripts
no_scripts = record { outputs = empty; error = None }

-- ---- one project

-- a workspace that builds count for: none where the light metadata stands in for the full one
abbrev pub unless_light : Workspace → Option (List ℕ) → Option Workspace
unless_light cargo None = Some cargo
unless_light cargo (Some error) = None

-- the workspace of a detached file that its builds count for
abbrev pub built_script : Option ScriptPart → Option Workspace
built_script None = None
built_script (Some script) = unless_light script.0 script.2

-- the workspace of a kind of project that its builds count for
abbrev pub built_workspace : ProjectWorkspaceKind → Option Workspace
built_workspace (Cargo cargo error scripts rustc) = unless_light cargo error
built_workspace (Json project) = None
built_workspace (DetachedFile file script) = built_script script

-- what the output of a build gives the workspace that it counts for, if there is one
abbrev pub outputs_for : Option Workspace → Output → Reading BuildScripts
outputs_for None output = Ok no_scripts
outputs_for (Some cargo) output = outputs_of cargo output

-- what the output of a build gives a project
abbrev pub project_outputs : ProjectWorkspace → Output → Reading BuildScripts
project_outputs p output = outputs_for (built_workspace p.kind) output

-- what a build gives the workspace that it counts for; without one there are no outputs, whatever is answered
abbrev pub build_for : CargoConfig → Toolchain → Option Parts → Means → Option Workspace
    → Reading BuildScripts
build_for config sysroot version means None = Ok no_scripts
build_for config sysroot version means (Some cargo) = build_of config cargo sysroot version means

-- what a build of a project gives
abbrev pub project_build : CargoConfig → Means → ProjectWorkspace → Reading BuildScripts
project_build config means p = build_for config p.sysroot p.toolchain means (built_workspace p.kind)

-- ---- several projects

-- the workspaces of a kind of project that a build of all covers: that of a project of cargo
abbrev pub kind_workspaces : ProjectWorkspaceKind → List Workspace
kind_workspaces (Cargo cargo error scripts rustc) = cargo ∷ []
kind_workspaces (Json project) = []
kind_workspaces (DetachedFile file script) = []

-- those of some projects
abbrev pub workspaces_of : List ProjectWorkspace → List Workspace
workspaces_of projects = flat_map (λ p. kind_workspaces p.kind) projects

-- what a build of all gives a kind of project: a project of cargo its packages' outputs, or the refusal, and
-- any other nothing
abbrev pub kind_share : Reading SharedBuild → ProjectWorkspaceKind → Reading BuildScripts
kind_share build (Cargo cargo error scripts rustc) = build >>= λ shared. Ok (scripts_for shared cargo)
kind_share build (Json project) = Ok no_scripts
kind_share build (DetachedFile file script) = Ok no_scripts

-- the command whose answer counts for all projects, where it is configured so
abbrev pub command_for_all : CargoConfig → List ℕ → Means → InvocationStrategy → Option CommandLine
command_for_all config dir means Once = configured_question config.run_build_script_command dir means
command_for_all config dir means PerWorkspace = None

-- what builds of some projects give each of them: one build by this command, or else one build each
abbrev pub builds_by : List ProjectWorkspace → CargoConfig → Means → Option CommandLine
    → List (Reading BuildScripts)
builds_by projects config means (Some line) =
    map (λ p. kind_share (shared_build line (workspaces_of projects) means.answers) p.kind) projects
builds_by projects config means None = map (project_build config means) projects

-- what builds of some projects give each of them; a build of all is asked for in the directory
abbrev pub all_builds : List ProjectWorkspace → CargoConfig → List ℕ → Means → List (Reading BuildScripts)
all_builds projects config dir means =
    builds_by projects config means (command_for_all config dir means config.invocation_strategy)

-- a call returns what each of the readings gives, in order, except that one may run out of memory
abbrev pub GivesEach : {T : Type 0} → List (Result T BuildError) → List (Reading T) → Type 0
GivesEach [] [] = Unit {0}
GivesEach (result ∷ results) (reading ∷ readings) = Gives result reading × GivesEach results readings
GivesEach results readings = ⊥

-- ---- a project with what a build gave

-- a kind of project can be given this: it has a Cargo workspace, or nothing is given
abbrev pub TakesBuild : ProjectWorkspaceKind → BuildScripts → Type 0
TakesBuild kind scripts = (has_cargo_workspace kind ≡ true) ⊎ (scripts ≡ no_scripts)

-- the project of a detached file, with this in place of what a build gave it before
abbrev pub script_with_build : BuildScripts → ScriptPart → ScriptPart
script_with_build scripts script = (script.0, scripts, script.2)

-- a kind of project with this in place of what a build gave it before
abbrev pub kind_with_build_scripts : ProjectWorkspaceKind → BuildScripts → ProjectWorkspaceKind
kind_with_build_scripts (Cargo cargo error before rustc) scripts = Cargo cargo error scripts rustc
kind_with_build_scripts (Json project) scripts = Json project
kind_with_build_scripts (DetachedFile file script) scripts =
    DetachedFile file (option_map (script_with_build scripts) script)

-- a project with this in place of what a build gave it before
abbrev pub with_build_scripts : ProjectWorkspace → BuildScripts → ProjectWorkspace
with_build_scripts p scripts = record p { kind = kind_with_build_scripts p.kind scripts }
