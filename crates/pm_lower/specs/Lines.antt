-- The lines by which loads and builds of projects say how far they have come. The texts are those of
-- rust-analyzer's `ProjectWorkspace::load`.
use Rattle.std.specs.Prelude.{ℕ, List, [], ◌∷◌, ◌++◌, codes, Option, Some, None, Ok, Err}
use Rattle.std.specs.List.{flat_map}
use Rattle.base_values.specs.Version.{Parts}
use Rattle.base_text_outside.specs.declared.command.CommandLine.{CommandLine}
use Rattle.base_text_outside.specs.declared.command.Output.{Output}
use Rattle.base_text_outside.specs.declared.limits.Limits.{Limits}
use Rattle.pm_tools.specs.Lines.{build_lines, lines_of, shared_lines}
use Rattle.pm_cargo.specs.Workspace.{Workspace}
use Rattle.pm_cargo_config.specs.declared.config.CargoConfig.{CargoConfig}
use Rattle.pm_json.specs.declared.project_json.ProjectJson.{ProjectJson}
use Rattle.pm_lower_load.specs.JsonDocument.{json_content}
use Rattle.pm_lower_load.specs.Loading.{Loading}
use Rattle.pm_lower_load.specs.Located.{located_manifest}
use Rattle.pm_lower_load.specs.Metadata.{metadata_lines}
use Rattle.pm_lower_load.specs.ToolAnswers.{tool_answers}
use Rattle.pm_lower_load.specs.declared.tool_answers.PlatformAsked.TheVariants.{FirstTarget}
use Rattle.pm_lower.specs.Builds.{built_workspace, command_for_all, workspaces_of}
use Rattle.pm_lower.specs.declared.project_workspace.ProjectWorkspace.{ProjectWorkspace}
use Rattle.pm_tools_ask.specs.Ask.{Means}
use Rattle.pm_tools_ask.specs.Sysroot.{empty_sysroot}
use Rattle.pm_tools_ask.specs.Toolchain.{Toolchain}
use Rattle.pm_tools_ask.specs.declared.project_manifest.ProjectManifest.{ProjectManifest}
use Rattle.pm_tools_ask.specs.declared.project_manifest.ProjectManifest.TheVariants.{ProjectJson as Json, CargoToml, CargoScript}

-- ---- loads

-- the first part of a load
abbrev pub sysroot_line : List ℕ
sysroot_line = codes "discovering sysroot"

-- the second part
abbrev pub metadata_line : List ℕ
metadata_line = codes "querying project metadata"

-- the lines behind the root that was located: none where there is none, else those of fetching its metadata,
-- behind the second part
abbrev pub lines_of_root : Toolchain → CargoConfig → Means → Loading (List ℕ) → List (List ℕ)
lines_of_root sysroot config means (Err error) = []
lines_of_root sysroot config means (Ok manifest) =
    metadata_line
    ∷ metadata_lines sysroot manifest config (tool_answers sysroot manifest FirstTarget config means) means

-- the lines of a project of cargo: its root is located in the first part
abbrev pub cargo_lines : Toolchain → List ℕ → CargoConfig → Means → List (List ℕ)
cargo_lines sysroot manifest config means =
    sysroot_line ∷ lines_of_root sysroot config means (located_manifest sysroot manifest means)

-- the lines of a document that was read: none where it is refused
abbrev pub lines_of_document : Loading ProjectJson → List (List ℕ)
lines_of_document (Err error) = []
lines_of_document (Ok project) = sysroot_line ∷ metadata_line ∷ []

-- the lines of a load, by the kind of the manifest: a detached file gives none
abbrev pub load_lines : ProjectManifest → CargoConfig → Limits → Means → List (List ℕ)
load_lines (Json path) config limits means = lines_of_document (json_content path limits means.files)
load_lines (CargoToml manifest) config limits means = cargo_lines empty_sysroot manifest config means
load_lines (CargoScript file) config limits means = []

-- ---- builds

-- the lines of a build of the workspace that it counts for, if there is one
abbrev pub build_lines_for : CargoConfig → Toolchain → Option Parts → Means → Option Workspace → List (List ℕ)
build_lines_for config sysroot version means None = []
build_lines_for config sysroot version means (Some cargo) = build_lines config cargo sysroot version means

-- the lines of a build of a project
abbrev pub project_build_lines : CargoConfig → Means → ProjectWorkspace → List (List ℕ)
project_build_lines config means p =
    build_lines_for config p.sysroot p.toolchain means (built_workspace p.kind)

-- the lines of reading the output of a build for the workspace that it counts for, if there is one
abbrev pub output_lines_for : Option Workspace → Output → List (List ℕ)
output_lines_for None output = []
output_lines_for (Some cargo) output = lines_of cargo output

-- the lines of reading the output of a build for a project
abbrev pub project_output_lines : ProjectWorkspace → Output → List (List ℕ)
project_output_lines p output = output_lines_for (built_workspace p.kind) output

-- the lines of builds of some projects: those of one build by this command, or else of one build each
abbrev pub builds_lines_by : List ProjectWorkspace → CargoConfig → Means → Option CommandLine → List (List ℕ)
builds_lines_by projects config means (Some line) = shared_lines line (workspaces_of projects) means.answers
builds_lines_by projects config means None = flat_map (project_build_lines config means) projects

-- the lines of builds of some projects; a build of all is asked for in the directory
abbrev pub all_build_lines : List ProjectWorkspace → CargoConfig → List ℕ → Means → List (List ℕ)
all_build_lines projects config dir means =
    builds_lines_by projects config means (command_for_all config dir means config.invocation_strategy)
