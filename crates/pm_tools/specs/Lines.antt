-- The lines by which reading the output of a build says how far it has come: one for each build script of a
-- known package, each library that a package gains, and each message of the compiler, in the order of the
-- messages. The texts are those of rust-analyzer's `WorkspaceBuildScripts`.
use Rattle.std.specs.Prelude.{ℕ, Bool, false, if◌then◌else◌, List, [], ◌∷◌, ◌++◌, codes, slice_get, Option, None, Some, Ok, Err}
use Rattle.std.specs.FinMap.{get}
use Rattle.std.specs.Option.{option_map, option_map_or, unwrap_or}
use Rattle.std.specs.Str.Lines.{lines}
use Rattle.base_values.specs.Version.{Parts}
use Rattle.base_text_outside.specs.Runner.{answer_of}
use Rattle.base_text_outside.specs.declared.command.CommandLine.{CommandLine}
use Rattle.base_text_outside.specs.declared.command.Output.{Output}
use Rattle.base_text_outside.specs.declared.command.Question.{Question}
use Rattle.cargo_msgs.specs.Messages.{message_of}
use Rattle.cargo_msgs.specs.declared.artifact.Artifact.{Artifact}
use Rattle.cargo_msgs.specs.declared.messages.Message.{Message}
use Rattle.cargo_msgs.specs.declared.messages.Message.TheVariants as message
use Rattle.pm_cargo.specs.Workspace.{Workspace}
use Rattle.pm_cargo_config.specs.declared.config.CargoConfig.{CargoConfig}
use Rattle.pm_cargo_packages.specs.declared.package.PackageData.{PackageData}
use Rattle.pm_cargo_reading.specs.Nodes.{place_of_package}
use Rattle.pm_tools_ask.specs.Ask.{Means}
use Rattle.pm_tools_ask.specs.Toolchain.{Toolchain}
use Rattle.pm_tools.specs.Question.{build_question}
use Rattle.pm_tools.specs.Artifact.{gives_library}
use Rattle.pm_tools.specs.Outputs.{BuildState, Outputs, start_state, take_output_line}
use Rattle.pm_tools.specs.Packages.{packages_of_all}
use Rattle.pm_tools.specs.Reading.{Reading}

-- ---- the lines of one message

-- the name of the package at a place
abbrev pub name_at : List PackageData → ℕ → List ℕ
name_at packages place = unwrap_or (option_map (λ p. p.name) (slice_get packages place)) []

-- the line of a build script of a package
abbrev pub script_line : List ℕ → List ℕ
script_line name = codes "build script " ++ (name ++ codes " run")

-- the line of a library that a package gains
abbrev pub library_line : List ℕ → List ℕ
library_line name = codes "proc-macro " ++ (name ++ codes " built")

-- the line of a message of the compiler, which speaks of a target
abbrev pub compiler_line : List ℕ → List ℕ
compiler_line target = codes "received compiler message for: " ++ target

-- whether an artifact gives the package at a place its library
abbrev pub gains_library : Outputs → Artifact → ℕ → Bool
gains_library outputs artifact place =
    option_map_or (λ output. gives_library artifact output.proc_macro_dylib_path) (get outputs place) false

-- the lines of an artifact of the package at a place: those of an unknown package are none
abbrev pub artifact_lines : List PackageData → Outputs → Artifact → Option ℕ → List (List ℕ)
artifact_lines packages outputs artifact None = []
artifact_lines packages outputs artifact (Some place) =
    if gains_library outputs artifact place then library_line (name_at packages place) ∷ [] else []

-- the lines of a build script of the package at a place: those of an unknown package are none
abbrev pub script_lines : List PackageData → Option ℕ → List (List ℕ)
script_lines packages None = []
script_lines packages (Some place) = script_line (name_at packages place) ∷ []

-- the lines of a message, by the outputs so far
abbrev pub message_lines : List PackageData → Outputs → Message → List (List ℕ)
message_lines packages outputs (message.CompilerArtifact a) =
    artifact_lines packages outputs a (place_of_package packages a.package_id.repr)
message_lines packages outputs (message.BuildScriptExecuted script) =
    script_lines packages (place_of_package packages script.package_id.repr)
message_lines packages outputs (message.CompilerMessage m) = compiler_line m.target.name ∷ []
message_lines packages outputs (message.BuildFinished end) = []
message_lines packages outputs (message.TextLine line) = []

-- ---- the lines of an output

-- the lines of the messages from a state on, up to those of the first message that is refused
unfoldable pub lines_from : List PackageData → Reading BuildState → List (List ℕ) → List (List ℕ)
lines_from packages (Err e) output = []
lines_from packages (Ok s) [] = []
lines_from packages (Ok s) (line ∷ output) =
    message_lines packages s.outputs (message_of line)
    ++ lines_from packages (take_output_line packages s line) output

-- the lines that reading the output of a build among some packages gives
abbrev pub lines_among : List PackageData → Output → List (List ℕ)
lines_among packages output = lines_from packages (Ok (start_state packages)) (lines output.out)

-- those of the output of a build of a workspace
abbrev pub lines_of : Workspace → Output → List (List ℕ)
lines_of w output = lines_among w.packages output

-- ---- the lines of a build

-- none where its question has no answer, else those of the output
abbrev pub lines_of_answer : List PackageData → Option Output → List (List ℕ)
lines_of_answer packages None = []
lines_of_answer packages (Some output) = lines_among packages output

-- the lines of a build of a workspace
abbrev pub build_lines : CargoConfig → Workspace → Toolchain → Option Parts → Means → List (List ℕ)
build_lines config w sysroot version means =
    lines_of_answer w.packages (answer_of means.answers (build_question config w sysroot version means))

-- the lines of one build of several workspaces, by this command
abbrev pub shared_lines : CommandLine → List Workspace → List (Question × Output) → List (List ℕ)
shared_lines line workspaces answers = lines_of_answer (packages_of_all workspaces) (answer_of answers line)
