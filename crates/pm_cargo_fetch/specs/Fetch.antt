-- What fetching metadata answers, by the answers of the runner: the full answer decides, and the light
-- metadata stands in for one that is not ok.
use Rattle.std.specs.Prelude.{◌≡◌, ℕ, Bool, true, if◌then◌else◌, List, Option, Some, None, Result, Ok, Err}
use Rattle.base_text_outside.specs.Runner.{answer_of}
use Rattle.base_text_outside.specs.declared.command.CommandLine.{CommandLine}
use Rattle.base_text_outside.specs.declared.command.Output.{Output}
use Rattle.base_text_outside.specs.declared.command.Question.{Question}
use Rattle.cargo_meta.specs.Answer as metadata
use Rattle.cargo_meta.specs.Answer.{json_line, line_text, of_line}
use Rattle.cargo_meta.specs.Command.{Settings, metadata_command}
use Rattle.cargo_meta_values.specs.declared.errors.Error.{Error}
use Rattle.cargo_meta_values.specs.declared.errors.Error.TheVariants.{CargoMetadata, Io, Json, NoJson, OutOfMemory}
use Rattle.cargo_meta.specs.declared.metadata.Metadata.{Metadata}
use Rattle.pm_cargo_config.specs.Variables.{with_channel}
use Rattle.pm_cargo_config.specs.declared.metadata_config.CargoMetadataConfig.{CargoMetadataConfig}
use Rattle.base_text.specs.declared.tool_root.ToolRoot.{ToolRoot}
use Rattle.pm_cargo_fetch.specs.Options.{full_options, has_unstable}
use Rattle.pm_cargo_fetch.specs.Questions.{full_question, light_question, locked_question}

-- metadata, or why there is none, and beside metadata the error of the full question, if it has one
abbrev pub FetchAnswer : Type 0
FetchAnswer = Result (Metadata × Option Error) Error

-- what is ready to be fetched: the full question, whether the light answer is enough, and what that answer is
pub record Fetch : Type 0 where
  pub full : CommandLine
  pub no_deps : Bool
  pub light : Result Metadata Error

-- the full question by the settings of a command without options, and by the options
abbrev pub full_line : Settings → List (List ℕ) → CommandLine
full_line set options =
    with_channel (has_unstable options) (metadata_command (record set {
      other_options = full_options options;
    }))

-- what is ready to be fetched, by those settings and options
abbrev pub fetch_by : Settings → List (List ℕ) → Bool → List (Question × Output) → Fetch
fetch_by set options no_deps answers =
    let line = metadata_command (record set { other_options = options; no_deps = true }) in
    record {
      full = full_line set options;
      no_deps = no_deps;
      light = metadata.of_answer line (answer_of answers line);
    }

-- the light question is answered at once
abbrev pub fetch_of : List ℕ → List ℕ → CargoMetadataConfig → ToolRoot → Bool → List (Question × Output)
    → Fetch
fetch_of manifest dir config root no_deps answers =
    let line = light_question manifest dir config root in
    record {
      full = full_question manifest dir config root;
      no_deps = no_deps;
      light = metadata.of_answer line (answer_of answers line);
    }

-- metadata with nothing beside it
abbrev pub without_error : Result Metadata Error → FetchAnswer
without_error (Ok m) = Ok (m, None)
without_error (Err e) = Err e

-- the light metadata stands in, with the error beside it; where there is none, the error stands alone
abbrev pub light_in_place : Result Metadata Error → Error → FetchAnswer
light_in_place (Ok m) error = Ok (m, Some error)
light_in_place (Err e) error = Err error

-- what is fetched where the full question has that output
abbrev pub output_answer : Result Metadata Error → Output → FetchAnswer
output_answer light output =
    if output.ok then without_error (of_line (json_line output.out))
    else light_in_place light (CargoMetadata output.err)

-- what is fetched where the full question has that answer, if it has one
abbrev pub of_full : Result Metadata Error → CommandLine → Option Output → FetchAnswer
of_full light line None = Err (Io (line_text line))
of_full light line (Some output) = output_answer light output

-- a call returns what the command of a line wrote, or that it was not started, unless memory ran out
abbrev pub HasOutput : Result Output Error → CommandLine → Option Output → Type 0
HasOutput (Ok output) line answer = answer ≡ Some output
HasOutput (Err (CargoMetadata stderr)) line answer = ⊥
HasOutput (Err (Io text)) line answer = (answer ≡ None) × (text ≡ line_text line)
HasOutput (Err (Json field)) line answer = ⊥
HasOutput (Err NoJson) line answer = ⊥
HasOutput (Err OutOfMemory) line answer = Unit {0}

-- what is fetched
abbrev pub fetch_answer : Fetch → Bool → List (Question × Output) → FetchAnswer
fetch_answer fetch locked answers =
    let line = locked_question fetch.full locked in
    if fetch.no_deps then without_error fetch.light else of_full fetch.light line (answer_of answers line)

-- a call answers exactly that, unless memory ran out
abbrev pub AnswersFetch : FetchAnswer → FetchAnswer → Type 0
AnswersFetch (Ok m) wanted = wanted ≡ Ok m
AnswersFetch (Err (CargoMetadata stderr)) wanted = wanted ≡ Err (CargoMetadata stderr)
AnswersFetch (Err (Io line)) wanted = wanted ≡ Err (Io line)
AnswersFetch (Err (Json field)) wanted = wanted ≡ Err (Json field)
AnswersFetch (Err NoJson) wanted = wanted ≡ Err NoJson
AnswersFetch (Err OutOfMemory) wanted = Unit {0}
