-- Which answers serve: those of commands that succeeded, used without the white space at both ends.
use Rattle.std.specs.Prelude.{ℕ, if◌then◌else◌, List, Option, Some, None}
use Rattle.std.specs.Option.{option_and_then}
use Rattle.std.specs.Str.{trim}
use Rattle.base_text_outside.specs.Runner.{answer_of}
use Rattle.base_text_outside.specs.declared.command.CommandLine.{CommandLine}
use Rattle.base_text_outside.specs.declared.command.Output.{Output}
use Rattle.base_text_outside.specs.declared.command.Question.{Question}

-- the text of an output, where its command succeeded
abbrev pub serving_text : Output → Option (List ℕ)
serving_text output = if output.ok then Some (trim output.out) else None

-- the text of the recorded answer to a command line, where there is one and its command succeeded
abbrev pub serving_answer : List (Question × Output) → CommandLine → Option (List ℕ)
serving_answer answers line = option_and_then serving_text (answer_of answers line)
