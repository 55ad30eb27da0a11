-- What a runner that replays recorded answers says to a command line: a finite map from questions to outputs.
use Rattle.std.specs.Prelude.{List, Option}
use Rattle.std.specs.Map.{lookup}
use Rattle.indexmap.specs.IndexMap.{insert_entry}
use Rattle.base_text_outside.specs.declared.command.CommandLine.{CommandLine}
use Rattle.base_text_outside.specs.declared.command.Output.{Output}
use Rattle.base_text_outside.specs.declared.command.Question.{Question}
use Rattle.base_text_outside.specs.Command.{question_of, same_question}

-- the recorded output of the question that a command line asks
abbrev pub answer_of : List (Question × Output) → CommandLine → Option Output
answer_of answers line = lookup (same_question (question_of line)) answers

-- the recorded outputs with one more, in place of an earlier one to the same question
abbrev pub with_answer : Question → Output → List (Question × Output) → List (Question × Output)
with_answer question output answers = insert_entry same_question answers question output
