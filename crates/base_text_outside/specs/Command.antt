-- What a command line asks of a runner: its program, words and directory. The environment plays no part.
use Rattle.std.specs.Prelude.{◌≡◌, ◌&&◌, Bool, bytes_eq}
use Rattle.std.specs.Cmp.Lexicographic.{pointwise}
use Rattle.base_text_outside.specs.declared.command.CommandLine.{CommandLine}
use Rattle.base_text_outside.specs.declared.command.Question.{Question}

-- the question that a command line asks
abbrev pub question_of : CommandLine → Question
question_of line = record { program = line.program; words = line.words; dir = line.dir }

-- whether two questions are the same, as a test
abbrev pub same_question : Question → Question → Bool
same_question a b =
    bytes_eq a.program b.program && (pointwise bytes_eq a.words b.words && bytes_eq a.dir b.dir)

-- the same program, words and directory
pub record AsksSame (a b : CommandLine) : Type 0 where
  pub program : a.program ≡ b.program
  pub words : a.words ≡ b.words
  pub dir : a.dir ≡ b.dir

-- the same as a test
abbrev pub asks_same : CommandLine → CommandLine → Bool
asks_same a b = same_question (question_of a) (question_of b)
