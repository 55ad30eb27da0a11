-- Questions and their answers: the test of two command lines decides whether they ask the same, and the last answer to a
-- question counts.
use Rattle.std.proofs.Common.{◌≡◌, ◌↔◌, Bool, IsTrue, List, Some, cond, if◌then◌else◌, ap, sym, ◌∙◌}
use Rattle.std.specs.Cmp.Lexicographic.{pointwise_decides, bytes_decides}
use Rattle.std.proofs.lemmas.Bool.Decides.{Decides-and}
use Rattle.std.specs.Map.{lookup}
use Rattle.base_text_outside.specs.declared.command.CommandLine.{CommandLine}
use Rattle.base_text_outside.specs.declared.command.Output.{Output}
use Rattle.base_text_outside.specs.declared.command.Question.{Question}
use Rattle.base_text_outside.specs.Command.{AsksSame, asks_same, question_of, same_question}
use Rattle.base_text_outside.specs.Runner.{answer_of}

pub asks_same_tells : (a b : CommandLine) (r : Bool) → r ≡ asks_same a b → IsTrue r ↔ AsksSame a b
asks_same_tells a b r e =
    let rest = Decides-and _ _ (pointwise_decides bytes_decides a.words b.words) (bytes_decides a.dir b.dir) in
    let all = Decides-and _ _ (bytes_decides a.program b.program) rest in (
      λ h. let p = all.0 (sym e ∙ h) in record { program = p.0; words = p.1.0; dir = p.1.1 },
      λ s. e ∙ all.1 (s.program, (s.words, s.dir)),
    )

-- once an output was recorded for a question, it is the answer to that question, and others have theirs
pub later_answer : (before old now : List (Question × Output)) (line : CommandLine) (question : Question)
    (output value : Output) (asked : CommandLine)
    → question ≡ question_of line → value ≡ output → before ≡ old
    → lookup (same_question (question_of asked)) now
    ≡ cond (same_question question (question_of asked)) (Some value) (lookup (same_question (question_of asked)) before)
    → answer_of now asked ≡ (if asks_same line asked then Some output else answer_of old asked)
later_answer before old now line question output value asked same_question_is same_output same_before found =
    let test = same_question (question_of line) (question_of asked) in
    found
    ∙ ap (λ q. cond (same_question q (question_of asked)) (Some value) (answer_of before asked)) same_question_is
    ∙ ap (λ v. cond test (Some v) (answer_of before asked)) same_output
    ∙ ap (λ es. cond test (Some output) (answer_of es asked)) same_before
