-- The lines that a progress takes while the full question is asked: its start, what `cargo` wrote to its
-- error stream, whether it failed, and its end.
use Rattle.std.specs.Prelude.{ℕ, Bool, false, ◌||◌, if◌then◌else◌, nat_eq, List, [], ◌∷◌, ◌++◌, codes, Option, Some, None}
use Rattle.std.specs.List.{starts_with}
use Rattle.std.specs.Str.Lines.{lines}
use Rattle.base_text_outside.specs.Runner.{answer_of}
use Rattle.base_text_outside.specs.declared.command.Output.{Output}
use Rattle.base_text_outside.specs.declared.command.Question.{Question}
use Rattle.pm_cargo_fetch.specs.Fetch.{Fetch}
use Rattle.pm_cargo_fetch.specs.Questions.{locked_question}

-- the line is the first of an error or of a warning
abbrev pub begins_error : List ℕ → Bool
begins_error line = starts_with nat_eq line (codes "error") || starts_with nat_eq line (codes "warning")

-- the line as it is reported, shown or hidden
abbrev pub reported_line : Bool → List ℕ → List ℕ
reported_line is_hidden line =
    if is_hidden then codes "cargo metadata: ?" else codes "cargo metadata: " ++ line

-- the lines of an error stream as they are reported: each is hidden that begins an error or a warning, or
-- follows a hidden one
unfoldable pub stream_lines : Bool → List (List ℕ) → List (List ℕ)
stream_lines is_hidden [] = []
stream_lines is_hidden (line ∷ more) =
    let hides = is_hidden || begins_error line in reported_line hides line ∷ stream_lines hides more

-- a command that failed is said to have failed
abbrev pub failure_lines : Bool → List (List ℕ)
failure_lines ok = if ok then [] else codes "cargo metadata: failed" ∷ []

-- what is reported of an output; the first line of its error stream follows no hidden one
abbrev pub output_lines : Output → List (List ℕ)
output_lines output = stream_lines false (lines output.err) ++ failure_lines output.ok

-- what is reported of an answer, if there is one
abbrev pub answer_lines : Option Output → List (List ℕ)
answer_lines None = []
answer_lines (Some output) = output_lines output

-- the lines of a question that has this answer, if it has one
abbrev pub question_lines : Option Output → List (List ℕ)
question_lines answer =
    codes "cargo metadata: started" ∷ answer_lines answer ++ codes "cargo metadata: finished" ∷ []

-- the lines while metadata is fetched: none where the light answer is enough
abbrev pub fetch_lines : Fetch → Bool → List (Question × Output) → List (List ℕ)
fetch_lines fetch locked answers =
    if fetch.no_deps then [] else question_lines (answer_of answers (locked_question fetch.full locked))
