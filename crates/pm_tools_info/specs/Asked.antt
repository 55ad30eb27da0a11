-- How a question is asked: of cargo, and failing that of the compiler; or of one tool alone.
use Rattle.std.specs.Prelude.{◌≡◌, ℕ, List, codes, Result, Ok, Err}
use Rattle.std.specs.Option.{ok_or, option_and_then, option_or}
use Rattle.base_text_outside.specs.declared.command.Output.{Output}
use Rattle.base_text_outside.specs.declared.command.Question.{Question}
use Rattle.cargo_meta.specs.Answer.{line_text}
use Rattle.pm_tools_ask.specs.Answers.{serving_answer}
use Rattle.pm_tools_info.specs.declared.query_error.QueryError.{QueryError}
use Rattle.pm_tools_info.specs.declared.query_error.QueryError.TheVariants.{Failed, NoHost, BadSpec, OutOfMemory}
use Rattle.pm_tools_info.specs.declared.questions.Questions.{Questions}

-- the first answer that serves, that to the first question before that to the last; without one, the line of
-- the last
abbrev pub answer_to : List (Question × Output) → Questions → Result (List ℕ) QueryError
answer_to answers questions =
    ok_or
    (option_or (option_and_then (serving_answer answers) questions.first) (serving_answer answers questions.last))
    (Failed (line_text questions.last))

-- what is read of an answer, where there is one
abbrev pub reading_of_answer : {T : Type 0} → (List ℕ → Result T QueryError) → Result (List ℕ) QueryError
    → Result T QueryError
reading_of_answer reads (Ok text) = reads text
reading_of_answer reads (Err error) = Err error

-- a call answers exactly that, unless memory ran out
abbrev pub AnswersQuery : {T : Type 0} → Result T QueryError → Result T QueryError → Type 0
AnswersQuery (Ok value) wanted = wanted ≡ Ok value
AnswersQuery (Err (Failed line)) wanted = wanted ≡ Err (Failed line)
AnswersQuery (Err NoHost) wanted = wanted ≡ Err NoHost
AnswersQuery (Err BadSpec) wanted = wanted ≡ Err BadSpec
AnswersQuery (Err OutOfMemory) wanted = Unit {0}

-- an error prints its name
abbrev pub query_error_text : QueryError → List ℕ
query_error_text (Failed line) = codes "Failed"
query_error_text NoHost = codes "NoHost"
query_error_text BadSpec = codes "BadSpec"
query_error_text OutOfMemory = codes "OutOfMemory"
