-- What is fetched, by whether the command of the full question wrote anything.
use Rattle.std.proofs.Common.{◌≡◌, ◌∙◌, List, Bool, false, Option, Some, Err, ap, cond, subst, sym}
use Rattle.std.specs.Prelude.{Result}
use Rattle.base_text_outside.specs.Runner.{answer_of}
use Rattle.base_text_outside.specs.declared.command.CommandLine.{CommandLine}
use Rattle.base_text_outside.specs.declared.command.Output.{Output}
use Rattle.base_text_outside.specs.declared.command.Question.{Question}
use Rattle.cargo_meta.specs.declared.metadata.Metadata.{Metadata}
use Rattle.cargo_meta_values.specs.declared.errors.Error.{Error}
use Rattle.cargo_meta_values.specs.declared.errors.Error.TheVariants.{CargoMetadata, Io, Json, NoJson, OutOfMemory}
use Rattle.pm_cargo_fetch.specs.Fetch.{AnswersFetch, Fetch, FetchAnswer, HasOutput, fetch_answer, of_full, output_answer, without_error}
use Rattle.pm_cargo_fetch.specs.Questions.{locked_question}

-- the command was not started
not_started : (light : Result Metadata Error) (line : CommandLine) (answer : Option Output) (e : Error) → HasOutput (Err e) line answer → AnswersFetch (Err e) (of_full light line answer)
not_started light line answer (CargoMetadata stderr) h = absurd h
not_started light line answer (Io text) h = ap (of_full light line) h.0 ∙ ap (λ t. Err (Io t)) (sym h.1)
not_started light line answer (Json field) h = absurd h
not_started light line answer NoJson h = absurd h
not_started light line answer OutOfMemory h = record {}

module _ (whole fetch : Fetch) (same : fetch ≡ whole) (locked : Bool) (answers : List (Question × Output)) (asks : fetch.no_deps ≡ false) where
  -- the full question decides
  by_full : of_full fetch.light (locked_question fetch.full locked) (answer_of answers (locked_question fetch.full locked)) ≡ fetch_answer whole locked answers
  by_full = let line = locked_question fetch.full locked in
      ap (λ b. cond b (without_error fetch.light) (of_full fetch.light line (answer_of answers line))) (sym asks) ∙ ap (λ (f : Fetch). fetch_answer f locked answers) same

  -- the command was not started
  pub output-refused : (e : Error) → HasOutput (Err e) (locked_question fetch.full locked) (answer_of answers (locked_question fetch.full locked)) → AnswersFetch (Err e) (fetch_answer whole locked answers)
  output-refused e h =
      let line = locked_question fetch.full locked in
      subst (λ (wanted : FetchAnswer). AnswersFetch (Err e) wanted) by_full (not_started fetch.light line (answer_of answers line) e h)

  -- the command wrote this
  pub output-given : (output : Output) (result : FetchAnswer) → answer_of answers (locked_question fetch.full locked) ≡ Some output → AnswersFetch result (output_answer fetch.light output)
      → AnswersFetch result (fetch_answer whole locked answers)
  output-given output result is h =
      subst (λ (wanted : FetchAnswer). AnswersFetch result wanted) by_full (subst (λ (a : Option Output). AnswersFetch result (of_full fetch.light (locked_question fetch.full locked) a)) (sym is) h)
