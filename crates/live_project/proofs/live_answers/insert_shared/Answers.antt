use Rattle.std.proofs.Common.{◌≡◌, ◌∙◌, ap, inl, inr}
use Rattle.std.specs.Result.{is_ok}
use Rattle.std.proofs.lemmas.Result.{on_ok_weaker}
use Rattle.base_text_outside.specs.Command.{question_of}
use Rattle.base_text_outside.specs.Runner.{with_answer}
use Rattle.live_project.proofs.live_answers.insert_shared.Goals as goal

pub returns-clause-ok : goal.returns-clause-ok
returns-clause-ok c =
    let same : c.in_ok-answers.answers.now ≡ c.args.answers.now.value = elim c.in_ok-answers.ensures.value [ inl e ↦ e | inr e ↦ e ] in
    let held : (c.make_mut.follows.lender c.insert.new.self).value ≡ c.insert.new.self = c.make_mut.follows.holds c.insert.new.self (ap is_ok c.in_ok-answers.was) in
    on_ok_weaker c.insert.result (λ is. held ∙ is ∙ ap (with_answer (question_of c.args.line) c.args.output) same) c.insert.ensures.ok
