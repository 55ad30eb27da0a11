use Rattle.std.proofs.Common.{◌∙◌, Err, ap, subst}
use Rattle.std.proofs.lemmas.Result.{err_from_is_err_and}
use Rattle.base_text.specs.Progress.{TakesFront-none}
use Rattle.pm_cargo_fetch.specs.Fetch.{AnswersFetch, Fetch, fetch_answer}
use Rattle.pm_cargo_fetch.specs.Reports.{fetch_lines}
use Rattle.pm_cargo_fetch.proofs.Lines.{TakesLines-same, TakesLines-stopped}
use Rattle.pm_lower_load.proofs.metadata.fetch_as.Goals as goal

pub returns-in_err-fetch-clause-lines : goal.returns-in_err-fetch-clause-lines
returns-in_err-fetch-clause-lines g c =
    let p = err_from_is_err_and c.from_residual.result c.from_residual.ensures.1 in
    TakesLines-stopped (p.1 ∙ ap Err p.2) (TakesFront-none (g.P.Progress.lines c.args.progress.now) _)

pub returns-clause-answer : goal.returns-clause-answer
returns-clause-answer g c =
    subst (λ (f : Fetch). AnswersFetch c.exec.result (fetch_answer f c.args.fetching.locked (g.R.Runner.answers c.args.runner.now))) c.in_ok-fetch.ensures c.exec.ensures.answer

pub returns-clause-lines : goal.returns-clause-lines
returns-clause-lines g c =
    TakesLines-same c.exec.ensures.lines (ap (λ (f : Fetch). fetch_lines f c.args.fetching.locked (g.R.Runner.answers c.args.runner.now)) c.in_ok-fetch.ensures)
