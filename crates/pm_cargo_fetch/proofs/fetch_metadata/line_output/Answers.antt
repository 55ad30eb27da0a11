use Rattle.std.proofs.Common.{◌≡◌, ◌∙◌, Err, ap, codes}
use Rattle.std.proofs.lemmas.Result.{err_from_is_err_and}
use Rattle.base_text_outside.specs.Runner.{answer_of}
use Rattle.pm_cargo_fetch.specs.Reports.{question_lines}
use Rattle.pm_cargo_fetch.proofs.Lines.{TakesLines-same, TakesLines-stopped, TakesLines-whole}
use Rattle.pm_cargo_fetch.proofs.Reports.{question_begun, question_part, question_whole}
use Rattle.pm_cargo_fetch.proofs.fetch_metadata.line_output.Goals as goal

pub returns-in_err-answer-clause-lines : goal.returns-in_err-answer-clause-lines
returns-in_err-answer-clause-lines g c =
    let p = err_from_is_err_and c.from_residual.result c.from_residual.ensures.1 in
    TakesLines-stopped (p.1 ∙ ap Err p.2)
    (question_begun (g.P.Progress.lines c.args.progress.now) (g.P.Progress.lines c.line.new.self) (answer_of (g.R.Runner.answers c.args.runner.now) c.args.line.now) c.line.ensures)

pub returns-in_err-report-clause-lines : goal.returns-in_err-report-clause-lines
returns-in_err-report-clause-lines g c =
    let p = err_from_is_err_and c.from_residual-in_err-report.result c.from_residual-in_err-report.ensures.1 in
    TakesLines-same
    (TakesLines-stopped (p.1 ∙ ap Err p.2)
    (question_part (g.P.Progress.lines c.args.progress.now) (g.P.Progress.lines c.line.new.self) c.in_ok-answer.answer c.line.ensures (g.P.Progress.lines c.report.new.progress) c.in_err-report.ensures.front))
    (ap question_lines c.in_ok-answer.ensures)

-- all lines have come where the question is at its end
pub returns-in-Some-clause-lines : goal.returns-in-Some-clause-lines
returns-in-Some-clause-lines g c =
    TakesLines-same
    (TakesLines-whole (g.P.Progress.lines c.args.progress.now) (g.P.Progress.lines c.line-2.new.self) (question_lines c.in_ok-answer.answer)
    (question_whole (g.P.Progress.lines c.args.progress.now) (g.P.Progress.lines c.line.new.self) c.in_ok-answer.answer c.line.ensures (g.P.Progress.lines c.report.new.progress)
    (g.P.Progress.lines c.line-2.new.self) (c.in_ok-report.ensures.all (λ e. cc)) c.line-2.ensures))
    (ap question_lines c.in_ok-answer.ensures)

pub returns-in_err-line_text-in-None-clause-lines : goal.returns-in_err-line_text-in-None-clause-lines
returns-in_err-line_text-in-None-clause-lines g c =
    TakesLines-same
    (TakesLines-whole (g.P.Progress.lines c.args.progress.now) (g.P.Progress.lines c.line-2.new.self) (question_lines c.in_ok-answer.answer)
    (question_whole (g.P.Progress.lines c.args.progress.now) (g.P.Progress.lines c.line.new.self) c.in_ok-answer.answer c.line.ensures (g.P.Progress.lines c.report.new.progress)
    (g.P.Progress.lines c.line-2.new.self) (c.in_ok-report.ensures.all (λ e. cc)) c.line-2.ensures))
    (ap question_lines c.in_ok-answer.ensures)

pub returns-in_ok-line_text-in-None-clause-lines : goal.returns-in_ok-line_text-in-None-clause-lines
returns-in_ok-line_text-in-None-clause-lines g c =
    TakesLines-same
    (TakesLines-whole (g.P.Progress.lines c.args.progress.now) (g.P.Progress.lines c.line-2.new.self) (question_lines c.in_ok-answer.answer)
    (question_whole (g.P.Progress.lines c.args.progress.now) (g.P.Progress.lines c.line.new.self) c.in_ok-answer.answer c.line.ensures (g.P.Progress.lines c.report.new.progress)
    (g.P.Progress.lines c.line-2.new.self) (c.in_ok-report.ensures.all (λ e. cc)) c.line-2.ensures))
    (ap question_lines c.in_ok-answer.ensures)
