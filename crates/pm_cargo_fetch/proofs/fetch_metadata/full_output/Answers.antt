use Rattle.std.proofs.Common.{◌∙◌, Err, ap}
use Rattle.std.proofs.lemmas.Result.{err_from_is_err_and}
use Rattle.base_text_outside.specs.Runner.{answer_of}
use Rattle.base_text_outside.specs.declared.command.CommandLine.{CommandLine}
use Rattle.base_text.specs.Progress.{TakesFront-none}
use Rattle.pm_cargo_fetch.specs.Reports.{question_lines}
use Rattle.pm_cargo_fetch.proofs.Lines.{TakesLines-same, TakesLines-stopped}
use Rattle.pm_cargo_fetch.proofs.fetch_metadata.full_output.Goals as goal

pub returns-in_err-line-clause-lines : goal.returns-in_err-line-clause-lines
returns-in_err-line-clause-lines g c =
    let p = err_from_is_err_and c.from_residual.result c.from_residual.ensures.1 in
    TakesLines-stopped (p.1 ∙ ap Err p.2) (TakesFront-none (g.P.Progress.lines c.args.progress.now) _)

pub returns-clause-lines : goal.returns-clause-lines
returns-clause-lines g c =
    TakesLines-same c.line_output.ensures.lines
    (ap (λ (line : CommandLine). question_lines (answer_of (g.R.Runner.answers c.args.runner.now) line)) c.in_ok-line.ensures)
