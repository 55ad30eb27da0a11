use Rattle.std.proofs.Common.{ap}
use Rattle.std.proofs.lemmas.Result.{err_from_is_err_and}
use Rattle.std.specs.Prelude.{is_err}
use Rattle.pm_cargo_fetch.proofs.Reports.{failure_came, stream_cut, stream_ended}
use Rattle.pm_cargo_fetch.proofs.answers.report_output.Goals as goal

pub returns-in_err-report_stream : goal.returns-in_err-report_stream
returns-in_err-report_stream g c =
    let p = err_from_is_err_and c.from_residual.result c.from_residual.ensures.1 in
    stream_cut c.args.output.now c.as_str.result.now c.as_str.ensures c.in_err-report_stream.ensures (ap is_err p.1)

pub returns-then-output : goal.returns-then-output
returns-then-output g c =
    stream_ended c.args.output.now c.as_str.result.now c.as_str.ensures (g.P.Progress.lines c.args.progress.now) (g.P.Progress.lines c.report_stream.new.progress)
    c.if-output.true (c.in_ok-report_stream.ensures.all (λ e. cc))

pub returns : goal.returns
returns g c =
    failure_came c.args.output.now c.as_str.result.now c.as_str.ensures (g.P.Progress.lines c.args.progress.now) (g.P.Progress.lines c.report_stream.new.progress) (g.P.Progress.lines c.line.new.self)
    c.if-output.false (c.in_ok-report_stream.ensures.all (λ e. cc)) c.line.ensures
