use Rattle.std.proofs.Common.{[], ◌∷◌, ◌++◌, ◌||◌, ap, false, length}
use Rattle.std.proofs.lemmas.Iterator.Consumers.{YieldsList-at, YieldsList-end, YieldsList-turn}
use Rattle.std.proofs.lemmas.Iterator.Splits.{YieldsList-from_lines}
use Rattle.std.proofs.lemmas.List.{length_push}
use Rattle.std.proofs.lemmas.Result.{err_from_is_err_and}
use Rattle.std.specs.Prelude.{is_err}
use Rattle.std.specs.Str.Lines.{lines}
use Rattle.pm_cargo_fetch.specs.Reports.{stream_lines}
use Rattle.pm_cargo_fetch.proofs.Lines.{TakesLines-stopped, TakesLines-whole}
use Rattle.pm_cargo_fetch.proofs.Reports.{all_came, begun, line_came, some_came}
use Rattle.pm_cargo_fetch.proofs.answers.report_stream.Goals as goal

pub loop-line-init : goal.loop-line-init
loop-line-init g c = begun (g.P.Progress.lines c.args.progress.now) (stream_lines false (lines c.args.stream.now))

pub loop-line-preserved : goal.loop-line-preserved
loop-line-preserved g c =
    let all = lines c.args.stream.now in
    let road = YieldsList-at c.into_iter-line-iterator.ensures.into_iter_gives (YieldsList-from_lines c.args.stream.now c.lines-line-items.ensures.rest) in
    let turn = YieldsList-turn road c.loop-line.yielded _ c.loop-line.yielded_by _ _ c.in-Some.line c.in-Some.is c.next.ensures.steps in
    line_came (g.P.Progress.lines c.args.progress.now) (g.P.Progress.lines c.loop-line.progress) (g.P.Progress.lines c.report_line.new.progress) c.loop-line.is_hidden _
    c.in-Some.line.now all (stream_lines false all) (length c.loop-line.yielded) (length (c.loop-line.yielded ++ c.in-Some.line ∷ []))
    turn.0 turn.1 (length_push c.loop-line.yielded c.in-Some.line) (ap (λ b. c.loop-line.is_hidden || b) c.begins_error-is_hidden.ensures) c.loop-line.invariant c.in_ok-report_line.ensures.ok

pub returns-in_err-report_line : goal.returns-in_err-report_line
returns-in_err-report_line g c =
    let p = err_from_is_err_and c.from_residual.result c.from_residual.ensures.1 in
    TakesLines-stopped (ap is_err p.1) (some_came _ _ _ _ _ c.in_err-report_line.ensures.err c.loop-line.invariant)

pub returns : goal.returns
returns g c =
    let all = lines c.args.stream.now in
    let road = YieldsList-at c.into_iter-line-iterator.ensures.into_iter_gives (YieldsList-from_lines c.args.stream.now c.lines-line-items.ensures.rest) in
    let done = YieldsList-end road c.loop-line.yielded _ c.loop-line.yielded_by _ _ c.in-None.is c.next.ensures.steps in
    TakesLines-whole (g.P.Progress.lines c.args.progress.now) (g.P.Progress.lines c.loop-line.progress) (stream_lines false all)
    (all_came (g.P.Progress.lines c.args.progress.now) (g.P.Progress.lines c.loop-line.progress) c.loop-line.is_hidden all (stream_lines false all) (length c.loop-line.yielded)
    done.1 c.loop-line.invariant)
