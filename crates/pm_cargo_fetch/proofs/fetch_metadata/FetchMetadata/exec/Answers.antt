use Rattle.std.proofs.lemmas.Result.{err_from_is_err_and}
use Rattle.pm_cargo_fetch.proofs.Lines.{TakesLines-err, TakesLines-none, TakesLines-same, TakesLines-whole}
use Rattle.pm_cargo_fetch.proofs.Outputs.{output-given, output-refused}
use Rattle.pm_cargo_fetch.proofs.Reports.{lines_asked, lines_light}
use Rattle.pm_cargo_fetch.proofs.fetch_metadata.FetchMetadata.exec.Goals as goal

pub returns-then-no_deps-clause-lines : goal.returns-then-no_deps-clause-lines
returns-then-no_deps-clause-lines g c =
    TakesLines-none (g.P.Progress.lines c.args.progress.now) _ (lines_light c.args.self _ c.self.view_is c.args.locked (g.R.Runner.answers c.args.runner.now) c.if-no_deps.true)

pub returns-in_err-output-clause-answer : goal.returns-in_err-output-clause-answer
returns-in_err-output-clause-answer g c =
    let p = err_from_is_err_and c.from_residual.result c.from_residual.ensures.1 in
    rw (p.1, p.2) (output-refused c.args.self _ c.self.view_is c.args.locked (g.R.Runner.answers c.args.runner.now) c.if-no_deps.false c.in_err-output.field-0.0 c.in_err-output.ensures.output)

pub returns-in_err-output-clause-lines : goal.returns-in_err-output-clause-lines
returns-in_err-output-clause-lines g c =
    let p = err_from_is_err_and c.from_residual.result c.from_residual.ensures.1 in
    rw (p.1, p.2) (TakesLines-same (TakesLines-err c.in_err-output.ensures.lines)
    (lines_asked c.args.self _ c.self.view_is c.args.locked (g.R.Runner.answers c.args.runner.now) c.if-no_deps.false))

pub returns-clause-answer : goal.returns-clause-answer
returns-clause-answer g c =
    output-given c.args.self _ c.self.view_is c.args.locked (g.R.Runner.answers c.args.runner.now) c.if-no_deps.false c.in_ok-output.output c.of_output.result c.in_ok-output.ensures.output c.of_output.ensures

pub returns-clause-lines : goal.returns-clause-lines
returns-clause-lines g c =
    TakesLines-same
    (TakesLines-whole (g.P.Progress.lines c.args.progress.now) (g.P.Progress.lines c.full_output.new.progress) _ (c.in_ok-output.ensures.lines.all (λ e. cc)))
    (lines_asked c.args.self _ c.self.view_is c.args.locked (g.R.Runner.answers c.args.runner.now) c.if-no_deps.false)
