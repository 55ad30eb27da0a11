use Rattle.std.proofs.Common.{◌∙◌, Err, Ok, ap, sym}
use Rattle.std.proofs.lemmas.Result.{err_from_is_err_and}
use Rattle.base_text.specs.Progress.{TakesFront-none}
use Rattle.pm_cargo_fetch.proofs.Lines.{TakesLines-err, TakesLines-same, TakesLines-stopped, TakesLines-whole}
use Rattle.pm_tools.specs.Packages.{lent_packages}
use Rattle.pm_tools.proofs.LineLemmas.{lines_are}
use Rattle.pm_tools.proofs.OutputLemmas.{output_is, output_refused}
use Rattle.pm_tools.proofs.build_scripts.WorkspaceBuildScripts.among.Goals as goal

pub returns-in_err-builder-clause-lines : goal.returns-in_err-builder-clause-lines
returns-in_err-builder-clause-lines g c =
    let p = err_from_is_err_and c.from_residual.result c.from_residual.ensures.1 in
    TakesLines-stopped (p.1 ∙ ap Err p.2) (TakesFront-none (g.P.Progress.lines c.args.progress.now) _)

pub returns-in_err-take_lines-clause-outputs : goal.returns-in_err-take_lines-clause-outputs
returns-in_err-take_lines-clause-outputs g c =
    let p = err_from_is_err_and c.from_residual-in_err-take_lines.result c.from_residual-in_err-take_lines.ensures.1 in
    rw (p.1, p.2) (output_refused _ (lent_packages c.args.packages.now.packages) c.in_ok-builder.builder c.args.output.now c.as_str.result.now
    c.in_ok-builder.ensures c.as_str.ensures c.in_err-take_lines.ensures.leaves)

pub returns-in_err-take_lines-clause-lines : goal.returns-in_err-take_lines-clause-lines
returns-in_err-take_lines-clause-lines g c =
    let p = err_from_is_err_and c.from_residual-in_err-take_lines.result c.from_residual-in_err-take_lines.ensures.1 in
    rw (p.1, p.2) (TakesLines-same (TakesLines-err c.in_err-take_lines.ensures.lines)
    (lines_are (lent_packages c.args.packages.now.packages) c.in_ok-builder.builder c.args.output.now c.as_str.result.now c.in_ok-builder.ensures c.as_str.ensures))

-- all lines came before the error stream is read
pub returns-in_err-push_errors-clause-lines : goal.returns-in_err-push_errors-clause-lines
returns-in_err-push_errors-clause-lines g c =
    TakesLines-same (TakesLines-whole (g.P.Progress.lines c.args.progress.now) (g.P.Progress.lines c.take_lines.new.progress) _ (c.in_ok-take_lines.ensures.lines.all (λ e. cc)))
    (lines_are (lent_packages c.args.packages.now.packages) c.in_ok-builder.builder c.args.output.now c.as_str.result.now c.in_ok-builder.ensures c.as_str.ensures)

pub returns-in_err-outputs-clause-lines : goal.returns-in_err-outputs-clause-lines
returns-in_err-outputs-clause-lines g c =
    TakesLines-same (TakesLines-whole (g.P.Progress.lines c.args.progress.now) (g.P.Progress.lines c.take_lines.new.progress) _ (c.in_ok-take_lines.ensures.lines.all (λ e. cc)))
    (lines_are (lent_packages c.args.packages.now.packages) c.in_ok-builder.builder c.args.output.now c.as_str.result.now c.in_ok-builder.ensures c.as_str.ensures)

pub returns-clause-outputs : goal.returns-clause-outputs
returns-clause-outputs g c =
    output_is (lent_packages c.args.packages.now.packages) c.in_ok-builder.builder c.take_lines.new.self c.push_errors.new.self c.args.output.now
    c.as_str.result.now c.as_str-2.result.now c.in_ok-outputs.outputs c.in_ok-outputs.error
    c.in_ok-builder.ensures c.as_str.ensures c.in_ok-take_lines.ensures.leaves c.in_ok-push_errors.ensures c.as_str-2.ensures c.in_ok-outputs.ensures
    ∙ ap Ok (sym c.of_parts.ensures)

pub returns-clause-lines : goal.returns-clause-lines
returns-clause-lines g c =
    TakesLines-same (TakesLines-whole (g.P.Progress.lines c.args.progress.now) (g.P.Progress.lines c.take_lines.new.progress) _ (c.in_ok-take_lines.ensures.lines.all (λ e. cc)))
    (lines_are (lent_packages c.args.packages.now.packages) c.in_ok-builder.builder c.args.output.now c.as_str.result.now c.in_ok-builder.ensures c.as_str.ensures)
