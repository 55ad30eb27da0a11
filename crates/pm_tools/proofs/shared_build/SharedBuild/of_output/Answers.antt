use Rattle.std.proofs.Common.{◌∙◌, Err, List, ap}
use Rattle.std.proofs.lemmas.Result.{err_from_is_err_and}
use Rattle.base_text.specs.Progress.{TakesFront-none}
use Rattle.pm_cargo_fetch.proofs.Lines.{TakesLines-err, TakesLines-same, TakesLines-stopped, TakesLines-whole}
use Rattle.pm_cargo_packages.specs.declared.package.PackageData.{PackageData}
use Rattle.pm_tools.specs.Lines.{lines_among}
use Rattle.pm_tools.specs.Packages.{lent_packages, lent_workspaces}
use Rattle.pm_tools.proofs.SharedLemmas.{shared_is, shared_refused}
use Rattle.pm_tools.proofs.shared_build.SharedBuild.of_output.Goals as goal

pub returns-in_err-packages-clause-lines : goal.returns-in_err-packages-clause-lines
returns-in_err-packages-clause-lines g c =
    let p = err_from_is_err_and c.from_residual.result c.from_residual.ensures.1 in
    TakesLines-stopped (p.1 ∙ ap Err p.2) (TakesFront-none (g.P.Progress.lines c.args.progress.now) _)

pub returns-in_err-scripts-clause-outputs : goal.returns-in_err-scripts-clause-outputs
returns-in_err-scripts-clause-outputs g c =
    let p = err_from_is_err_and c.from_residual-in_err-scripts.result c.from_residual-in_err-scripts.ensures.1 in
    rw (p.1, p.2) (shared_refused _ (lent_workspaces c.args.workspaces.now) (lent_packages c.in_ok-packages.packages.packages) c.args.output.now c.in_ok-packages.ensures c.in_err-scripts.ensures.outputs)

pub returns-in_err-scripts-clause-lines : goal.returns-in_err-scripts-clause-lines
returns-in_err-scripts-clause-lines g c =
    let p = err_from_is_err_and c.from_residual-in_err-scripts.result c.from_residual-in_err-scripts.ensures.1 in
    rw (p.1, p.2) (TakesLines-same (TakesLines-err c.in_err-scripts.ensures.lines) (ap (λ (packages : List PackageData). lines_among packages c.args.output.now) c.in_ok-packages.ensures))

pub returns-clause-outputs : goal.returns-clause-outputs
returns-clause-outputs g c =
    shared_is (lent_workspaces c.args.workspaces.now) (lent_packages c.in_ok-packages.packages.packages) c.args.output.now c.in_ok-scripts.scripts c.in_ok-packages.ensures c.in_ok-scripts.ensures.outputs

pub returns-clause-lines : goal.returns-clause-lines
returns-clause-lines g c =
    TakesLines-same (TakesLines-whole (g.P.Progress.lines c.args.progress.now) (g.P.Progress.lines c.among.new.progress) _ (c.in_ok-scripts.ensures.lines.all (λ e. cc)))
    (ap (λ (packages : List PackageData). lines_among packages c.args.output.now) c.in_ok-packages.ensures)
