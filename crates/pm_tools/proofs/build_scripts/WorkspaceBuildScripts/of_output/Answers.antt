use Rattle.std.proofs.Common.{◌∙◌, Err, List, ap, subst}
use Rattle.std.proofs.lemmas.List.{append-nil}
use Rattle.std.proofs.lemmas.Result.{err_from_is_err_and}
use Rattle.base_text.specs.Progress.{TakesFront-none}
use Rattle.pm_cargo_fetch.proofs.Lines.{TakesLines-same, TakesLines-stopped}
use Rattle.pm_cargo_packages.specs.declared.package.PackageData.{PackageData}
use Rattle.pm_tools.specs.Lines.{lines_among}
use Rattle.pm_tools.specs.Outputs.{outputs_among}
use Rattle.pm_tools.specs.Reading.{Gives}
use Rattle.pm_tools.proofs.build_scripts.WorkspaceBuildScripts.of_output.Goals as goal

pub returns-in_err-packages-clause-lines : goal.returns-in_err-packages-clause-lines
returns-in_err-packages-clause-lines g c =
    let p = err_from_is_err_and c.from_residual.result c.from_residual.ensures.1 in
    TakesLines-stopped (p.1 ∙ ap Err p.2) (TakesFront-none (g.P.Progress.lines c.args.progress.now) _)

pub returns-clause-outputs : goal.returns-clause-outputs
returns-clause-outputs g c =
    subst (λ packages. Gives c.among.result (outputs_among packages c.args.output.now)) (c.in_ok-packages.ensures ∙ append-nil c.args.workspace.now.packages) c.among.ensures.outputs

pub returns-clause-lines : goal.returns-clause-lines
returns-clause-lines g c =
    TakesLines-same c.among.ensures.lines
    (ap (λ (packages : List PackageData). lines_among packages c.args.output.now) (c.in_ok-packages.ensures ∙ append-nil c.args.workspace.now.packages))
