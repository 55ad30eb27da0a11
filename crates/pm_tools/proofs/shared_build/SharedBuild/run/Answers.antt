use Rattle.std.proofs.Common.{◌∙◌, Err, Option, ap, sym}
use Rattle.std.proofs.lemmas.Result.{err_from_is_err_and}
use Rattle.base_text_outside.specs.declared.command.Output.{Output}
use Rattle.base_text.specs.Progress.{TakesFront-none}
use Rattle.pm_cargo_fetch.proofs.Lines.{TakesLines-none, TakesLines-same, TakesLines-stopped}
use Rattle.pm_tools.specs.Lines.{lines_of_answer}
use Rattle.pm_tools.specs.Packages.{lent_workspaces, packages_of_all}
use Rattle.pm_tools.proofs.shared_build.SharedBuild.run.Goals as goal

pub returns-in_err-output-clause-lines : goal.returns-in_err-output-clause-lines
returns-in_err-output-clause-lines g c =
    let p = err_from_is_err_and c.from_residual.result c.from_residual.ensures.1 in
    TakesLines-stopped (p.1 ∙ ap Err p.2) (TakesFront-none (g.P.Progress.lines c.args.progress.now) _)

pub returns-in-Some-clause-lines : goal.returns-in-Some-clause-lines
returns-in-Some-clause-lines g c =
    TakesLines-same c.of_output.ensures.lines
    (ap (λ (a : Option Output). lines_of_answer (packages_of_all (lent_workspaces c.args.workspaces.now)) a) (sym c.in-Some.is ∙ c.in_ok-output.ensures))

pub returns-in_err-line_text-in-None-clause-lines : goal.returns-in_err-line_text-in-None-clause-lines
returns-in_err-line_text-in-None-clause-lines g c =
    TakesLines-none (g.P.Progress.lines c.args.progress.now) _
    (ap (λ (a : Option Output). lines_of_answer (packages_of_all (lent_workspaces c.args.workspaces.now)) a) (sym c.in-None.is ∙ c.in_ok-output.ensures))

pub returns-in_ok-line_text-in-None-clause-lines : goal.returns-in_ok-line_text-in-None-clause-lines
returns-in_ok-line_text-in-None-clause-lines g c =
    TakesLines-none (g.P.Progress.lines c.args.progress.now) _
    (ap (λ (a : Option Output). lines_of_answer (packages_of_all (lent_workspaces c.args.workspaces.now)) a) (sym c.in-None.is ∙ c.in_ok-output.ensures))
