use Rattle.std.proofs.Common.{Option, ap}
use Rattle.pm_cargo.specs.Workspace.{Workspace}
use Rattle.pm_cargo_fetch.proofs.Lines.{TakesLines-none, TakesLines-same}
use Rattle.pm_lower.specs.Lines.{output_lines_for}
use Rattle.pm_lower.proofs.project_workspace.ProjectWorkspace.build_scripts_of_output.Goals as goal

pub returns-in-Some-clause-lines : goal.returns-in-Some-clause-lines
returns-in-Some-clause-lines g c =
    TakesLines-same c.of_output.ensures.lines (ap (λ (w : Option Workspace). output_lines_for w c.args.output.now) c.in-Some.ensures)

pub returns-in-None-clause-lines : goal.returns-in-None-clause-lines
returns-in-None-clause-lines g c =
    TakesLines-none (g.P.Progress.lines c.args.progress.now) _ (ap (λ (w : Option Workspace). output_lines_for w c.args.output.now) c.in-None.ensures)
