use Rattle.std.proofs.Common.{◌∙◌, Option, ap, sym}
use Rattle.std.proofs.lemmas.Result.{err_from_is_err_and}
use Rattle.std.specs.Prelude.{is_err}
use Rattle.base_text_outside.specs.declared.command.CommandLine.{CommandLine}
use Rattle.base_text.specs.Progress.{TakesFront-none}
use Rattle.pm_cargo_fetch.proofs.Lines.{TakesLines-same, TakesLines-stopped}
use Rattle.pm_lower.specs.Lines.{builds_lines_by}
use Rattle.pm_tools_ask.specs.Ask.{means_of}
use Rattle.pm_lower.proofs.project_workspace.ProjectWorkspace.run_all_build_scripts.Goals as goal

pub returns-in_err-line-clause-lines : goal.returns-in_err-line-clause-lines
returns-in_err-line-clause-lines g c =
    let p = err_from_is_err_and c.from_residual.result c.from_residual.ensures.1 in
    TakesLines-stopped (ap is_err p.1) (TakesFront-none (g.P.Progress.lines c.args.progress.now) _)

pub returns-in-Some-clause-lines : goal.returns-in-Some-clause-lines
returns-in-Some-clause-lines g c =
    let means = means_of g.R.Runner.answers g.T.Tree.files c.args.ask.now in
    TakesLines-same c.run_once.ensures.lines
    (ap (λ (line : Option CommandLine). builds_lines_by c.args.workspaces.now c.args.config.now means line) (sym c.in-Some.is ∙ c.in_ok-line.ensures))

pub returns-in-None-clause-lines : goal.returns-in-None-clause-lines
returns-in-None-clause-lines g c =
    let means = means_of g.R.Runner.answers g.T.Tree.files c.args.ask.now in
    TakesLines-same c.run_each.ensures.lines
    (ap (λ (line : Option CommandLine). builds_lines_by c.args.workspaces.now c.args.config.now means line) (sym c.in-None.is ∙ c.in_ok-line.ensures))
