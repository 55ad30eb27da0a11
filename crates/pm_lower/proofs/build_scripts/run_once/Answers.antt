use Rattle.std.proofs.Common.{List, ap, subst, ◌∙◌}
use Rattle.std.proofs.lemmas.Result.{err_from_is_err_and}
use Rattle.std.specs.Prelude.{IfOk, is_err}
use Rattle.pm_tools.specs.Lines.{shared_lines}
use Rattle.pm_tools.specs.Packages.{lent_workspaces}
use Rattle.pm_tools.specs.Reading.{Gives}
use Rattle.pm_tools.specs.SharedBuild.{shared_build}
use Rattle.pm_cargo.specs.Workspace.{Workspace}
use Rattle.base_text.specs.Progress.{TakesFront-none}
use Rattle.pm_cargo_fetch.proofs.Lines.{TakesLines-same, TakesLines-stopped, TakesLines-whole}
use Rattle.pm_lower.specs.Builds.{workspaces_of}
use Rattle.pm_lower.proofs.BuildLemmas.{gives_shares}
use Rattle.pm_lower.proofs.build_scripts.run_once.Goals as goal

pub returns-in_err-workspaces-clause-lines : goal.returns-in_err-workspaces-clause-lines
returns-in_err-workspaces-clause-lines g c =
    let p = err_from_is_err_and c.from_residual.result c.from_residual.ensures.1 in
    TakesLines-stopped (ap is_err p.1) (TakesFront-none (g.P.Progress.lines c.args.progress.now) _)

pub returns-in_err-build-clause-lines : goal.returns-in_err-build-clause-lines
returns-in_err-build-clause-lines g c =
    let same = ap lent_workspaces c.as_slice.ensures.value ∙ c.in_ok-workspaces.ensures in
    let p = err_from_is_err_and c.from_residual-in_err-build.result c.from_residual-in_err-build.ensures.1 in
    TakesLines-same (TakesLines-stopped (ap is_err p.1) c.in_err-build.ensures.lines.front)
    (ap (λ (workspaces : List Workspace). shared_lines c.args.line.now workspaces (g.R.Runner.answers c.args.runner.now)) same)

pub returns-clause-outputs : goal.returns-clause-outputs
returns-clause-outputs g c =
    let answers = g.R.Runner.answers c.args.runner.now in
    let given = subst (λ workspaces. Gives c.in_ok-build.build (shared_build c.args.line.now workspaces answers)) (ap lent_workspaces c.as_slice.ensures.value ∙ c.in_ok-workspaces.ensures) c.in_ok-build.ensures.outputs in
    gives_shares c.shares_of.result c.in_ok-build.build (shared_build c.args.line.now (workspaces_of c.args.projects.now) answers) c.args.projects.now given c.shares_of.ensures

pub returns-clause-lines : goal.returns-clause-lines
returns-clause-lines g c =
    let same = ap lent_workspaces c.as_slice.ensures.value ∙ c.in_ok-workspaces.ensures in
    TakesLines-same (TakesLines-whole (g.P.Progress.lines c.args.progress.now) (g.P.Progress.lines c.run_shared.new.progress) _ (c.in_ok-build.ensures.lines.all (λ e. cc)))
    (ap (λ (workspaces : List Workspace). shared_lines c.args.line.now workspaces (g.R.Runner.answers c.args.runner.now)) same)
