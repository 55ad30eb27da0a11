use Rattle.std.proofs.Common.{◌+◌, ◌∙◌, ap, arith, map, rules, subst, sym}
use Rattle.std.proofs.lemmas.List.{take_all}
use Rattle.std.proofs.lemmas.Result.{err_from_is_err_and}
use Rattle.std.specs.List.{flat_map}
use Rattle.std.specs.Prelude.{List, is_err}
use Rattle.base_text.specs.Progress.{TakesFront-none, with_lines, with_lines-none}
use Rattle.pm_cargo_fetch.proofs.Lines.{TakesLines-stopped, TakesLines-whole}
use Rattle.pm_lower.specs.Builds.{GivesEach, project_build}
use Rattle.pm_lower.specs.Lines.{project_build_lines}
use Rattle.pm_lower.specs.declared.project_workspace.ProjectWorkspace.{ProjectWorkspace}
use Rattle.pm_lower.proofs.BuildLemmas.{gives_each-next}
use Rattle.pm_lower.proofs.LineLemmas.{build_came, build_cut, builds_cut}
use Rattle.pm_tools_ask.specs.Ask.{means_of}
use Rattle.pm_lower.proofs.build_scripts.run_each.Goals as goal

pub returns-in_err-each-clause-lines : goal.returns-in_err-each-clause-lines
returns-in_err-each-clause-lines g c =
    let p = err_from_is_err_and c.from_residual.result c.from_residual.ensures.1 in
    TakesLines-stopped (ap is_err p.1) (TakesFront-none (g.P.Progress.lines c.args.progress.now) _)

pub loop-project-init : goal.loop-project-init
loop-project-init g c = record { given = search rules; came = sym (with_lines-none (g.P.Progress.lines c.args.progress.now)) }

pub loop-project-preserved : goal.loop-project-preserved
loop-project-preserved g c =
    let means = means_of g.R.Runner.answers g.T.Tree.files c.args.ask.now in
    record {
      given = gives_each-next (project_build c.args.config.now means) c.args.projects.now c.loop-project.project-index c.project-item.result
          c.loop-project.each.items c.push.new.self.items c.in_ok-run_one.field-0 c.loop-project-test.true c.project-item.is c.in_ok-run_one.ensures.outputs c.in_ok-push.ensures.items c.loop-project.invariant.given;
      came = build_came (project_build_lines c.args.config.now means) c.args.projects.now (g.P.Progress.lines c.args.progress.now) c.loop-project.project-index c.project-item.result
          (g.P.Progress.lines c.loop-project.progress) (g.P.Progress.lines c.run_one.new.progress) c.loop-project-test.true c.project-item.is c.loop-project.invariant.came (c.in_ok-run_one.ensures.lines.all (λ e. cc));
    }

pub returns-in_err-run_one-clause-lines : goal.returns-in_err-run_one-clause-lines
returns-in_err-run_one-clause-lines g c =
    let means = means_of g.R.Runner.answers g.T.Tree.files c.args.ask.now in
    let p = err_from_is_err_and c.from_residual-in_err-run_one.result c.from_residual-in_err-run_one.ensures.1 in
    build_cut (project_build_lines c.args.config.now means) c.args.projects.now (g.P.Progress.lines c.args.progress.now) c.loop-project.project-index c.project-item.result
    (g.P.Progress.lines c.loop-project.progress) (g.P.Progress.lines c.run_one.new.progress) c.loop-project-test.true c.project-item.is c.loop-project.invariant.came
    c.in_err-run_one.ensures.lines (ap is_err p.1)

pub returns-in_err-push-clause-lines : goal.returns-in_err-push-clause-lines
returns-in_err-push-clause-lines g c =
    let means = means_of g.R.Runner.answers g.T.Tree.files c.args.ask.now in
    let p = err_from_is_err_and c.from_residual-in_err-push.result c.from_residual-in_err-push.ensures.1 in
    builds_cut (project_build_lines c.args.config.now means) c.args.projects.now (g.P.Progress.lines c.args.progress.now) (c.loop-project.project-index + 1) (g.P.Progress.lines c.run_one.new.progress)
    (build_came (project_build_lines c.args.config.now means) c.args.projects.now (g.P.Progress.lines c.args.progress.now) c.loop-project.project-index c.project-item.result
    (g.P.Progress.lines c.loop-project.progress) (g.P.Progress.lines c.run_one.new.progress) c.loop-project-test.true c.project-item.is c.loop-project.invariant.came (c.in_ok-run_one.ensures.lines.all (λ e. cc)))
    (ap is_err p.1)

pub returns-clause-outputs : goal.returns-clause-outputs
returns-clause-outputs g c =
    let builds = project_build c.args.config.now (means_of g.R.Runner.answers g.T.Tree.files c.args.ask.now) in
    subst (λ results. GivesEach results (map builds c.args.projects.now)) (sym c.new.ensures)
    (subst (λ projects. GivesEach c.loop-project.each.items (map builds projects)) (take_all c.loop-project.project-index c.args.projects.now (omega (arith, c.loop-project-test.false))) c.loop-project.invariant.given)

pub returns-clause-lines : goal.returns-clause-lines
returns-clause-lines g c =
    let built = project_build_lines c.args.config.now (means_of g.R.Runner.answers g.T.Tree.files c.args.ask.now) in
    TakesLines-whole (g.P.Progress.lines c.args.progress.now) (g.P.Progress.lines c.loop-project.progress) (flat_map built c.args.projects.now)
    (c.loop-project.invariant.came ∙ ap (λ (projects : List ProjectWorkspace). with_lines (flat_map built projects) (g.P.Progress.lines c.args.progress.now))
    (take_all c.loop-project.project-index c.args.projects.now (omega (arith, c.loop-project-test.false))))
