use Rattle.std.proofs.lemmas.Result.{err_from_is_err_and}
use Rattle.pm_lower_load.specs.Located.{located_manifest}
use Rattle.pm_lower.proofs.LineLemmas.{lines_with_root, lines_without_root}
use Rattle.pm_lower.proofs.ProjectLemmas.{root-gives, root-refused}
use Rattle.pm_tools_ask.specs.Ask.{means_of}
use Rattle.pm_lower.proofs.cargo_project.cargo_project.Goals as goal

pub returns-in_err-located-clause-project : goal.returns-in_err-located-clause-project
returns-in_err-located-clause-project g c =
    let means = means_of g.R.Runner.answers g.T.Tree.files c.args.ask.now in
    let p = err_from_is_err_and c.from_residual.result c.from_residual.ensures.1 in
    rw (p.1, p.2) (root-refused c.args.sysroot c.args.manifest.now c.args.config.now c.args.limits.now means c.in_err-located.field-0.0 c.in_err-located.ensures)

pub returns-in_err-located-clause-lines : goal.returns-in_err-located-clause-lines
returns-in_err-located-clause-lines g c =
    let means = means_of g.R.Runner.answers g.T.Tree.files c.args.ask.now in
    let p = err_from_is_err_and c.from_residual.result c.from_residual.ensures.1 in
    rw (p.1, p.2) (lines_without_root c.args.sysroot c.args.config.now means (located_manifest c.args.sysroot c.args.manifest.now means) c.in_err-located.field-0.0
    (g.P.Progress.lines c.args.progress.now) (g.P.Progress.lines c.line.new.self) c.line.ensures c.in_err-located.ensures)

pub returns-clause-project : goal.returns-clause-project
returns-clause-project g c =
    let means = means_of g.R.Runner.answers g.T.Tree.files c.args.ask.now in
    root-gives c.args.sysroot c.args.manifest.now c.args.config.now c.args.limits.now means c.located_project.result c.in_ok-located.located c.in_ok-located.ensures
    c.located_project.ensures.project

pub returns-clause-lines : goal.returns-clause-lines
returns-clause-lines g c =
    let means = means_of g.R.Runner.answers g.T.Tree.files c.args.ask.now in
    lines_with_root c.args.sysroot c.args.config.now means (located_manifest c.args.sysroot c.args.manifest.now means) c.in_ok-located.located
    (g.P.Progress.lines c.args.progress.now) (g.P.Progress.lines c.line.new.self) (g.P.Progress.lines c.line-2.new.self) (g.P.Progress.lines c.located_project.new.progress)
    c.line.ensures c.line-2.ensures c.in_ok-located.ensures c.located_project.ensures.lines
