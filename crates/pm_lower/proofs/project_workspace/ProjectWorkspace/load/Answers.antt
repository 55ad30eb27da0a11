use Rattle.std.proofs.Common.{◌∙◌, ap, refl, subst, sym, arith, rules}
use Rattle.std.proofs.lemmas.Result.{err_from_is_err_and}
use Rattle.std.proofs.lemmas.Grind.{common_steps}
use Rattle.pm_cargo_fetch.proofs.Lines.{TakesLines-none}
use Rattle.pm_lower_load.specs.Loading.{Refuses, of_reading, of_workspace_error}
use Rattle.pm_lower_load.proofs.LoadingLemmas.{refuses_reading}
use Rattle.pm_lower.specs.DetachedProject.{detached_project}
use Rattle.pm_tools_ask.specs.Ask.{means_of}
use Rattle.pm_tools_ask.specs.Toolchain.{Toolchain}
use Rattle.pm_lower.proofs.LimitLemmas.{limit_given}
use Rattle.pm_lower.proofs.SmallLemmas.{is_small, small_given}
use Rattle.pm_lower.proofs.project_workspace.ProjectWorkspace.load.Goals as goal

pub returns-in-ProjectJson-clause-lines : goal.returns-in-ProjectJson-clause-lines
returns-in-ProjectJson-clause-lines g c = rw c.in-ProjectJson.is c.json_project.ensures.lines

pub returns-in-CargoToml-clause-lines : goal.returns-in-CargoToml-clause-lines
returns-in-CargoToml-clause-lines g c = rw (c.in-CargoToml.is, ← c.empty.ensures) c.cargo_project.ensures.lines

-- the file is refused as its workspace is
pub returns-in_err-detached_project-in-CargoScript-clause-project : goal.returns-in_err-detached_project-in-CargoScript-clause-project
returns-in_err-detached_project-in-CargoScript-clause-project g c =
    let means = means_of g.R.Runner.answers g.T.Tree.files c.args.ask.now in
    let file = c.in-CargoScript.file in
    let e = c.in_err-detached_project-in-CargoScript.field-0.0 in
    let p = err_from_is_err_and c.from_residual.result c.from_residual.ensures.1 in
    rw (p.1, p.2, c.in-CargoScript.is)
    (subst (λ (sysroot : Toolchain). Refuses (of_workspace_error e) (of_reading (detached_project sysroot file c.args.config.now c.args.limits.now means))) c.empty-sysroot.ensures
    (refuses_reading e _ c.in_err-detached_project-in-CargoScript.ensures))

pub returns-in_err-detached_project-in-CargoScript-clause-lines : goal.returns-in_err-detached_project-in-CargoScript-clause-lines
returns-in_err-detached_project-in-CargoScript-clause-lines g c = rw c.in-CargoScript.is (TakesLines-none (g.P.Progress.lines c.args.progress.now) _ refl)

pub returns-in_ok-detached_project-in-CargoScript-clause-project : goal.returns-in_ok-detached_project-in-CargoScript-clause-project
returns-in_ok-detached_project-in-CargoScript-clause-project g c =
    let means = means_of g.R.Runner.answers g.T.Tree.files c.args.ask.now in
    let file = c.in-CargoScript.file in
    rw c.in-CargoScript.is
    (ap (λ (sysroot : Toolchain). of_reading (detached_project sysroot file c.args.config.now c.args.limits.now means)) (sym c.empty-sysroot.ensures)
    ∙ ap of_reading c.in_ok-detached_project-in-CargoScript.ensures)

pub returns-in_ok-detached_project-in-CargoScript-clause-lines : goal.returns-in_ok-detached_project-in-CargoScript-clause-lines
returns-in_ok-detached_project-in-CargoScript-clause-lines g c = rw c.in-CargoScript.is (TakesLines-none (g.P.Progress.lines c.args.progress.now) _ refl)

-- the limit that a refusal names, and how large a project is, by what is read of each kind of manifest
pub returns-in-ProjectJson-clause-limits : goal.returns-in-ProjectJson-clause-limits
returns-in-ProjectJson-clause-limits g c =
    limit_given c.args.manifest.now c.args.config.now c.args.limits.now (means_of g.R.Runner.answers g.T.Tree.files c.args.ask.now) c.json_project.result
    (first_of (search rules, grind (arith, common_steps)))

pub returns-in-ProjectJson-clause-small : goal.returns-in-ProjectJson-clause-small
returns-in-ProjectJson-clause-small g c =
    small_given c.args.manifest.now c.args.config.now c.args.limits.now (means_of g.R.Runner.answers g.T.Tree.files c.args.ask.now) c.json_project.result
    (first_of (search rules, grind (arith, common_steps)))

pub returns-in-CargoToml-clause-limits : goal.returns-in-CargoToml-clause-limits
returns-in-CargoToml-clause-limits g c =
    limit_given c.args.manifest.now c.args.config.now c.args.limits.now (means_of g.R.Runner.answers g.T.Tree.files c.args.ask.now) c.cargo_project.result
    (first_of (search rules, grind (arith, common_steps)))

pub returns-in-CargoToml-clause-small : goal.returns-in-CargoToml-clause-small
returns-in-CargoToml-clause-small g c =
    small_given c.args.manifest.now c.args.config.now c.args.limits.now (means_of g.R.Runner.answers g.T.Tree.files c.args.ask.now) c.cargo_project.result
    (first_of (search rules, grind (arith, common_steps)))

pub returns-in_err-detached_project-in-CargoScript-clause-limits : goal.returns-in_err-detached_project-in-CargoScript-clause-limits
returns-in_err-detached_project-in-CargoScript-clause-limits g c =
    let means = means_of g.R.Runner.answers g.T.Tree.files c.args.ask.now in
    let file = c.in-CargoScript.file in
    let e = c.in_err-detached_project-in-CargoScript.field-0.0 in
    let p = err_from_is_err_and c.from_residual.result c.from_residual.ensures.1 in
    limit_given c.args.manifest.now c.args.config.now c.args.limits.now means c.from_residual.result
    (rw (p.1, p.2, c.in-CargoScript.is)
    (subst (λ (sysroot : Toolchain). Refuses (of_workspace_error e) (of_reading (detached_project sysroot file c.args.config.now c.args.limits.now means))) c.empty-sysroot.ensures
    (refuses_reading e _ c.in_err-detached_project-in-CargoScript.ensures)))

pub returns-in_err-detached_project-in-CargoScript-clause-small : goal.returns-in_err-detached_project-in-CargoScript-clause-small
returns-in_err-detached_project-in-CargoScript-clause-small g c =
    let p = err_from_is_err_and c.from_residual.result c.from_residual.ensures.1 in
    rw p.1 tt

pub returns-in_ok-detached_project-in-CargoScript-clause-small : goal.returns-in_ok-detached_project-in-CargoScript-clause-small
returns-in_ok-detached_project-in-CargoScript-clause-small g c =
    let means = means_of g.R.Runner.answers g.T.Tree.files c.args.ask.now in
    let file = c.in-CargoScript.file in
    is_small c.args.manifest.now c.args.config.now c.args.limits.now means _
    (rw c.in-CargoScript.is
    (ap (λ (sysroot : Toolchain). of_reading (detached_project sysroot file c.args.config.now c.args.limits.now means)) (sym c.empty-sysroot.ensures)
    ∙ ap of_reading c.in_ok-detached_project-in-CargoScript.ensures))
