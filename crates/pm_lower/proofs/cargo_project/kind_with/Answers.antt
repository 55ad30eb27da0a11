use Rattle.std.proofs.Common.{Err, None}
use Rattle.std.proofs.lemmas.Result.{err_from_is_err_and}
use Rattle.pm_lower.proofs.ProjectLemmas.{kind-read, kind-refused}
use Rattle.pm_lower.specs.declared.project_workspace.ProjectWorkspaceKind.TheVariants.{Cargo}
use Rattle.pm_tools_ask.specs.Ask.{means_of}
use Rattle.pm_lower.proofs.cargo_project.kind_with.Goals as goal

pub returns-in_err-cargo : goal.returns-in_err-cargo
returns-in_err-cargo g c =
    let p = err_from_is_err_and c.from_residual-in_err-cargo.result c.from_residual-in_err-cargo.ensures.1 in
    rw (p.1, p.2) (kind-refused c.args.manifest c.args.config.now c.args.limits.now (means_of g.R.Runner.answers g.T.Tree.files c.args.ask.now)
    c.args.answers.now c.args.fetched _ c.in_ok-env.env c.as_ref.ensures.value c.in_ok-env.ensures.env c.in_err-cargo.field-0.0 c.in_err-cargo.ensures.workspace)

pub returns : goal.returns
returns g c =
    kind-read c.args.manifest c.args.config.now c.args.limits.now (means_of g.R.Runner.answers g.T.Tree.files c.args.ask.now)
    c.args.answers.now c.args.fetched _ c.in_ok-env.env c.as_ref.ensures.value c.in_ok-env.ensures.env c.in_ok-cargo.cargo _
    c.in_ok-cargo.ensures.workspace (λ i. Cargo c.in_ok-cargo.cargo (c.in_ok-env.ensures.error i) (c.new-2.ensures i) (Err None))
