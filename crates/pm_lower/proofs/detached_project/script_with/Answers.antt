use Rattle.std.proofs.lemmas.Result.{err_from_is_err_and}
use Rattle.pm_lower.proofs.DetachedLemmas.{script-read, script-refused}
use Rattle.pm_tools_ask.specs.Ask.{means_of}
use Rattle.pm_lower.proofs.detached_project.script_with.Goals as goal

pub returns-in_err-cargo : goal.returns-in_err-cargo
returns-in_err-cargo g c =
    let p = err_from_is_err_and c.from_residual-in_err-cargo.result c.from_residual-in_err-cargo.ensures.1 in
    rw (p.1, p.2) (script-refused c.args.file c.args.answers.now.config_file c.args.limits.now (means_of g.R.Runner.answers g.T.Tree.files c.args.ask.now)
    c.args.metadata c.in-Some.metadata c.in-Some.error _ c.in_ok-env.env c.in-Some.is c.as_ref.ensures.value c.in_ok-env.ensures.env c.in_err-cargo.field-0.0 c.in_err-cargo.ensures.workspace)

pub returns : goal.returns
returns g c =
    script-read c.args.file c.args.answers.now.config_file c.args.limits.now (means_of g.R.Runner.answers g.T.Tree.files c.args.ask.now)
    c.args.metadata c.in-Some.metadata c.in-Some.error _ c.in_ok-env.env c.in-Some.is c.as_ref.ensures.value c.in_ok-env.ensures.env c.in_ok-cargo.cargo _
    c.in_ok-cargo.ensures.workspace (λ i. (c.in_ok-cargo.cargo, c.new-2.ensures i, c.in_ok-env.ensures.error i))
