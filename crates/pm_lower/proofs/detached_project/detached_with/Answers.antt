use Rattle.std.proofs.lemmas.Result.{err_from_is_err_and}
use Rattle.pm_lower_load.specs.Metadata.{metadata_answer}
use Rattle.pm_lower.specs.DetachedProject.{metadata_or_none}
use Rattle.pm_lower.proofs.DetachedLemmas.{detached-read, detached-refused}
use Rattle.pm_tools_ask.specs.Ask.{means_of}
use Rattle.pm_lower.proofs.detached_project.detached_with.Goals as goal

pub returns-in_err-kind : goal.returns-in_err-kind
returns-in_err-kind g c =
    let means = means_of g.R.Runner.answers g.T.Tree.files c.args.ask.now in
    let p = err_from_is_err_and c.from_residual.result c.from_residual.ensures.1 in
    rw (p.1, p.2) (detached-refused c.args.sysroot c.args.file.now c.args.config.now c.args.answers c.args.limits.now means
    (metadata_or_none (metadata_answer c.args.sysroot c.args.file.now c.args.config.now c.args.answers means)) c.in_err-kind.field-0.0 c.in_err-kind.ensures)

pub returns : goal.returns
returns g c =
    let means = means_of g.R.Runner.answers g.T.Tree.files c.args.ask.now in
    detached-read c.args.sysroot c.args.file.now c.args.config.now c.args.answers c.args.limits.now means
    (metadata_or_none (metadata_answer c.args.sysroot c.args.file.now c.args.config.now c.args.answers means)) c.in_ok-kind.kind c.args.settings c.project_of.result c.in_ok-kind.ensures
    c.requires c.project_of.ensures
