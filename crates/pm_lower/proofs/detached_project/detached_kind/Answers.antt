use Rattle.std.proofs.Common.{refl}
use Rattle.std.proofs.lemmas.Result.{err_from_is_err_and}
use Rattle.pm_lower_load.specs.Metadata.{metadata_answer}
use Rattle.pm_lower.specs.DetachedProject.{metadata_or_none}
use Rattle.pm_lower.proofs.DetachedLemmas.{kind-read, kind-refused}
use Rattle.pm_tools_ask.specs.Ask.{means_of}
use Rattle.pm_lower.proofs.detached_project.detached_kind.Goals as goal

pub returns-in_err-cargo : goal.returns-in_err-cargo
returns-in_err-cargo g c =
    let means = means_of g.R.Runner.answers g.T.Tree.files c.args.ask.now in
    let p = err_from_is_err_and c.from_residual-in_err-cargo.result c.from_residual-in_err-cargo.ensures.1 in
    rw (p.1, p.2) (kind-refused c.args.file.now c.args.answers.now.config_file c.args.limits.now means
    (metadata_or_none (metadata_answer c.args.sysroot.now c.args.file.now c.args.config.now c.args.answers.now means)) c.in_ok-script.script c.in_ok-metadata.metadata
    c.in_ok-script.ensures c.in_ok-metadata.ensures c.in_err-cargo.field-0.0 c.in_err-cargo.ensures)

pub returns : goal.returns
returns g c =
    let means = means_of g.R.Runner.answers g.T.Tree.files c.args.ask.now in
    kind-read c.args.file.now c.args.answers.now.config_file c.args.limits.now means
    (metadata_or_none (metadata_answer c.args.sysroot.now c.args.file.now c.args.config.now c.args.answers.now means)) c.in_ok-script.script c.in_ok-metadata.metadata
    c.in_ok-script.ensures c.in_ok-metadata.ensures c.in_ok-cargo.cargo c.in_ok-copy.copy _ c.in_ok-cargo.ensures c.in_ok-copy.ensures refl
