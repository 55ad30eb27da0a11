use Rattle.pm_lower.proofs.DetachedLemmas.{detached-gives}
use Rattle.pm_tools_ask.specs.Ask.{means_of}
use Rattle.pm_lower.proofs.detached_project.detached_project.Goals as goal

pub returns : goal.returns
returns g c =
    detached-gives c.args.sysroot c.args.file.now c.args.config.now c.args.limits.now (means_of g.R.Runner.answers g.T.Tree.files c.args.ask.now) c.detached_with.result
    c.in_ok-answers.answers c.in_ok-answers.ensures c.detached_with.ensures
