use Rattle.pm_lower_load.proofs.RootLemmas.{target_directory-none}
use Rattle.pm_lower_load.proofs.include.push_target.Goals as goal

pub returns-then-not-has_target : goal.returns-then-not-has_target
returns-then-not-has_target c =
    target_directory-none c.args.workspace.now c.args.package.now c.args.target c.args.found.now.items c.has_target.result c.has_target.ensures.present c.if-not-has_target.true
