use Rattle.base_text_paths.proofs.CfgSets.{without_atoms-ordered}
use Rattle.base_text_paths.proofs.cfg_diff.CfgDiff.new.Goals as goal

pub returns-clause-enabled : goal.returns-clause-enabled
returns-clause-enabled c = rw (c.part_from.ensures.left, c.of_atoms-enable.ensures, c.of_atoms-disable.ensures) (without_atoms-ordered _ c.args.disable.items)

pub returns-clause-disabled : goal.returns-clause-disabled
returns-clause-disabled c = rw (c.part_from.ensures.right, c.of_atoms-enable.ensures, c.of_atoms-disable.ensures) (without_atoms-ordered _ c.args.enable.items)
