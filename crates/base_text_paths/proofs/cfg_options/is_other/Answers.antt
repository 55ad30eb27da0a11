use Rattle.std.proofs.Common.{ap, not, ◌∙◌}
use Rattle.base_text_paths.proofs.CfgSets.{found_ties}
use Rattle.base_text_paths.proofs.cfg_options.is_other.Goals as goal

pub returns : goal.returns
returns c = ap not (c.contains.ensures.value ∙ found_ties c.args.atom.now c.args.others.now)
