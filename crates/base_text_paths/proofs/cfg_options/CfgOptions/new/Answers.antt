use Rattle.std.specs.List.Sorted.{IsStrictlySortedBy}
use Rattle.base_text_paths.proofs.cfg_options.CfgOptions.new.Goals as goal

pub invariant_of-result : goal.invariant_of-result
unfolding IsStrictlySortedBy
invariant_of-result c = rw c.new.ensures.items tt
