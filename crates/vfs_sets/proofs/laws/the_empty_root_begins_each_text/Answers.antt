use Rattle.std.proofs.Common.{refl}
use Rattle.vfs_sets.proofs.ComponentLemmas.{begins_each}
use Rattle.vfs_sets.proofs.laws.the_empty_root_begins_each_text.Goals as goal

pub returns-clause-of_none : goal.returns-clause-of_none
returns-clause-of_none c = refl

pub returns-clause-of_absolute : goal.returns-clause-of_absolute
returns-clause-of_absolute c = begins_each
