use Rattle.vfs_sets.specs.Partition.{AreEmpty}
use Rattle.vfs_sets.proofs.file_set_config.empty_sets.Given as goal

abbrev pub invariant-loop-number : goal.invariant-loop-number
invariant-loop-number l = AreEmpty l.sets.items l.number
