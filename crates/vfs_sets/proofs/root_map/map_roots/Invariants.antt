use Rattle.vfs_sets.proofs.RootMapLemmas.{MapsBehind}
use Rattle.vfs_sets.proofs.root_map.map_roots.Given as goal

abbrev pub invariant-loop-number : goal.invariant-loop-number
invariant-loop-number l = MapsBehind l.is_virtual l.sets l.number l.map.entries

abbrev pub decreases-loop-number : goal.decreases-loop-number
decreases-loop-number l = l.number
