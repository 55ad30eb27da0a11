use Rattle.vfs_sets.proofs.RootMapLemmas.{PutsRest}
use Rattle.vfs_sets.proofs.root_map.put_roots_of.Given as goal

abbrev pub invariant-loop-root : goal.invariant-loop-root
invariant-loop-root l = PutsRest (l.is_virtual, l.roots) l.number l.root-index l.fn.map.entries l.map.entries
