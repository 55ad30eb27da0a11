use Rattle.vfs_sets.proofs.RootLemmas.{NotesRest}
use Rattle.vfs_sets.proofs.roots.put_roots.Given as goal

abbrev pub invariant-loop-root : goal.invariant-loop-root
invariant-loop-root l = NotesRest l.fn.numbers.entries l.numbers.entries l.roots l.number l.root-index
