use Rattle.vfs_sets.proofs.RootLemmas.{NotesBehind}
use Rattle.vfs_sets.proofs.roots.roots.Given as goal

abbrev pub invariant-loop-number : goal.invariant-loop-number
invariant-loop-number l = NotesBehind l.sets l.numbers.entries l.number

abbrev pub decreases-loop-number : goal.decreases-loop-number
decreases-loop-number l = l.number
