use Rattle.vfs_sets.proofs.SearchLemmas.{HasTriedDownTo}
use Rattle.vfs_sets.proofs.root_map.number_of_longest_prefix.Given as goal

abbrev pub invariant-loop-untried : goal.invariant-loop-untried
invariant-loop-untried g l =
    HasTriedDownTo l.map.entries l.text l.untried (g.L.Ledger.count l.fn.steps.ledger) (g.L.Ledger.count l.steps.ledger)

abbrev pub decreases-loop-untried : goal.decreases-loop-untried
decreases-loop-untried g l = l.untried
