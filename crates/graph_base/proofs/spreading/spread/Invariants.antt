use Rattle.graph_base.proofs.SpreadingLemmas.{IsSpread}
use Rattle.graph_base.proofs.spreading.spread.Given as goal

abbrev pub invariant-loop-k : goal.invariant-loop-k
invariant-loop-k l = IsSpread l.fn.labels l.next l.labels l.fn.first l.low l.step l.k l.here
