use Rattle.std.proofs.Common.{arith, subst, sym}
use Rattle.graph_base.specs.Reversed.{IsGraph}
use Rattle.graph_base.proofs.RowLemmas.{graph_of_nodes}
use Rattle.graph_base.proofs.rows.Rows.with_nodes.Goals as goal

pub invariant_of-result : goal.invariant_of-result
invariant_of-result c =
    subst IsGraph (sym c.loop.invariant) (graph_of_nodes c.loop.counter (omega (arith, c.ranges.count.fits, c.loop.auto.counter-end)))
