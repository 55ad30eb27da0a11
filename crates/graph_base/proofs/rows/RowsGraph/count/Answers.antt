use Rattle.std.proofs.Common.{subst}
use Rattle.graph_base.specs.Edges.{IsInRange}
use Rattle.graph_base.proofs.rows.RowsGraph.count.Goals as goal

pub returns-clause-in_range : goal.returns-clause-in_range
returns-clause-in_range c = subst IsInRange c.self.view_is c.self.invariant.in_range
