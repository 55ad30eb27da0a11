use Rattle.std.proofs.Common.{subst}
use Rattle.graph_base.specs.Edges.{IsInRange}
use Rattle.crate_graph.specs.Graph.{edges}
use Rattle.crate_graph.proofs.graph.CrateGraphBuilderGraph.count.Goals as goal

pub returns-clause-in_range : goal.returns-clause-in_range
returns-clause-in_range c = subst (λ graph. IsInRange (edges graph.crates)) c.self.view_is c.self.invariant.well_made.in_range
