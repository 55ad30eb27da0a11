use Rattle.std.proofs.Common.{◌≡◌, ◌∙◌, sym}
use Rattle.crate_graph.proofs.BoundedLemmas.{in_range-bounded, length-bounded}
use Rattle.crate_graph.proofs.search.BoundedGraph.count.Goals as goal

pub returns-clause-nodes : goal.returns-clause-nodes
returns-clause-nodes g c = c.count.ensures.nodes ∙ sym (length-bounded c.args.self.now.table.now c.args.self.now.from (g.G.Graph.rows c.args.self.now.graph.now))

pub returns-clause-in_range : goal.returns-clause-in_range
returns-clause-in_range g c = in_range-bounded c.args.self.now.table.now c.args.self.now.from (g.G.Graph.rows c.args.self.now.graph.now) c.count.ensures.in_range
