use Rattle.std.proofs.Common.{◌≡◌, ◌<◌, ◌∙◌, arith, length, sym}
use Rattle.crate_graph.proofs.BoundedLemmas.{length-bounded, length-row}
use Rattle.crate_graph.proofs.search.BoundedGraph.degree.Goals as goal

pub degree-requires : goal.degree-requires
degree-requires g c = omega (arith, c.requires, length-bounded c.args.self.now.table.now c.args.self.now.from (g.G.Graph.rows c.args.self.now.graph.now))

pub returns : goal.returns
returns g c =
    let rows = g.G.Graph.rows c.args.self.now.graph.now in
    let there : c.args.node < length (g.G.Graph.rows c.args.self.now.graph.now) = omega (arith, c.requires, length-bounded c.args.self.now.table.now c.args.self.now.from rows) in
    c.degree.ensures ∙ sym (length-row c.args.self.now.table.now c.args.self.now.from rows c.args.node there)
