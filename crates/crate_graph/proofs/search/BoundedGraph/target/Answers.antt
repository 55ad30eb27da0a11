use Rattle.std.proofs.Common.{◌≡◌, ◌<◌, ◌∙◌, ap, arith, length, subst, sym}
use Rattle.std.specs.Prelude.{slice_index}
use Rattle.graph_base.specs.Edges.{HasEdge, row}
use Rattle.crate_graph.specs.Walking.{stays_above}
use Rattle.crate_graph.proofs.BoundedLemmas.{at_target, edge_at, goes_above, length-bounded, length-row, not_less, source_there, stays_below, target-bounded}
use Rattle.crate_graph.proofs.search.BoundedGraph.target.Goals as goal

pub target-target-requires-clause-node : goal.target-target-requires-clause-node
target-target-requires-clause-node g c = source_there c.args.self.now.table.now c.args.self.now.from (g.G.Graph.rows c.args.self.now.graph.now) c.args.node c.requires.node

pub target-target-requires-clause-place : goal.target-target-requires-clause-place
target-target-requires-clause-place g c =
    let ranks = c.args.self.now.table.now in
    let from = c.args.self.now.from in
    let rows = g.G.Graph.rows c.args.self.now.graph.now in
    omega (arith, c.requires.place, length-row ranks from rows c.args.node (source_there ranks from rows c.args.node c.requires.node))

pub is_below-requires : goal.is_below-requires
is_below-requires g c =
    let ranks = c.args.self.now.table.now in
    let from = c.args.self.now.from in
    let rows = g.G.Graph.rows c.args.self.now.graph.now in
    let there = source_there ranks from rows c.args.node c.requires.node in
    let within : c.args.place < length (row (g.G.Graph.rows c.args.self.now.graph.now) c.args.node) = omega (arith, c.requires.place, length-row ranks from rows c.args.node there) in
    let target = c.args.self.now.in_range c.args.node (slice_index (row rows c.args.node) c.args.place) (edge_at rows c.args.node c.args.place within) in
    record { nodes = (omega (arith, target, c.target-target.ensures, c.args.self.now.long), c.args.self.now.within) }

pub returns-then-is_below : goal.returns-then-is_below
returns-then-is_below g c =
    sym (at_target c.args.self.now.table.now c.args.self.now.from (g.G.Graph.rows c.args.self.now.graph.now) c.args.node c.args.place c.target-target.result c.requires.node c.requires.place
    c.target-target.ensures ∙ stays_below c.args.self.now.table.now c.args.self.now.from c.args.node c.target-target.result (c.is_below.ensures.0 c.if-is_below.true))

pub returns-else-is_below : goal.returns-else-is_below
returns-else-is_below g c =
    sym (at_target c.args.self.now.table.now c.args.self.now.from (g.G.Graph.rows c.args.self.now.graph.now) c.args.node c.args.place c.target-target.result c.requires.node c.requires.place
    c.target-target.ensures ∙ goes_above c.args.self.now.table.now c.args.self.now.from c.args.node c.target-target.result
    (not_less (slice_index c.args.self.now.table.now c.target-target.result) (slice_index c.args.self.now.table.now c.args.self.now.from) c.is_below.result c.if-is_below.false c.is_below.ensures.1))
