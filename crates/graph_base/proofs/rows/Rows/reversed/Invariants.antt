use Rattle.std.proofs.Common.{◌≡◌, ◌↔◌, ℕ, ◌<◌, length}
use Rattle.graph_base.specs.Edges.{HasEdge}
use Rattle.graph_base.proofs.rows.Rows.reversed.Given as goal

abbrev pub invariant-loop-source : goal.invariant-loop-source
invariant-loop-source g l = record {
  nodes : length l.back ≡ length (g.G.Graph.rows l.graph);
  edges : (a b : ℕ) → HasEdge l.back b a ↔ (HasEdge (g.G.Graph.rows l.graph) a b × (a < l.source));
}
