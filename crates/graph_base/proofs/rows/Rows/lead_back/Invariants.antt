use Rattle.std.proofs.Common.{◌≡◌, ◌↔◌, ℕ, length, take}
use Rattle.graph_base.specs.Edges.{HasEdge, row}
use Rattle.graph_base.proofs.BackLemmas.{LedBack}
use Rattle.graph_base.proofs.rows.Rows.lead_back.Given as goal

abbrev pub invariant-loop-place : goal.invariant-loop-place
invariant-loop-place g l = record {
  nodes : length l.self ≡ length l.initial.self;
  edges : (a b : ℕ) → HasEdge l.self b a ↔ LedBack l.initial.self l.source (take l.place (row (g.G.Graph.rows l.graph) l.source)) a b;
}
