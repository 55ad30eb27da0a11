use Rattle.std.proofs.Common.{◌↔◌, ◌<◌, ◌++◌, ◌∷◌, [], ◌∙◌, ap, arith, length, length-set, subst}
use Rattle.std.proofs.lemmas.List.{take_all}
use Rattle.graph_base.specs.Edges.{HasEdge, row, with_edge}
use Rattle.graph_base.proofs.TrailLemmas.{edge_fits}
use Rattle.graph_base.proofs.BackLemmas.{LedBack, led_more}
use Rattle.graph_base.proofs.rows.Rows.lead_back.Goals as goal

pub add_edge-requires-clause-from : goal.add_edge-requires-clause-from
add_edge-requires-clause-from g c =
    let rows = g.G.Graph.rows c.args.graph.now in
    let below : c.loop-place.place < length (row rows c.args.source) = omega (arith, c.loop-place-test.true, c.degree-place-end.ensures) in
    let fits = edge_fits rows c.args.source c.loop-place.place c.target-target.result c.requires.in_range below c.target-target.ensures in
    omega (arith, fits, c.loop-place.invariant.nodes, c.requires.nodes)

pub loop-place-preserved : goal.loop-place-preserved
loop-place-preserved g c =
    let rows = g.G.Graph.rows c.args.graph.now in
    let targets = row rows c.args.source in
    let now = c.loop-place.self in
    let target = c.target-target.result in
    let below : c.loop-place.place < length (row rows c.args.source) = omega (arith, c.loop-place-test.true, c.degree-place-end.ensures) in
    let fits = edge_fits rows c.args.source c.loop-place.place target c.requires.in_range below c.target-target.ensures in
    record {
      nodes =
          ap length c.in_ok-add_edge.ensures ∙ length-set now target (row now target ++ c.args.source ∷ []) ∙ c.loop-place.invariant.nodes;
      edges =
          led_more c.args.self.now now c.add_edge.new.self c.args.source c.loop-place.place targets below
          (subst (λ t. t < length now) c.target-target.ensures (omega (arith, fits, c.loop-place.invariant.nodes, c.requires.nodes)))
          (c.in_ok-add_edge.ensures ∙ ap (λ t. with_edge now t c.args.source) c.target-target.ensures)
          c.loop-place.invariant.edges;
    }

pub returns-clause-edges : goal.returns-clause-edges
returns-clause-edges g c = λ a b.
    let targets = row (g.G.Graph.rows c.args.graph.now) c.args.source in
    subst (λ l. HasEdge c.loop-place.self b a ↔ LedBack c.args.self.now c.args.source l a b)
    (take_all c.loop-place.place targets (omega (arith, c.loop-place-test.false, c.degree-place-end.ensures)))
    (c.loop-place.invariant.edges a b)
