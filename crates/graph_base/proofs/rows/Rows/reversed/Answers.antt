use Rattle.std.proofs.Common.{◌∙◌, arith}
use Rattle.graph_base.proofs.BackLemmas.{led_all, led_node, reach_both_ways}
use Rattle.graph_base.proofs.rows.Rows.reversed.Goals as goal

pub loop-source-preserved : goal.loop-source-preserved
loop-source-preserved g c = record {
  nodes = c.in_ok-lead_back.ensures.nodes ∙ c.loop-source.invariant.nodes;
  edges =
      led_node (g.G.Graph.rows c.args.graph.now) c.loop-source.back c.lead_back.new.self c.loop-source.source
      c.in_ok-lead_back.ensures.edges c.loop-source.invariant.edges;
}

pub returns-clause-edges : goal.returns-clause-edges
returns-clause-edges g c =
    led_all (g.G.Graph.rows c.args.graph.now) c.loop-source.back c.loop-source.source
    (omega (arith, c.loop-source-test.false, c.count-count.ensures.nodes)) c.loop-source.invariant.nodes c.loop-source.invariant.edges

pub returns-clause-reach : goal.returns-clause-reach
returns-clause-reach g c =
    reach_both_ways c.loop-source.back (g.G.Graph.rows c.args.graph.now) (returns-clause-edges g c)
