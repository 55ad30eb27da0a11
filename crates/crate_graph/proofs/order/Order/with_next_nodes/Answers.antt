use Rattle.std.proofs.Common.{ap, arith, length, ◌∙◌}
use Rattle.crate_graph.specs.Order.{Ranking, with_next_node}
use Rattle.crate_graph.proofs.OrderLemmas.{length-with_next_nodes, next_more}
use Rattle.crate_graph.proofs.order.Order.with_next_nodes.Goals as goal

pub push-requires : goal.push-requires
push-requires c =
    let long = ap (λ (o : Ranking). length o.nodes) c.loop.invariant ∙ length-with_next_nodes c.args.self.now c.loop.counter in
    omega (arith, long, c.requires, c.loop-test.true)

pub loop-preserved : goal.loop-preserved
loop-preserved c = c.in_ok-push.ensures.ok ∙ ap with_next_node c.loop.invariant ∙ next_more c.args.self.now c.loop.counter
