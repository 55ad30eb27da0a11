use Rattle.std.proofs.Common.{◌≡◌}
use Rattle.crate_graph.specs.Order.{with_next_nodes}
use Rattle.crate_graph.proofs.order.Order.with_next_nodes.Given as goal

abbrev pub invariant-loop : goal.invariant-loop
invariant-loop l = l.order ≡ with_next_nodes l.counter l.self
