use Rattle.std.proofs.Common.{◌≡◌, [], ◌++◌, Ok}
use Rattle.pm_cargo_reading.specs.Nodes.{take_node}
use Rattle.base_values.specs.Outcome.{take_each}
use Rattle.pm_cargo_reading.proofs.nodes.links_of.Given as goal

abbrev pub invariant-loop-node : goal.invariant-loop-node
invariant-loop-node l = record {
  done : take_each (take_node l.packages) [] l.yielded ≡ Ok l.links.items;
  all : l.initial.node-iterator.rest.items ≡ l.yielded ++ l.node-iterator.rest.items;
}
