use Rattle.std.proofs.Common.{◌≡◌, [], ◌++◌, Ok}
use Rattle.pm_cargo_reading.specs.Nodes.{take_dependency}
use Rattle.base_values.specs.Outcome.{take_each}
use Rattle.pm_cargo_reading.proofs.nodes.dependencies_of.Given as goal

abbrev pub invariant-loop-dep : goal.invariant-loop-dep
invariant-loop-dep l = record {
  done : take_each (take_dependency l.packages) [] l.yielded ≡ Ok l.dependencies.items;
  all : l.initial.dep-iterator.rest.items ≡ l.yielded ++ l.dep-iterator.rest.items;
}
