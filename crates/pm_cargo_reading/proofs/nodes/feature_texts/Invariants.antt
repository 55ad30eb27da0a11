use Rattle.std.proofs.Common.{◌≡◌, ◌++◌}
use Rattle.pm_cargo_reading.proofs.nodes.feature_texts.Given as goal

abbrev pub invariant-loop-feature : goal.invariant-loop-feature
invariant-loop-feature l = record {
  done : l.texts.items ≡ l.yielded;
  all : l.initial.feature-iterator.rest.items ≡ l.yielded ++ l.feature-iterator.rest.items;
}
