use Rattle.std.proofs.Common.{◌≡◌, ◌++◌}
use Rattle.pm_cargo_reading.proofs.linking.append_items.Given as goal

abbrev pub invariant-loop-item : goal.invariant-loop-item
invariant-loop-item g l = record {
  done : l.all.items ≡ l.initial.all.items ++ l.yielded;
  all : l.initial.item-iterator.rest.items ≡ l.yielded ++ l.item-iterator.rest.items;
}
