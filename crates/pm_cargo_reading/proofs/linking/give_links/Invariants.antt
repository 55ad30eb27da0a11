use Rattle.std.proofs.Common.{◌≡◌, ◌++◌}
use Rattle.pm_cargo_reading.specs.Links.{with_links}
use Rattle.pm_cargo_reading.proofs.linking.give_links.Given as goal

abbrev pub invariant-loop-link : goal.invariant-loop-link
invariant-loop-link l = record {
  done : l.packages ≡ with_links l.yielded l.initial.packages;
  all : l.initial.link-iterator.rest.items ≡ l.yielded ++ l.link-iterator.rest.items;
}
