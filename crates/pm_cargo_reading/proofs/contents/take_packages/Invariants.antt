use Rattle.std.proofs.Common.{◌≡◌, ◌<◌, ◌^◌, [], ◌++◌, Ok, length}
use Rattle.pm_cargo_reading.specs.Packages.{take_package}
use Rattle.base_values.specs.Outcome.{take_each}
use Rattle.pm_cargo_reading.proofs.contents.take_packages.Given as goal

abbrev pub invariant-loop-package : goal.invariant-loop-package
invariant-loop-package l = record {
  done : take_each (take_package l.members l.limits) (record { packages = []; targets = [] }) l.yielded ≡ Ok l.contents;
  packages : length l.contents.packages < 2 ^ 32;
  targets : length l.contents.targets < 2 ^ 32;
  all : l.initial.package-iterator.rest.items ≡ l.yielded ++ l.package-iterator.rest.items;
}
