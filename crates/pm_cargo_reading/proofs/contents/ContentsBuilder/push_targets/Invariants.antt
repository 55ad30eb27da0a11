use Rattle.std.proofs.Common.{◌≡◌, ◌++◌, Ok, length}
use Rattle.pm_cargo_reading.specs.Packages.{take_target}
use Rattle.base_values.specs.Outcome.{take_each}
use Rattle.pm_cargo_reading.proofs.contents.ContentsBuilder.push_targets.Given as goal

abbrev pub invariant-loop-target : goal.invariant-loop-target
invariant-loop-target l = record {
  done : take_each (take_target l.limit (length l.initial.self.packages) l.manifest) l.initial.self.targets l.yielded ≡ Ok l.self.targets;
  packages : l.self.packages ≡ l.initial.self.packages;
  all : l.initial.target-iterator.rest.items ≡ l.yielded ++ l.target-iterator.rest.items;
}
