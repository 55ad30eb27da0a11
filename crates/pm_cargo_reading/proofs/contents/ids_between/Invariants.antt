use Rattle.std.proofs.Common.{◌≡◌, ◌≤◌, max}
use Rattle.pm_cargo_reading.specs.Packages.{ids_between}
use Rattle.pm_cargo_reading.proofs.contents.ids_between.Given as goal

abbrev pub invariant-loop-number : goal.invariant-loop-number
invariant-loop-number l = record {
  done : l.ids.items ≡ ids_between l.first l.number;
  within : l.number ≤ max l.first l.end;
}
