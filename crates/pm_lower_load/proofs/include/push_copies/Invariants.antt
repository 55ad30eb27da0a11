use Rattle.std.proofs.Common.{◌≡◌, ◌++◌, take}
use Rattle.pm_lower_load.proofs.include.push_copies.Given as goal

abbrev pub invariant-loop-path : goal.invariant-loop-path
invariant-loop-path l = l.found.items ≡ l.initial.found.items ++ take l.path-index l.paths
