use Rattle.std.proofs.Common.{◌≡◌, ◌++◌, flat_map, take}
use Rattle.pm_lower_load.specs.Roots.{target_directory}
use Rattle.pm_lower_load.proofs.include.push_targets.Given as goal

abbrev pub invariant-loop-target : goal.invariant-loop-target
invariant-loop-target l = l.found.items ≡ l.initial.found.items ++ flat_map (target_directory l.workspace l.package) (take l.target-index l.target-items)
