use Rattle.std.proofs.Common.{◌≡◌, ◌-◌, ◌^◌, length, min}
use Rattle.pm_lower.proofs.project_workspace.count_packages.Given as goal

abbrev pub invariant-loop : goal.invariant-loop
invariant-loop l = l.count ≡ min (length l.yielded) (2 ^ 64 - 1)
