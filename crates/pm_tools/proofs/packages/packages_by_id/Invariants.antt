use Rattle.std.proofs.Common.{take, length}
use Rattle.pm_tools.specs.Packages.{IsIndexOf, lent_packages}
use Rattle.pm_tools.proofs.packages.packages_by_id.Given as goal

abbrev pub invariant-loop-number : goal.invariant-loop-number
invariant-loop-number l = IsIndexOf (take (length l.yielded) (lent_packages l.packages)) l.by_id
