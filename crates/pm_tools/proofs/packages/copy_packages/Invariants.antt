use Rattle.std.proofs.Common.{◌≡◌, length, take}
use Rattle.pm_tools.specs.Packages.{lent_packages}
use Rattle.pm_tools.proofs.packages.copy_packages.Given as goal

abbrev pub invariant-loop-package : goal.invariant-loop-package
invariant-loop-package l = lent_packages l.copy ≡ take (length l.yielded) (lent_packages l.packages)
