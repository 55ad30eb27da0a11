use Rattle.std.proofs.Common.{◌≡◌, ◌++◌, length, take}
use Rattle.pm_tools.specs.Packages.{lent_packages}
use Rattle.pm_tools.proofs.packages.push_packages.Given as goal

abbrev pub invariant-loop-package : goal.invariant-loop-package
invariant-loop-package l = lent_packages l.packages ≡ lent_packages l.initial.packages ++ take (length l.yielded) l.workspace.packages
