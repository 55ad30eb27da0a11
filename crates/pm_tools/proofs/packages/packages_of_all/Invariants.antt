use Rattle.std.proofs.Common.{◌≡◌, take}
use Rattle.pm_tools.specs.Packages.{lent_packages, lent_workspaces, packages_of_all}
use Rattle.pm_tools.proofs.packages.packages_of_all.Given as goal

abbrev pub invariant-loop-workspace : goal.invariant-loop-workspace
invariant-loop-workspace l = lent_packages l.packages ≡ packages_of_all (lent_workspaces (take l.workspace-index l.workspaces))
