use Rattle.std.proofs.Common.{◌≡◌, take}
use Rattle.pm_tools.specs.Packages.{lent_workspaces}
use Rattle.pm_lower.specs.Builds.{workspaces_of}
use Rattle.pm_lower.proofs.build_scripts.workspaces_of.Given as goal

abbrev pub invariant-loop-project : goal.invariant-loop-project
invariant-loop-project l = lent_workspaces l.workspaces.items ≡ workspaces_of (take l.project-index l.projects)
