use Rattle.std.proofs.Common.{◌≡◌, ◌++◌, take}
use Rattle.pm_lower_load.proofs.json_project_roots.includes_of.Given as goal

abbrev pub invariant-loop-path : goal.invariant-loop-path
invariant-loop-path l = l.paths.items ≡ l.krate.include ++ take l.path-index l.extra_includes
