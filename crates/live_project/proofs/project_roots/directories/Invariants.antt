use Rattle.std.proofs.Common.{◌≡◌, map, take}
use Rattle.live_project.specs.Roots.{live_root_path}
use Rattle.live_project.proofs.project_roots.directories.Given as goal

abbrev pub invariant-loop-path : goal.invariant-loop-path
invariant-loop-path l = l.paths.items ≡ map live_root_path (take l.path-index l.path-items)
