use Rattle.std.proofs.Common.{◌≡◌, take}
use Rattle.live_project.specs.Roots.{file_roots}
use Rattle.live_project.proofs.project_roots.file_roots.Given as goal

abbrev pub invariant-loop-root : goal.invariant-loop-root
invariant-loop-root l = l.made.items ≡ file_roots (take l.root-index l.roots)
