use Rattle.std.proofs.Common.{◌≡◌, take}
use Rattle.vfs_sets.specs.FileRoots.{root_lists}
use Rattle.vfs_sets.proofs.file_root.file_sets.Given as goal

-- the sets of the roots so far
abbrev pub invariant-loop-root : goal.invariant-loop-root
invariant-loop-root l = l.sets ≡ root_lists (take l.root-index l.roots)
