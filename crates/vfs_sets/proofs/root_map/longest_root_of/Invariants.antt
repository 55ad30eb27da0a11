use Rattle.std.proofs.Common.{◌≡◌, take}
use Rattle.vfs_sets.specs.RootMaps.{longest_text}
use Rattle.vfs_sets.proofs.root_map.longest_root_of.Given as goal

abbrev pub invariant-loop-root : goal.invariant-loop-root
invariant-loop-root l = l.longest ≡ longest_text (take l.root-index l.roots)
