use Rattle.std.proofs.Common.{◌≡◌, take}
use Rattle.vfs_sets.specs.RootMaps.{longest_text_of_all}
use Rattle.vfs_sets.proofs.root_map.longest_root.Given as goal

abbrev pub invariant-loop-roots : goal.invariant-loop-roots
invariant-loop-roots l = l.longest ≡ longest_text_of_all (take l.roots-index l.sets)
