use Rattle.std.proofs.Common.{◌≡◌, take}
use Rattle.vfs_sets.specs.FileSet.{set_of}
use Rattle.vfs_sets.proofs.file_maps.FileMaps.of_rows.Given as goal

abbrev pub invariant-loop-file : goal.invariant-loop-file
invariant-loop-file l = l.maps ≡ set_of (take l.file-index l.rows)
