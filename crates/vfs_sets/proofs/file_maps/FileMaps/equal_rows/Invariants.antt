use Rattle.std.proofs.Common.{◌≡◌, drop}
use Rattle.vfs_sets.specs.FileSet.{files_eq}
use Rattle.vfs_sets.specs.Rows.{rows_content}
use Rattle.vfs_sets.proofs.file_maps.FileMaps.equal_rows.Given as goal

abbrev pub invariant-loop-file : goal.invariant-loop-file
invariant-loop-file l =
    files_eq l.self (rows_content l.rows) ≡ files_eq (record { files = l.files; paths = l.paths }) (rows_content (drop l.file-index l.rows))
