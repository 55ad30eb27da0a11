use Rattle.std.proofs.Common.{◌≡◌, drop}
use Rattle.vfs_sets.specs.FileSet.{file_at}
use Rattle.vfs_sets.specs.Rows.{rows_content}
use Rattle.vfs_sets.proofs.file_rows.FileRows.file_at.Given as goal

abbrev pub invariant-loop-file : goal.invariant-loop-file
invariant-loop-file l = file_at l.self l.path ≡ file_at (rows_content (drop l.file-index l.file-items)) l.path
