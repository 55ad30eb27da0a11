use Rattle.std.proofs.Common.{◌≡◌, drop}
use Rattle.vfs_sets.specs.FileSet.{path_of}
use Rattle.vfs_sets.specs.Rows.{rows_content}
use Rattle.vfs_sets.proofs.file_rows.FileRows.path_of.Given as goal

abbrev pub invariant-loop-other : goal.invariant-loop-other
invariant-loop-other l = path_of l.self l.file ≡ path_of (rows_content (drop l.other-index l.self.paths)) l.file
