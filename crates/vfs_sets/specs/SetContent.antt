-- What contracts see of a set that keeps its files as rows or in maps, and of an iteration over either.
use Rattle.std.specs.Prelude.{ℕ, List}
use Rattle.std.specs.Map.{keys_of}
use Rattle.vfs_sets.specs.FileSet.{FileSetContent}
use Rattle.vfs_sets.specs.declared.file_set.Content.{Content}
use Rattle.vfs_sets.specs.declared.file_set.Content.TheVariants.{Few, Many}
use Rattle.vfs_sets.specs.declared.file_set_iter.Left.{Left}
use Rattle.vfs_sets.specs.declared.file_set_iter.Left.TheVariants.{Rows, Entries}

-- the files of either
abbrev pub content_of : Content → FileSetContent
content_of (Few rows) = rows
content_of (Many maps) = maps.value

-- the files that are left in either
abbrev pub files_left : Left → List ℕ
files_left (Rows rows) = keys_of rows.now
files_left (Entries entries) = keys_of entries
