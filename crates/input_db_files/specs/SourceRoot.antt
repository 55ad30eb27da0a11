-- What contracts see of a source root: whether it is a library, and its set of files.
use Rattle.std.specs.Prelude.{ℕ, Bool, true, false, List, nat_eq, if◌then◌else◌}
use Rattle.std.specs.List.{list_any}
use Rattle.std.specs.Map.{keys_of}
use Rattle.vfs_sets.specs.FileSet.{FileSetContent}
use Rattle.input_db_files.specs.declared.durability.Durability.{Durability}
use Rattle.input_db_files.specs.declared.durability.Durability.TheVariants.{Low, Medium, High}
use Rattle.input_db_files.specs.declared.source_root.SourceRoot.{SourceRoot}

-- a root that is worked on, of a set of files
abbrev pub local_root : FileSetContent → SourceRoot
local_root files = record { is_library = false; file_set = files }

-- a root that is a library, of a set of files
abbrev pub library_root : FileSetContent → SourceRoot
library_root files = record { is_library = true; file_set = files }

-- the set of files of a root
abbrev pub set_of_root : SourceRoot → FileSetContent
set_of_root root = root.file_set

-- the files of a root, in order of first insertion
abbrev pub files_in : SourceRoot → List ℕ
files_in root = keys_of (set_of_root root).paths

-- whether a file is in a root
abbrev pub has_file : SourceRoot → ℕ → Bool
has_file root file = list_any (nat_eq file) (files_in root)

-- how durable a root is, and the place of each of its files: more where it is a library
abbrev pub root_durability : SourceRoot → Durability
root_durability root = if root.is_library then Medium else Low

-- how durable the texts of a root's files are
abbrev pub text_durability : SourceRoot → Durability
text_durability root = if root.is_library then High else Low
