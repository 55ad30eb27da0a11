-- What a loader says of files: a finite map from normalized paths to the numbers of files.
use Rattle.std.specs.Prelude.{ℕ, List, Option}
use Rattle.std.specs.Map.{lookup}
use Rattle.indexmap.specs.IndexMap.{insert_entry}
use Rattle.base_text_paths.specs.PathOrder.{path_eq}
use Rattle.base_text_paths.specs.Paths.{normal, path_text}

-- numbers of files by their paths
abbrev pub FileNumbers : Type 0
FileNumbers = List (List ℕ × ℕ)

-- a path with each `..` resolved
abbrev pub path_key : List ℕ → List ℕ
path_key path = path_text (normal path)

-- the number of the file at a path, which is looked up once it is normalized
abbrev pub file_number : FileNumbers → List ℕ → Option ℕ
file_number files path = lookup (path_eq (path_key path)) files

-- the files with one more, in place of an earlier one of the same path
abbrev pub with_numbered_file : FileNumbers → List ℕ → ℕ → FileNumbers
with_numbered_file files path file = insert_entry path_eq files (path_key path) file
