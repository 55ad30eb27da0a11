-- What a tree of files holds: a finite map from normal paths to texts. A directory is a path that is above a
-- file.
use Rattle.std.specs.Prelude.{ℕ, Bool, ◌&&◌, if◌then◌else◌, List, [], length, nat_lt, slice_get, Option, Some, None, bytes_eq, fold}
use Rattle.std.specs.BTreeSet.{insert_key}
use Rattle.std.specs.Cmp.Lexicographic.{pointwise}
use Rattle.std.specs.List.{filter_map, list_any}
use Rattle.std.specs.Map.{lookup}
use Rattle.base_values.specs.ByText.{text_cmp}
use Rattle.base_text_paths.specs.Paths.{components, is_prefix, normal}

-- the path and the text of each file
abbrev pub TreeFiles : Type 0
TreeFiles = List (List ℕ × List ℕ)

-- a path is a file or a directory: the components of its normal path begin those of a file
unfoldable pub holds_path : TreeFiles → List ℕ → Bool
holds_path files path = list_any (λ file. is_prefix (normal path) (components file.0)) files

-- a directory is above a file: its components begin those of the file, which has more
unfoldable pub is_above : List (List ℕ) → List (List ℕ) → Bool
is_above directory file = is_prefix directory file && nat_lt (length directory) (length file)

-- the component of a file behind those of a directory, where the directory is above the file
unfoldable pub entry_name : List (List ℕ) → List (List ℕ) → Option (List ℕ)
entry_name directory file = if is_above directory file then slice_get file (length directory) else None

-- the names of the entries of a directory, in the order of their bytes and each once
unfoldable pub entry_names : TreeFiles → List (List ℕ) → List (List ℕ)
entry_names files directory =
    fold (insert_key text_cmp) [] (filter_map (λ file. entry_name directory (components file.0)) files)

-- the names of the entries of a path, where it is a directory
unfoldable pub names_in : TreeFiles → List ℕ → Option (List (List ℕ))
names_in files path =
    if list_any (λ file. is_above (normal path) (components file.0)) files then Some (entry_names files (normal path))
    else None

-- the text of the file at the normal path
unfoldable pub file_text : TreeFiles → List ℕ → Option (List ℕ)
file_text files path = lookup (λ file. pointwise bytes_eq (normal path) (components file)) files
