-- What a tree in memory holds after a file is put in, and what comes next in the order of its paths.
use Rattle.std.specs.Prelude.{ℕ, Bool, List, Option, bytes_eq}
use Rattle.std.specs.BTreeMap.{insert_entry}
use Rattle.std.specs.Cmp.Lexicographic.{pointwise}
use Rattle.std.specs.List.{find, slice_split}
use Rattle.std.specs.Map.{keys_of}
use Rattle.std.specs.Ordering.{is_le, is_lt}
use Rattle.base_values.specs.ByText.{text_cmp}
use Rattle.base_text_paths.specs.PathOrder.{path_cmp}
use Rattle.base_text_paths.specs.Paths.{is_component, is_slash, normal, path_text}
use Rattle.base_text.specs.Tree.{TreeFiles}

-- the files with a text at the normal path, in place of an earlier one or as a new file in its place
abbrev pub with_tree_file : List ℕ → List ℕ → TreeFiles → TreeFiles
with_tree_file path text files = insert_entry path_cmp files (path_text (normal path)) text

-- two paths are the same once they are normal
abbrev pub is_same_file : List ℕ → List ℕ → Bool
is_same_file path other = pointwise bytes_eq (normal path) (normal other)

-- the first file that does not come before a path
abbrev pub first_from : List ℕ → TreeFiles → Option (List ℕ)
first_from path files = find (λ file. is_le (path_cmp path file)) (keys_of files)

-- the first of some names that comes after a name
abbrev pub first_after : List ℕ → List (List ℕ) → Option (List ℕ)
first_after name names = find (λ other. is_lt (text_cmp name other)) names

-- the first component of a text
abbrev pub first_component : List ℕ → Option (List ℕ)
first_component text = find is_component (slice_split is_slash text)
