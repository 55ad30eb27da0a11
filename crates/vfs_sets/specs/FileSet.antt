-- What contracts see of a set of files: the file of each path, and the path of each file in order of first
-- insertion.
use Rattle.std.specs.Prelude.{ℕ, Bool, List, [], Option, Some, nat_eq, if◌then◌else◌}
use Rattle.std.specs.Cmp.{and_equiv, nat_eq_equiv, on_equiv, IsEquivalence}
use Rattle.std.specs.Cmp.Lexicographic.{lists_equiv, pointwise}
use Rattle.std.specs.List.{fold}
use Rattle.std.specs.Map.{lookup}
use Rattle.std.specs.Option.{option_and_then, option_map, unwrap_or}
use Rattle.std.specs.Ordering.{eq_of_both, on}
use Rattle.base_text_paths.specs.Paths.{path_text}
use Rattle.indexmap.specs.IndexMap.{insert_entry}
use Rattle.vfs_core.specs.VfsPathOrder.{vfs_path_equiv}
use Rattle.vfs_core.specs.VfsPath.{PathContent, parts_above, vfs_path_eq, real, real_joined, virtual}
use Rattle.vfs_core.specs.VirtualPath.{virtual_parent, virtual_joined}

-- the file of each path, and the path of each file
pub record FileSetContent : Type 0 where
  pub files : List (PathContent × ℕ)
  pub paths : List (ℕ × PathContent)

-- no files
abbrev pub empty_set : FileSetContent
empty_set = record { files = []; paths = [] }

-- sets are equal where they have equal files at equal paths, both ways, in the same order
abbrev pub files_eq : FileSetContent → FileSetContent → Bool
files_eq = eq_of_both
    (on (λ set. set.files) (pointwise (eq_of_both (on (λ entry. entry.0) vfs_path_eq) (on (λ entry. entry.1) nat_eq))))
    (on (λ set. set.paths) (pointwise (eq_of_both (on (λ entry. entry.0) nat_eq) (on (λ entry. entry.1) vfs_path_eq))))

-- and that is an equality
pub files_equiv : IsEquivalence files_eq
files_equiv = and_equiv
    (on_equiv (λ set. set.files)
    (lists_equiv (and_equiv (on_equiv (λ entry. entry.0) vfs_path_equiv) (on_equiv (λ entry. entry.1) nat_eq_equiv))))
    (on_equiv (λ set. set.paths)
    (lists_equiv (and_equiv (on_equiv (λ entry. entry.0) nat_eq_equiv) (on_equiv (λ entry. entry.1) vfs_path_equiv))))

-- a set, with a file at a path
abbrev pub with_set_file : FileSetContent → ℕ → PathContent → FileSetContent
with_set_file set file path = record {
  files = insert_entry vfs_path_eq set.files path file;
  paths = insert_entry nat_eq set.paths file path;
}

-- the file at a path
abbrev pub file_at : FileSetContent → PathContent → Option ℕ
file_at set path = lookup (vfs_path_eq path) set.files

-- the path of a file
abbrev pub path_of : FileSetContent → ℕ → Option PathContent
path_of set file = lookup (nat_eq file) set.paths

-- a path without its last component, or what it is where it has none
abbrev pub directory : PathContent → PathContent
directory path =
    if path.is_virtual then virtual (unwrap_or (virtual_parent path.text) path.text)
    else real (path_text (parts_above path))

-- a path joined with a tail, where a virtual one has as many components as the tail pops
abbrev pub joined_path : PathContent → List ℕ → Option PathContent
joined_path path tail =
    if path.is_virtual then option_map virtual (virtual_joined path.text tail)
    else Some (real_joined path tail)

-- what stands beside a path: its directory joined with a tail
abbrev pub sibling_path : PathContent → List ℕ → Option PathContent
sibling_path path tail = joined_path (directory path) tail

-- the file beside one of the set: none exactly where that one has no path here, the join is none, or no file
-- is there
abbrev pub resolved_file : FileSetContent → ℕ → List ℕ → Option ℕ
resolved_file set anchor tail =
    option_and_then (λ path. option_and_then (file_at set) (sibling_path path tail)) (path_of set anchor)

-- the set of some files, put one after the other
abbrev pub set_of : List (ℕ × PathContent) → FileSetContent
set_of files = fold (λ set file. with_set_file set file.0 file.1) empty_set files

-- a number, as an iteration shows it
abbrev pub number_shown : ℕ → ℕ
number_shown number = number
