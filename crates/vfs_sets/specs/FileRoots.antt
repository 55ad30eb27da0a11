-- The roots that files are placed by, and the source roots that their files become: one for each, in order,
-- and one for the files that fit none of them. From the way in which rust-analyzer makes source roots of a
-- project's roots.
use Rattle.std.specs.Prelude.{ℕ, ◌+◌, Bool, true, List, map, length, slice_get}
use Rattle.std.specs.List.{range_with_len}
use Rattle.std.specs.Option.{option_map_or}
use Rattle.vfs_core.specs.VfsPath.{PathContent}
use Rattle.vfs_sets.specs.declared.file_root.FileRoot.{FileRoot}

-- the paths of each root
abbrev pub root_lists : List FileRoot → List (List PathContent)
root_lists roots = map (λ root. root.paths) roots

-- whether the files of a set are local: those of its root are, or it has none
abbrev pub is_local_at : List FileRoot → ℕ → Bool
is_local_at roots number = option_map_or (λ root. root.is_local) (slice_get roots number) true

-- the numbers of the sets: one for each root, and one more
abbrev pub set_numbers : List FileRoot → List ℕ
set_numbers roots = range_with_len 0 (length roots + 1)
