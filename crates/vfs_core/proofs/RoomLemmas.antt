-- The number that a path takes where it is new, and that the numbers suffice where it is not.
use Rattle.std.proofs.Common.{◌≡◌, ◌+◌, ◌≤◌, Bool, true, false, not, cond, List, [], ◌∷◌, Some, None, refl, sym, ◌∙◌, ap, arith, length, if◌then◌else◌}
use Rattle.std.specs.List.{list_any, position_or_len}
use Rattle.std.specs.Map.{keys_of, lookup}
use Rattle.std.specs.Option.{is_some}
use Rattle.std.proofs.lemmas.Grind.{common_steps}
use Rattle.std.proofs.lemmas.Map.Made.{is_some-lookup}
use Rattle.vfs_core.specs.declared.file_state.FileState.{FileState}
use Rattle.vfs_core.specs.Marks.{with_path}
use Rattle.vfs_core.specs.VfsPath.{PathContent, vfs_path_eq}

-- as many paths as entries
length-paths : (entries : List (PathContent × FileState)) → length (keys_of entries) ≡ length entries
length-paths entries = grind (arith, common_steps)

-- a path that is known makes no more
pub room_known : (entries : List (PathContent × FileState)) (path : PathContent) (state : FileState)
    → lookup (vfs_path_eq path) entries ≡ Some state → length entries ≤ 0x7fff_ffff
    → length (with_path path (keys_of entries)) ≤ 0x7fff_ffff
room_known entries path state h fits =
    let known : list_any (vfs_path_eq path) (keys_of entries) ≡ true =
    sym (is_some-lookup (vfs_path_eq path) entries) ∙ ap is_some h in
    rw known (omega (arith, length-paths entries))

-- the same by whether the first path is the one
absent-split : (path : PathContent) (state : FileState) (entries : List (PathContent × FileState)) (is_first : Bool)
    → (if is_first then Some state else lookup (vfs_path_eq path) entries) ≡ None
    → (lookup (vfs_path_eq path) entries ≡ None → position_or_len (vfs_path_eq path) (keys_of entries) ≡ length entries)
    → cond (not is_first) (1 + position_or_len (vfs_path_eq path) (keys_of entries)) 0 ≡ length entries + 1
absent-split path state entries true h more = cc
absent-split path state entries false h more = omega (arith, more h)

-- a path that is not known comes after all
pub first_absent : (entries : List (PathContent × FileState)) (path : PathContent)
    → lookup (vfs_path_eq path) entries ≡ None
    → position_or_len (vfs_path_eq path) (keys_of entries) ≡ length entries
first_absent [] path h = refl
first_absent (entry ∷ entries) path h =
    let more = absent-split path entry.1 entries (vfs_path_eq path entry.0) h (first_absent entries path) in
    omega (arith, more)
