-- The number of a path is the place of its entry, and the other way round; and a file that exists is found by its number.
use Rattle.std.proofs.Common.{◌≡◌, ℕ, zero, suc, ◌+◌, nat_eq, eq-eqb, Bool, true, false, List, [], ◌∷◌, Option, Some, refl, ◌∙◌, ap, arith, slice_get, if◌then◌else◌}
use Rattle.std.specs.List.{IsDistinct}
use Rattle.std.specs.Map.{keys_of, lookup}
use Rattle.vfs_core.specs.declared.file_state.FileState.{FileState}
use Rattle.vfs_core.specs.FileState.{is_existing}
use Rattle.vfs_core.specs.Files.{Files, existing_files_from, path_number, paths_of}
use Rattle.vfs_core.specs.VfsPath.{PathContent, vfs_path_eq}
use Rattle.vfs_core.proofs.NumberLemmas.{keys_at, number_of_path, path_of_number}
use Rattle.live_page.proofs.Ascending.{nat_eq-above}

-- an entry of a path
pub record HasEntry (entries : List (PathContent × FileState)) (number : ℕ) (path : PathContent) : Type 0 where
  pub state : FileState
  pub entry : slice_get entries number ≡ Some (path, state)

-- the entry of a path that stands here
entry_at : (entries : List (PathContent × FileState)) (number : ℕ) (path : PathContent)
    → slice_get (keys_of entries) number ≡ Some path → HasEntry entries number path
entry_at [] number path h = cc
entry_at (first ∷ rest) zero path h =
    let same : first.0 ≡ path = cc in record { state = first.1; entry = ap (λ p. Some (p, first.1)) same }
entry_at (first ∷ rest) (suc number) path h =
    let later = entry_at rest number path h in record { state = later.state; entry = later.entry }

-- the number of a path is the place of an entry of it
pub slot_of : (files : Files) (path : PathContent) (number : ℕ) → path_number files path ≡ Some number → HasEntry files.entries number path
slot_of files path number h = entry_at files.entries number path (path_of_number path (paths_of files) number h)

-- so the place of an entry is the number of its path
pub number_is : (files : Files) (number : ℕ) (entry : PathContent × FileState) → IsDistinct vfs_path_eq (paths_of files)
    → slice_get files.entries number ≡ Some entry → path_number files entry.0 ≡ Some number
number_is files number entry distinct h =
    number_of_path (paths_of files) number entry.0 distinct (keys_at files.entries number entry.0 entry.1 h)

-- ---- files that exist

-- a file that exists is found by its number: the same by whether the first entry exists
found-split : (number other : ℕ) (place : PathContent) (rest : List (ℕ × PathContent)) (is is_first : Bool) (found : Option PathContent)
    → is_first ≡ false → lookup (nat_eq other) rest ≡ found
    → nat_eq other number ≡ is_first
    → lookup (nat_eq other) (if is then (number, place) ∷ rest else rest) ≡ found
found-split number other place rest true is_first found apart at e = rw (e ∙ apart) at
found-split number other place rest false is_first found apart at e = at

pub existing_found : (number place : ℕ) (entries : List (PathContent × FileState)) (entry : PathContent × FileState) (file : ℕ)
    → slice_get entries place ≡ Some entry → is_existing entry.1 ≡ true → file ≡ number + place
    → lookup (nat_eq file) (existing_files_from number entries) ≡ Some entry.0
existing_found number place [] entry file at exists is = cc
existing_found number zero (first ∷ entries) entry file at exists is =
    let same : first ≡ entry = cc in
    let here : is_existing first.1 ≡ true = ap (λ e. is_existing e.1) same ∙ exists in
    let own : nat_eq file number ≡ true = eq-eqb file number (omega (arith, is)) in
    rw (here, own) (ap (λ e. Some e.0) same)
existing_found number (suc place) (first ∷ entries) entry file at exists is =
    found-split number file first.0 (existing_files_from (number + 1) entries) (is_existing first.1) false (Some entry.0) refl
    (existing_found (number + 1) place entries entry file at exists (omega (arith, is)))
    (nat_eq-above file number (omega (arith, is)))
