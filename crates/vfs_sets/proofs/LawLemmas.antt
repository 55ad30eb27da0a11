-- What the laws of the crate say.
use Rattle.std.proofs.Common.{◌≡◌, ◌↔◌, ◌+◌, ◌*◌, ◌<◌, ◌≤◌, ℕ, List, [], ◌∷◌, true, ap, arith, length, subst, sym}
use Rattle.base_values.specs.Equality.{IsContentEquality}
use Rattle.base_values.proofs.Equalities.{lists, numbers, pairs}
use Rattle.std.proofs.lemmas.Bool.Decides.{Decides-and}
use Rattle.std.proofs.lemmas.List.Sums.{sum_by-cons}
use Rattle.std.specs.List.{count_by, sum_by}
use Rattle.base_text_paths.specs.Paths.{is_slash}
use Rattle.vfs_core.specs.VfsPath.{PathContent, vfs_path_eq}
use Rattle.vfs_core.specs.VfsPathOrder.{vfs_path_eq-same, vfs_path_equiv}
use Rattle.vfs_sets.specs.FileSet.{files_eq}
use Rattle.vfs_sets.specs.Placement.{FitsNoRoot, IsPlaceOf, place_of, placed_text}
use Rattle.vfs_sets.specs.Probes.{most_probes}
use Rattle.vfs_sets.proofs.FitLemmas.{fits_no_root, place_of_is}
use Rattle.vfs_sets.proofs.ProbeLemmas.{FitsNoRoot-computed, IsPlaceOf-computed, set-within}

-- paths that are equal are one
paths : IsContentEquality vfs_path_eq
paths x y = (vfs_path_eq-same x y, λ same. subst (λ p. vfs_path_eq x p ≡ true) same (vfs_path_equiv.refl x))

-- and so are sets of files
pub sets_are_equal : IsContentEquality files_eq
sets_are_equal x y =
    let both = Decides-and _ _ (lists _ (pairs vfs_path_eq _ paths numbers) x.files y.files)
    (lists _ (pairs _ vfs_path_eq numbers paths) x.paths y.paths) in
    (λ h. let parts = both.0 h in λ i. record { files = parts.0 i; paths = parts.1 i }, λ same. both.1 (ap (λ set. set.files) same, ap (λ set. set.paths) same))

-- the set that is computed is the place, and a place is that set
pub place_is_computed : (sets : List (List PathContent)) (path : PathContent) (number : ℕ)
    → IsPlaceOf sets path number ↔ ((number < length sets) × (place_of sets path ≡ number))
place_is_computed sets path number = (
  λ place. (set-within sets number place.own.own.0 place.own.own.1, sym (IsPlaceOf-computed sets path number place)),
  λ computed. subst (IsPlaceOf sets path) computed.1 (place_of_is sets path (omega (arith, computed.0, computed.1))),
)

-- and where none is computed no root fits
pub no_place_is_computed : (sets : List (List PathContent)) (path : PathContent)
    → FitsNoRoot sets path ↔ (place_of sets path ≡ length sets)
no_place_is_computed sets path = (λ none. sym (FitsNoRoot-computed sets path none), fits_no_root sets path)

-- what is counted at most is within either bound
pub within_bytes : (files : List (ℕ × PathContent)) → most_probes files ≤ sum_by (λ file. length (placed_text file.1) + 1) files
within_bytes [] = omega arith
within_bytes (file ∷ files) =
    let more = within_bytes files in
    let sum = sum_by-cons (λ (file : ℕ × PathContent). length (placed_text file.1) + 1) file files in
    omega (arith, more, sum)

pub within_slashes : (files : List (ℕ × PathContent))
    → most_probes files ≤ sum_by (λ file. 2 * count_by is_slash (placed_text file.1) + 1) files
within_slashes [] = omega arith
within_slashes (file ∷ files) =
    let more = within_slashes files in
    let sum = sum_by-cons (λ (file : ℕ × PathContent). 2 * count_by is_slash (placed_text file.1) + 1) file files in
    omega (arith, more, sum)
