-- Numbers of paths: the path of a path's number is that path, and the other way round.
use Rattle.std.proofs.Common.{◌≡◌, ℕ, zero, suc, ◌+◌, ◌<◌, Bool, true, false, not, cond, List, [], ◌∷◌, Some, refl, sym, ◌∙◌, ap, subst, arith, slice_get, position, length, nat_lt}
use Rattle.std.specs.List.{AllByRecursion, IsDistinct, position_or_len}
use Rattle.std.proofs.lemmas.Option.{slice_get_within}
use Rattle.std.specs.Map.{keys_of}
use Rattle.vfs_core.specs.declared.file_state.FileState.{FileState}
use Rattle.vfs_core.specs.VfsPath.{PathContent, vfs_path_eq}
use Rattle.vfs_core.proofs.FileLemmas.{position-at, position-in}
use Rattle.vfs_core.specs.VfsPathOrder.{vfs_path_eq-same, vfs_path_equiv}

-- the first equal path: the same by whether the first of all is equal
first-split : (path first : PathContent) (rest : List PathContent) (number : ℕ) (is_first : Bool)
    → vfs_path_eq path first ≡ is_first
    → ((n : ℕ) → position_or_len (vfs_path_eq path) rest ≡ n → n < length rest → slice_get rest n ≡ Some path)
    → cond (not is_first) (1 + position_or_len (vfs_path_eq path) rest) 0 ≡ number → number < length (first ∷ rest)
    → slice_get (first ∷ rest) number ≡ Some path
first-split path first rest zero true e more at within = ap Some (sym (vfs_path_eq-same path first e))
first-split path first rest (suc number) true e more at within = absurd (omega arith)
first-split path first rest zero false e more at within = absurd (omega arith)
first-split path first rest (suc number) false e more at within =
    more number (omega arith) (omega arith)

-- the first equal path is the path
pub first-is : (path : PathContent) (paths : List PathContent) (number : ℕ)
    → position_or_len (vfs_path_eq path) paths ≡ number → number < length paths
    → slice_get paths number ≡ Some path
first-is path [] number at within = absurd (omega arith)
first-is path (first ∷ rest) number at within =
    first-split path first rest number (vfs_path_eq path first) refl (first-is path rest) at within

-- the path of a path's number is that path
pub path_of_number : (path : PathContent) (paths : List PathContent) (number : ℕ)
    → position (vfs_path_eq path) paths ≡ Some number → slice_get paths number ≡ Some path
path_of_number path paths number h =
    let found = position-in (vfs_path_eq path) paths number
    (nat_lt (position_or_len (vfs_path_eq path) paths) (length paths)) refl h in
    first-is path paths number found.0 found.1

-- what holds of all holds at a number
pub all-at : (P : PathContent → Type 0) (paths : List PathContent) (number : ℕ) (path : PathContent)
    → AllByRecursion P paths → slice_get paths number ≡ Some path → P path
all-at P [] number path all h = cc
all-at P (first ∷ rest) zero path all h =
    let same : first ≡ path = cc in subst P same all.0
all-at P (first ∷ rest) (suc number) path all h = all-at P rest number path all.1 h

-- where no two paths are equal, a path comes first at its own number
own-first : (paths : List PathContent) (number : ℕ) (path : PathContent) → IsDistinct vfs_path_eq paths
    → slice_get paths number ≡ Some path → position_or_len (vfs_path_eq path) paths ≡ number
unfolding IsDistinct
own-first [] number path distinct h = cc
own-first (first ∷ rest) zero path distinct h =
    let same : first ≡ path = cc in
    let equal : vfs_path_eq path first ≡ true = rw same (vfs_path_equiv.refl path) in
    rw equal
own-first (first ∷ rest) (suc number) path distinct h =
    let other : vfs_path_eq first path ≡ false = all-at (λ p. vfs_path_eq first p ≡ false) rest number path distinct.0 h in
    let differs : vfs_path_eq path first ≡ false = vfs_path_equiv.symm path first ∙ other in
    let later = own-first rest number path distinct.1 h in
    rw differs (omega (arith, later))

-- the number of a number's path is that number
pub number_of_path : (paths : List PathContent) (number : ℕ) (path : PathContent) → IsDistinct vfs_path_eq paths
    → slice_get paths number ≡ Some path → position (vfs_path_eq path) paths ≡ Some number
number_of_path paths number path distinct h =
    position-at (vfs_path_eq path) paths number (own-first paths number path distinct h)
    (slice_get_within paths number path h)

-- the path of an entry
pub keys_at : (entries : List (PathContent × FileState)) (number : ℕ) (path : PathContent) (state : FileState)
    → slice_get entries number ≡ Some (path, state) → slice_get (keys_of entries) number ≡ Some path
keys_at [] number path state h = cc
keys_at (entry ∷ entries) zero path state h =
    let same : entry ≡ (path, state) = cc in ap (λ (e : PathContent × FileState). Some e.0) same
keys_at (entry ∷ entries) (suc number) path state h = keys_at entries number path state h
