-- Which set takes a path: of the roots that begin the path's directory by whole components, the longest, and
-- of these the least set.
-- From the documentation of source roots: a file belongs to the nearest root that encloses it.
use Rattle.std.specs.Prelude.{◌≡◌, ◌≤◌, ℕ, ◌+◌, ◌&&◌, ◌||◌, ◌==◌, Bool, List, [], ◌∷◌, Option, Some, None, Contains, IsTrue, drop, length, max}
use Rattle.std.specs.Prelude.{codes, nat_eq, nat_le, nat_lt, slice_index_or, if◌then◌else◌}
use Rattle.std.specs.Bool.{beq}
use Rattle.std.specs.List.{ends_with, starts_with}
use Rattle.std.specs.Option.{unwrap_or}
use Rattle.vfs_core.specs.VfsPath.{PathContent, text_above}

-- the encoding of a path: its kind, then its text
abbrev pub encoding : PathContent → List ℕ
encoding path = (if path.is_virtual then 1 else 0) ∷ path.text

-- the text by which a path is placed: that of the path above, or its own where there is none
abbrev pub placed_text : PathContent → List ℕ
placed_text path = unwrap_or (text_above path) path.text

-- whether a root's text begins a text by whole components: it is a prefix of its bytes, and the text ends
-- there, or the root's text ends in a slash, or the next byte of the text is one
abbrev pub begins_text : List ℕ → List ℕ → Bool
begins_text root text =
    starts_with nat_eq text root
    && (length root == length text
    || ends_with nat_eq root (codes "/")
    || starts_with nat_eq (drop (length root) text) (codes "/"))

-- a root fits a path of its kind, where its text begins that one
abbrev pub fits_path : PathContent → PathContent → Bool
fits_path root path = beq root.is_virtual path.is_virtual && begins_text root.text (placed_text path)

-- a root of a set fits a path
pub record IsFit (sets : List (List PathContent)) (path : PathContent) (number : ℕ) (root : PathContent)
    : Type 0 where
  pub own : Contains (slice_index_or sets number []) root
  pub begins : IsTrue (fits_path root path)

-- the set that takes a path: a root of it fits, none that fits is longer, and no lesser set has one as long
pub record IsPlaceOf (sets : List (List PathContent)) (path : PathContent) (number : ℕ) : Type 0 where
  pub root : PathContent
  pub own : IsFit sets path number root
  pub longest : (other : ℕ) (rival : PathContent)
      → IsFit sets path other rival → length rival.text ≤ length root.text
  pub least : (other : ℕ) (rival : PathContent)
      → IsFit sets path other rival → length rival.text ≡ length root.text → number ≤ other

-- no root of any set fits a path
abbrev pub FitsNoRoot : List (List PathContent) → PathContent → Type 0
FitsNoRoot sets path = (number : ℕ) (root : PathContent) → IsFit sets path number root → ⊥

-- What follows computes that set.

-- one more than the length of a root that fits, and 0 for one that does not
abbrev pub reach : PathContent → PathContent → ℕ
reach root path = if fits_path root path then length root.text + 1 else 0

-- the reach of the longest root that fits
abbrev pub longest_reach : List PathContent → PathContent → ℕ
longest_reach [] path = 0
longest_reach (root ∷ roots) path = max (reach root path) (longest_reach roots path)

-- the same of all sets
abbrev pub longest_reach_of_all : List (List PathContent) → PathContent → ℕ
longest_reach_of_all [] path = 0
longest_reach_of_all (roots ∷ sets) path = max (longest_reach roots path) (longest_reach_of_all sets path)

-- a set takes a path where a root of it fits and no set behind it has a longer one
abbrev pub takes_path : List PathContent → List (List PathContent) → PathContent → Bool
takes_path roots behind path =
    nat_lt 0 (longest_reach roots path)
    && nat_le (longest_reach_of_all behind path) (longest_reach roots path)

-- the first set that takes a path, or the number of sets
abbrev pub place_of : List (List PathContent) → PathContent → ℕ
place_of [] path = 0
place_of (roots ∷ sets) path = if takes_path roots sets path then 0 else place_of sets path + 1

-- the set of a path, where a root fits
abbrev pub class_of : List (List PathContent) → PathContent → Option ℕ
class_of sets path = if place_of sets path == length sets then None else Some (place_of sets path)
