-- The roots of sets by their encodings, in byte order: each encoding once, with the least set that has a root
-- of it. From the documentation of the file system's partition into sets.
use Rattle.std.specs.Prelude.{◌≡◌, ℕ, Bool, List, Option, Some, if◌then◌else◌}
use Rattle.std.specs.Cmp.Lexicographic.{slice_cmp}
use Rattle.std.specs.List.{list_any, position_from}
use Rattle.std.specs.List.Sorted.{IsStrictlySortedBy}
use Rattle.std.specs.Map.{keys_of, lookup}
use Rattle.std.specs.Ordering.{nat_cmp}
use Rattle.std.specs.Str.{bytes_eq}
use Rattle.vfs_core.specs.VfsPath.{PathContent}
use Rattle.vfs_sets.specs.Placement.{encoding}

-- whether one of the roots has an encoding
abbrev pub has_encoding : List ℕ → List PathContent → Bool
has_encoding bytes roots = list_any (λ root. bytes_eq bytes (encoding root)) roots

-- the first set with a root of an encoding, or none
abbrev pub first_with : List ℕ → List (List PathContent) → Option ℕ
first_with bytes sets = position_from (has_encoding bytes) 0 sets

-- the number that stands beside an encoding, or none
abbrev pub number_beside : List ℕ → List (List ℕ × ℕ) → Option ℕ
number_beside bytes pairs = lookup (bytes_eq bytes) pairs

-- encodings that ascend by their bytes, each beside the first set with a root of it, and no other encodings
pub record AreRoots (sets : List (List PathContent)) (pairs : List (List ℕ × ℕ)) : Type 0 where
  pub ascending : IsStrictlySortedBy (slice_cmp nat_cmp) (keys_of pairs)
  pub each : (bytes : List ℕ) → number_beside bytes pairs ≡ first_with bytes sets

-- a set's number stands beside the encoding of each of its roots, and beside each other encoding what stood
-- there
pub record PutsRoots (old new : List (List ℕ × ℕ)) (roots : List PathContent) (number : ℕ) : Type 0 where
  pub each : (bytes : List ℕ)
      → number_beside bytes new ≡ (if has_encoding bytes roots then Some number else number_beside bytes old)
