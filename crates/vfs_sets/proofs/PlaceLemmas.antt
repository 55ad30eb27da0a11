-- A place is one of the sets or their number.
use Rattle.std.proofs.Common.{◌≡◌, ℕ, ◌+◌, ◌≤◌, Bool, true, false, List, [], ◌∷◌}
use Rattle.std.proofs.Common.{arith, drop, if◌then◌else◌, length, refl}
use Rattle.vfs_core.specs.VfsPath.{PathContent}
use Rattle.vfs_sets.specs.Placement.{place_of, takes_path}

-- nothing follows all of a list
pub drop_end : {X : Type 0} → (xs : List X) → drop (length xs) xs ≡ []
drop_end [] = refl
drop_end (x ∷ xs) = drop_end xs

-- a place is a set or the number of sets
place-split : (t : Bool) (place count : ℕ) → place ≤ count → (if t then 0 else place + 1) ≤ count + 1
place-split true place count h = omega arith
place-split false place count h = omega arith

pub place_within : (sets : List (List PathContent)) (path : PathContent) → place_of sets path ≤ length sets
place_within [] path = omega arith
place_within (roots ∷ sets) path =
    let more = place-split (takes_path roots sets path) (place_of sets path) (length sets) (place_within sets path) in
    omega (arith, more)
