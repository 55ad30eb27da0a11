-- A list, sorted: what those words mean in every crate. Items that tie keep their order, as in a stable sort.
use Rattle.std.specs.Prelude.{List, [], ◌∷◌, if◌then◌else◌}
use Rattle.std.specs.declared.cmp.Ordering.{Ordering}
use Rattle.std.specs.Ordering.{is_lt}

-- x put before the first item that is not less
unfoldable pub place_in : {K : Type 0} → (K → K → Ordering) → K → List K → List K
place_in cmp x [] = x ∷ []
place_in cmp x (y ∷ ys) = if is_lt (cmp y x) then y ∷ place_in cmp x ys else x ∷ y ∷ ys

-- each item put in its place among the rest
unfoldable pub sorted : {K : Type 0} → (K → K → Ordering) → List K → List K
sorted cmp [] = []
sorted cmp (x ∷ xs) = place_in cmp x (sorted cmp xs)
