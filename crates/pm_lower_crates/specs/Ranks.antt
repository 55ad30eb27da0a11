-- The order of ranks: lists of numbers, of which the first two that differ decide.
use Rattle.std.specs.Prelude.{ℕ, ◌<◌, List, [], ◌∷◌}
use Rattle.std.specs.List.{All}
use Rattle.pm_lower_crates.specs.WantedEdges.{RankedEdge}

-- one rank comes before another
pub data IsBefore : List ℕ → List ℕ → Type 0 where
  less : {a b : ℕ} {xs ys : List ℕ} → a < b → IsBefore (a ∷ xs) (b ∷ ys)
  then_less : {a : ℕ} {xs ys : List ℕ} → IsBefore xs ys → IsBefore (a ∷ xs) (a ∷ ys)

-- each rank comes before all later ones
abbrev pub AreInOrder : List RankedEdge → Type 0
AreInOrder [] = Unit {0}
AreInOrder (x ∷ xs) = All (λ y. IsBefore x.rank y.rank) xs × AreInOrder xs
