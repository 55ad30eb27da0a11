-- The nodes of an order as a list, from the lowest rank up.
use Rattle.std.specs.Prelude.{◌≡◌, ℕ, ◌<◌, ◌≤◌, ◌≢◌, List, length, slice_index}

-- a list has numbers below its length, and each at most once
pub record HasEach (nodes : List ℕ) : Type 0 where
  pub within : (k : ℕ) → k < length nodes → slice_index nodes k < length nodes
  pub once : (j k : ℕ) → j < k → k < length nodes → slice_index nodes j ≢ slice_index nodes k

-- each rank is that of its node
pub record IsInverse (nodes ranks : List ℕ) : Type 0 where
  pub long : length ranks ≡ length nodes
  pub within : (r : ℕ) → r < length nodes → slice_index nodes r < length ranks
  pub rank_of_node : (r : ℕ) → r < length nodes → slice_index ranks (slice_index nodes r) ≡ r

-- the ranks of listed nodes do not fall
abbrev pub AreAscending : List ℕ → List ℕ → Type 0
AreAscending ranks nodes = (j k : ℕ) → j < k → k < length nodes
    → slice_index ranks (slice_index nodes j) ≤ slice_index ranks (slice_index nodes k)

-- no rank is lower
pub record IsLowest (ranks : List ℕ) (node : ℕ) : Type 0 where
  pub there : node < length ranks
  pub least : (n : ℕ) → n < length ranks → slice_index ranks node ≤ slice_index ranks n
