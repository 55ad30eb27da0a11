-- Nodes go directly below another, or directly above it: they and the others keep their order, each among
-- themselves.
use Rattle.std.specs.Prelude.{◌≡◌, ℕ, ◌<◌, ◌≤◌, List, length, slice_index}
use Rattle.graph_base.specs.Ranks.{AreRanks}

-- the nodes are there, in the order of their ranks
pub record AreInRankOrder (nodes ranks : List ℕ) : Type 0 where
  pub ranked : AreRanks ranks
  pub within : (k : ℕ) → k < length nodes → slice_index nodes k < length ranks
  pub ascending : (j k : ℕ) → j < k → k < length nodes
      → slice_index ranks (slice_index nodes j) < slice_index ranks (slice_index nodes k)

-- and lie above a node
pub record FitBelow (mark : ℕ) (nodes ranks : List ℕ) : Type 0 where
  pub listed : AreInRankOrder nodes ranks
  pub marked : mark < length ranks
  pub above : (k : ℕ) → k < length nodes → slice_index ranks mark < slice_index ranks (slice_index nodes k)

-- or below it
pub record FitAbove (mark : ℕ) (nodes ranks : List ℕ) : Type 0 where
  pub listed : AreInRankOrder nodes ranks
  pub marked : mark < length ranks
  pub below : (k : ℕ) → k < length nodes → slice_index ranks (slice_index nodes k) < slice_index ranks mark

-- one of the first so many nodes of a list
pub record IsAmong (nodes : List ℕ) (count n : ℕ) : Type 0 where
  pub place : ℕ
  pub early : place < count
  pub node_is : slice_index nodes place ≡ n

-- one of the other nodes
abbrev pub IsOther : List ℕ → ℕ → List ℕ → ℕ → Type 0
IsOther nodes count old n = (n < length old) × (IsAmong nodes count n → ⊥)

-- the first so many nodes, and all others, keep their order each among themselves
pub record KeepEach (nodes : List ℕ) (count : ℕ) (old new : List ℕ) : Type 0 where
  pub long : length new ≡ length old
  pub moved : (m n : ℕ) → IsAmong nodes count m → IsAmong nodes count n
      → slice_index old m < slice_index old n → slice_index new m < slice_index new n
  pub others : (m n : ℕ) → IsOther nodes count old m → IsOther nodes count old n
      → slice_index old m < slice_index old n → slice_index new m < slice_index new n

-- the first so many nodes stand directly below a mark
pub record StandBelow (mark : ℕ) (nodes : List ℕ) (count : ℕ) (old new : List ℕ) : Type 0 where
  pub each : KeepEach nodes count old new
  pub up : (m n : ℕ) → IsAmong nodes count m → IsOther nodes count old n
      → slice_index old mark ≤ slice_index old n → slice_index new m < slice_index new n
  pub down : (m n : ℕ) → IsOther nodes count old m → IsAmong nodes count n
      → slice_index old m < slice_index old mark → slice_index new m < slice_index new n

-- all nodes of a list stand directly below a mark
abbrev pub RearrangesBelow : ℕ → List ℕ → List ℕ → List ℕ → Type 0
RearrangesBelow mark nodes old new = StandBelow mark nodes (length nodes) old new

-- the first so many nodes stand directly above a mark
pub record StandAbove (mark : ℕ) (nodes : List ℕ) (count : ℕ) (old new : List ℕ) : Type 0 where
  pub each : KeepEach nodes count old new
  pub up : (m n : ℕ) → IsAmong nodes count m → IsOther nodes count old n
      → slice_index old mark < slice_index old n → slice_index new m < slice_index new n
  pub down : (m n : ℕ) → IsOther nodes count old m → IsAmong nodes count n
      → slice_index old m ≤ slice_index old mark → slice_index new m < slice_index new n

-- all nodes of a list stand directly above a mark
abbrev pub RearrangesAbove : ℕ → List ℕ → List ℕ → List ℕ → Type 0
RearrangesAbove mark nodes old new = StandAbove mark nodes (length nodes) old new
