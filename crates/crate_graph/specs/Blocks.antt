-- What is the same of both moves for an edge: some nodes go directly below another.
use Rattle.std.specs.Prelude.{◌≡◌, ℕ, ◌<◌, ◌≤◌, List, [], length, slice_index}
use Rattle.std.specs.List.{All, Contains}
use Rattle.crate_graph.specs.Order.{IsOrder, Ranking}

-- a node, and those that go directly below it
pub record Block : Type 0 where
  pub below : ℕ
  pub nodes : List ℕ

-- the nodes of a list go below a node
abbrev pub block_of : ℕ → List ℕ → Block
block_of below nodes = record { below = below; nodes = nodes }

-- no node goes below a node
abbrev pub no_block : ℕ → Block
no_block below = block_of below []

-- the nodes of an order lie above the one that they are to go below
pub record FitsBlock (p : Block) (old : Ranking) : Type 0 where
  pub order : IsOrder old
  pub mark : p.below < length old.nodes
  pub within : All (λ n. n < length old.nodes) p.nodes
  pub above : All (λ n. slice_index old.ranks p.below < slice_index old.ranks n) p.nodes

-- one of the nodes that move
abbrev pub IsMoved : Block → ℕ → Type 0
IsMoved p n = Contains p.nodes n

-- one of the nodes that do not move
abbrev pub IsOther : Block → Ranking → ℕ → Type 0
IsOther p old n = (n < length old.nodes) × (IsMoved p n → ⊥)

-- the nodes that move stand directly below the one that is named; they keep their order, and the others
-- theirs
pub record MovesBlock (p : Block) (old new : Ranking) : Type 0 where
  pub order : IsOrder new
  pub count : length new.nodes ≡ length old.nodes
  pub moved : (m n : ℕ) → IsMoved p m → IsMoved p n → slice_index old.ranks m < slice_index old.ranks n
      → slice_index new.ranks m < slice_index new.ranks n
  pub others : (m n : ℕ) → IsOther p old m → IsOther p old n
      → slice_index old.ranks m < slice_index old.ranks n
      → slice_index new.ranks m < slice_index new.ranks n
  pub up : (m n : ℕ) → IsMoved p m → IsOther p old n → slice_index old.ranks p.below ≤ slice_index old.ranks n
      → slice_index new.ranks m < slice_index new.ranks n
  pub down : (m n : ℕ) → IsOther p old m → IsMoved p n
      → slice_index old.ranks m < slice_index old.ranks p.below
      → slice_index new.ranks m < slice_index new.ranks n
