-- The order of some of the nodes alone, which are numbered anew in their order: they keep the order of their
-- ranks.
use Rattle.std.specs.Prelude.{◌≡◌, ℕ, ◌<◌, true, List, Option, Some, None, filter, length, map, slice_index, if◌then◌else◌, ◌≢◌}
use Rattle.std.specs.List.{All, AllPairs, Contains}
use Rattle.graph_base.specs.Kept.{IsClosed, is_named, kept_below, kept_rows}
use Rattle.crate_graph.specs.Order.{IsOrderOf, Ranking}

-- the nodes that are kept, under their new numbers, in the order of their ranks
abbrev pub kept_nodes : List ℕ → List ℕ → List ℕ
kept_nodes keep nodes = map (kept_below keep) (filter (is_named keep) nodes)

-- of two nodes that are kept, the one of the lower rank has the lower rank then too
abbrev pub KeepsRanks : List ℕ → Ranking → Ranking → Type 0
KeepsRanks keep old new =
    (m n : ℕ) → is_named keep m ≡ true → is_named keep n ≡ true → m < length old.nodes → n < length old.nodes
    → slice_index old.ranks m < slice_index old.ranks n
    → slice_index new.ranks (kept_below keep m) < slice_index new.ranks (kept_below keep n)

-- it is an order of what is left of each graph of which the old one is an order, where nothing left leads out
-- of it
abbrev pub FitsKept : List ℕ → Ranking → Ranking → Type 0
FitsKept keep old new =
    (g : List (List ℕ)) → IsClosed g keep → IsOrderOf old g → IsOrderOf new (kept_rows keep 0 g)

-- the new number of a node, where it is kept
abbrev pub new_number : List ℕ → ℕ → Option ℕ
new_number keep n = if is_named keep n then Some (kept_below keep n) else None

-- a list has each number below its length, and each once
pub record HasEachOnce (nodes : List ℕ) : Type 0 where
  pub within : All (λ n. n < length nodes) nodes
  pub once : AllPairs (λ m n. m ≢ n) nodes
  pub all : (n : ℕ) → n < length nodes → Contains nodes n

-- each rank is that of its node
pub record IsInverse (nodes ranks : List ℕ) : Type 0 where
  pub long : length ranks ≡ length nodes
  pub rank_of_node : (r : ℕ) → r < length nodes → slice_index ranks (slice_index nodes r) ≡ r
