-- An order of the nodes of a graph: each node has a rank, and each edge leads from a higher rank to a lower
-- one.
use Rattle.std.specs.Prelude.{◌≡◌, ℕ, zero, suc, ◌<◌, ◌^◌, ◌==◌, List, [], ◌∷◌, ◌++◌, Option, Some, None, length, map, slice_index, if◌then◌else◌}
use Rattle.std.specs.List.{range_with_len}
use Rattle.graph_base.specs.Edges.{HasEdge, IsInRange}
use Rattle.graph_base.specs.Ranks.{AreRanks}

-- the rank of each node, and the node of each rank
pub record Ranking : Type 0 where
  pub ranks : List ℕ
  pub nodes : List ℕ

-- no nodes
abbrev pub empty_order : Ranking
empty_order = record { ranks = []; nodes = [] }

-- the next node has the highest rank
abbrev pub with_next_node : Ranking → Ranking
with_next_node order = record {
  ranks = order.ranks ++ length order.nodes ∷ [];
  nodes = order.nodes ++ length order.nodes ∷ [];
}

-- the next nodes have the highest ranks, in the order of their numbers
abbrev pub with_next_nodes : ℕ → Ranking → Ranking
with_next_nodes count order = record {
  ranks = order.ranks ++ range_with_len (length order.nodes) count;
  nodes = order.nodes ++ range_with_len (length order.nodes) count;
}

-- the ranks are the numbers below the count of nodes, each once
pub record IsOrder (order : Ranking) : Type 0 where
  pub short : length order.nodes < 2 ^ 32
  pub long : length order.ranks ≡ length order.nodes
  pub ranks_within : (n : ℕ) → n < length order.nodes → slice_index order.ranks n < length order.nodes
  pub nodes_within : (r : ℕ) → r < length order.nodes → slice_index order.nodes r < length order.nodes
  pub node_of_rank : (n : ℕ) → n < length order.nodes
      → slice_index order.nodes (slice_index order.ranks n) ≡ n
  pub rank_of_node : (r : ℕ) → r < length order.nodes
      → slice_index order.ranks (slice_index order.nodes r) ≡ r

-- each edge leads from a higher rank to a lower one
abbrev pub Descends : List ℕ → List (List ℕ) → Type 0
Descends ranks g = (a b : ℕ) → HasEdge g a b → slice_index ranks b < slice_index ranks a

-- an order of the nodes of a graph, in which each edge leads down
pub record IsOrderOf (order : Ranking) (g : List (List ℕ)) : Type 0 where
  pub ranks_each_once : IsOrder order
  pub count : length order.nodes ≡ length g
  pub in_range : IsInRange g
  pub descends : Descends order.ranks g

-- the place of a number in a list
abbrev pub place_of_number : List ℕ → ℕ → ℕ
place_of_number [] n = 0
place_of_number (x ∷ xs) n = if x == n then 0 else suc (place_of_number xs n)

-- the order in which the nodes have some ranks
abbrev pub ranking : List ℕ → Ranking
ranking ranks = record {
  ranks = ranks;
  nodes = map (place_of_number ranks) (range_with_len 0 (length ranks));
}

-- the ranks that a table keeps: none where there is no table
abbrev pub ranks_in : Option (List ℕ) → List ℕ
ranks_in None = []
ranks_in (Some ranks) = ranks

-- ranks of fewer nodes than 2^32
pub record AreKeptRanks (ranks : List ℕ) : Type 0 where
  pub ranked : AreRanks ranks
  pub short : length ranks < 2 ^ 32
