-- What it takes for one more edge to lead down: the nodes between its two that its target reaches go below
-- the others.
use Rattle.std.specs.Prelude.{◌≡◌, ℕ, ◌+◌, ◌-◌, ◌<◌, ◌≤◌, ◌≢◌, ◌↔◌, List, length, slice_index}
use Rattle.std.specs.List.{Contains}
use Rattle.graph_base.specs.Reach.{Reaches}
use Rattle.base_text_outside.specs.Causes.{raised_by}
use Rattle.crate_graph.specs.Order.{Descends, Ranking}
use Rattle.crate_graph.specs.Placing.{FitsOrder, Placement, Rearranges}

-- the rank of a node lies between those of two others, or is one of them
abbrev pub IsBetween : Ranking → ℕ → ℕ → ℕ → Type 0
IsBetween order low high n =
    (n < length order.nodes) × (slice_index order.ranks low ≤ slice_index order.ranks n)
    × (slice_index order.ranks n ≤ slice_index order.ranks high)

-- an edge from one node to another leads down, as all others do. Only ranks from `from` up to `to` change:
-- there the nodes that `to` reaches go first, in their order, and the others after them in theirs.
pub record MakesRoom (g : List (List ℕ)) (from to : ℕ) (old new : Ranking) : Type 0 where
  pub count : length new.nodes ≡ length old.nodes
  pub room : slice_index new.ranks to < slice_index new.ranks from
  pub descends : Descends new.ranks g
  pub below : (n : ℕ) → n < length old.nodes → slice_index old.ranks n < slice_index old.ranks from
      → slice_index new.ranks n ≡ slice_index old.ranks n
  pub above : (n : ℕ) → n < length old.nodes → slice_index old.ranks to < slice_index old.ranks n
      → slice_index new.ranks n ≡ slice_index old.ranks n
  pub first : (m n : ℕ) → IsBetween old from to m → IsBetween old from to n → Reaches g to m
      → (Reaches g to n → ⊥)
      → slice_index new.ranks m < slice_index new.ranks n
  pub reached_order : (m n : ℕ) → IsBetween old from to m → IsBetween old from to n → Reaches g to m
      → Reaches g to n
      → slice_index old.ranks m < slice_index old.ranks n → slice_index new.ranks m < slice_index new.ranks n
  pub other_order : (m n : ℕ) → IsBetween old from to m → IsBetween old from to n → (Reaches g to m → ⊥)
      → (Reaches g to n → ⊥)
      → slice_index old.ranks m < slice_index old.ranks n → slice_index new.ranks m < slice_index new.ranks n

-- with its nodes placed so, an order is one that has room for an edge
pub record GivesRoom (g : List (List ℕ)) (from to : ℕ) (order : Ranking) (p : Placement) : Type 0 where
  pub fits : FitsOrder p order
  pub room : (new : Ranking) → Rearranges p order new → MakesRoom g from to order new

-- how many nodes a search visits at most: none where the edge leads down already
abbrev pub most_visits : Ranking → ℕ → ℕ → ℕ
most_visits order from to = slice_index order.ranks to + 1 - slice_index order.ranks from

-- each node that a new edge's target reaches between its two is visited once
pub record AreVisits (g : List (List ℕ)) (from to : ℕ) (order : Ranking) (nodes : List ℕ) : Type 0 where
  pub once : (i j : ℕ) → i < j → j < length nodes → slice_index nodes i ≢ slice_index nodes j
  pub visited : (n : ℕ) → Contains nodes n ↔ (IsBetween order from to n × Reaches g to n)

-- exactly the visits of a search are counted: none where the edge leads down already, since no node is
-- between its two
pub record CountsVisits (g : List (List ℕ)) (from to : ℕ) (order : Ranking) (before now : ℕ) : Type 0 where
  pub nodes : List ℕ
  pub visits : AreVisits g from to order nodes
  pub counted : now ≡ raised_by (length nodes) before
