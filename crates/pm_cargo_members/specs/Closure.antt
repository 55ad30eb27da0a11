-- The nodes to which one comes over one or more edges of a graph: a relation, and the same as a list.
use Rattle.std.specs.Prelude.{ℕ, suc, Bool, List, [], ◌∷◌, ◌++◌, map, filter, length}
use Rattle.std.specs.List.{list_any, range_with_len}
use Rattle.graph_base.specs.EdgeList.{Edge, reach_over}
use Rattle.graph_base.specs.Edges.{HasEdge, row}
use Rattle.graph_base.specs.Reach.{Reaches}

-- an edge leads from a node to one that reaches the other
abbrev pub LeadsTo : List (List ℕ) → ℕ → ℕ → Type 0
LeadsTo g a b = (c : ℕ) × HasEdge g a c × Reaches g c b

-- the edges of the rows from node n on, each with its source
abbrev pub edges_from : ℕ → List (List ℕ) → List Edge
edges_from n [] = []
edges_from n (targets ∷ rows) = map (λ target. (n, target)) targets ++ edges_from (suc n) rows

-- whether an edge leads from a node to one that reaches the other
abbrev pub leads_to : List (List ℕ) → ℕ → ℕ → Bool
leads_to g a b = list_any (λ c. reach_over (edges_from 0 g) c b) (row g a)

-- the nodes to which one comes from a node over one or more edges, ascending
unfoldable pub closure : List (List ℕ) → ℕ → List ℕ
closure g a = filter (leads_to g a) (range_with_len 0 (length g))
