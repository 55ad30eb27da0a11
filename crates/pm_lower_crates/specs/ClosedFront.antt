-- Nodes that no edge leaves, edges between some nodes alone or between renamed nodes, and the edges of a
-- graph.
use Rattle.std.specs.Prelude.{◌≡◌, ℕ, ◌+◌, ◌++◌, Bool, true, false, List, [], ◌∷◌, map, filter, ◌&&◌}
use Rattle.std.specs.List.{All}
use Rattle.graph_base.specs.EdgeList.{Edge}

-- no edge leads from a node that passes to one that does not
abbrev pub IsClosedBy : (ℕ → Bool) → List Edge → Type 0
IsClosedBy passes edges = All (λ (e : Edge). passes e.0 ≡ true → passes e.1 ≡ true) edges

-- the edges of the front lead to nodes of the front, and no wanted edge has a node of the front as its source
pub record IsClosedFront (in_front : ℕ → Bool) (front wanted : List Edge) : Type 0 where
  pub closed : All (λ (e : Edge). in_front e.1 ≡ true) front
  pub behind : All (λ (e : Edge). in_front e.0 ≡ false) wanted

-- the edges both ends of which pass
abbrev pub edges_of_passing : (ℕ → Bool) → List Edge → List Edge
edges_of_passing passes edges = filter (λ (e : Edge). passes e.0 && passes e.1) edges

-- both ends of an edge pass
pub record IsBetweenPassing (passes : ℕ → Bool) (edge : Edge) : Type 0 where
  pub source : passes edge.0 ≡ true
  pub target : passes edge.1 ≡ true

-- no two nodes that pass have one name
pub record IsOneToOne (passes : ℕ → Bool) (name : ℕ → ℕ) : Type 0 where
  pub apart : (a b : ℕ) → passes a ≡ true → passes b ≡ true → name a ≡ name b → a ≡ b

-- an edge between the renamed nodes
abbrev pub renamed_edge : (ℕ → ℕ) → Edge → Edge
renamed_edge name e = (name e.0, name e.1)

-- edges between the renamed nodes
abbrev pub renamed_edges : (ℕ → ℕ) → List Edge → List Edge
renamed_edges name edges = map (renamed_edge name) edges

-- the edges of nodes numbered from n on, by their rows of targets, in the order of the nodes
abbrev pub edges_of_rows : ℕ → List (List ℕ) → List Edge
edges_of_rows n [] = []
edges_of_rows n (r ∷ rs) = map (λ target. (n, target)) r ++ edges_of_rows (n + 1) rs

-- the edges of a graph
abbrev pub edges_of : List (List ℕ) → List Edge
edges_of g = edges_of_rows 0 g
