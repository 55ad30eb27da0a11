-- Graphs whose edges lead back where those of another one lead on.
use Rattle.std.specs.Prelude.{◌≡◌, ◌↔◌, ℕ, ◌<◌, ◌^◌, List, Vec, length, map}
use Rattle.std.specs.declared.alloc.Global.{Global}
use Rattle.graph_base.specs.Edges.{HasEdge, IsInRange}

-- the rows of a graph that the code keeps as lists of targets
abbrev pub target_rows : List (Vec ℕ Global) → List (List ℕ)
target_rows rows = map (λ r. r.items) rows

-- rows are a graph: no more than can be counted, each edge to a node
pub record IsGraph (rows : List (List ℕ)) : Type 0 where
  pub short : length rows < 2 ^ 32
  pub in_range : IsInRange rows

-- two graphs have the same nodes, and an edge leads from b to a in the one exactly where one leads from a to
-- b in the other
pub record IsReversed (back g : List (List ℕ)) : Type 0 where
  pub nodes : length back ≡ length g
  pub edges : (a b : ℕ) → HasEdge back b a ↔ HasEdge g a b
