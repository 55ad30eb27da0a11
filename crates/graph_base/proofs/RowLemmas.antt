-- Graphs whose rows the code keeps as lists of targets.
use Rattle.std.proofs.Common.{◌≡◌, ℕ, ◌<◌, ◌^◌, List, [], ◌∷◌, ◌++◌, length, length-set, get_or, set, sym, ap, ◌∙◌, arith, Vec, Global}
use Rattle.std.specs.Prelude.{replicate}
use Rattle.std.proofs.Math.Seq.{map-set_same}
use Rattle.std.proofs.lemmas.List.{get_or-map, length-map, length-replicate, map-set}
use Rattle.graph_base.specs.Edges.{row, with_edge}
use Rattle.graph_base.proofs.ReachLemmas.{in_range_with_edge}
use Rattle.graph_base.specs.Reversed.{IsGraph, target_rows}
use Rattle.graph_base.proofs.BackLemmas.{no_edge}

-- the row of a node is the list that the code keeps for it
row_is : (rows : List (Vec ℕ Global)) (node : ℕ) (targets : Vec ℕ Global) → node < length rows → targets ≡ get_or rows node targets
    → row (target_rows rows) node ≡ targets.items
row_is rows node targets within is =
    get_or-map (λ r. r.items) rows node targets [] within ∙ ap (λ r. r.items) (sym is)

pub rows-long : (rows : List (Vec ℕ Global)) → length (target_rows rows) ≡ length rows
rows-long rows = length-map rows (λ r. r.items)

-- a target that is added to a row is an edge more
pub rows_with_edge : (rows : List (Vec ℕ Global)) (from to : ℕ) (old new : Vec ℕ Global) → from < length rows
    → old ≡ get_or rows from old → new.items ≡ old.items ++ to ∷ []
    → target_rows (set rows from new) ≡ with_edge (target_rows rows) from to
rows_with_edge rows from to old new within is items =
    map-set (λ r. r.items) rows from new
    ∙ ap (set (target_rows rows) from) (items ∙ ap (λ targets. targets ++ to ∷ []) (sym (row_is rows from old within is)))

-- a row that is written back as it was changes nothing
pub rows_same : (rows : List (Vec ℕ Global)) (from : ℕ) (old new : Vec ℕ Global)
    → old ≡ get_or rows from old → new.items ≡ old.items → target_rows (set rows from new) ≡ target_rows rows
rows_same rows from old new is items =
    map-set_same (λ (r : Vec ℕ Global). r.items) rows from new old (items ∙ ap (λ (r : Vec ℕ Global). r.items) is)

-- a graph with an edge more is a graph
pub graph_with_edge : (g : List (List ℕ)) (from to : ℕ) → IsGraph g → from < length g → to < length g → IsGraph (with_edge g from to)
graph_with_edge g from to graph from_within to_within = record {
  short = omega (arith, graph.short, length-set g from (row g from ++ to ∷ []));
  in_range = in_range_with_edge g from to from_within to_within graph.in_range;
}

-- nodes without edges are a graph
pub graph_of_nodes : (count : ℕ) → count < 2 ^ 32 → IsGraph (replicate count [])
graph_of_nodes count few = record {
  short = omega (arith, few, length-replicate {A = List ℕ} count []);
  in_range = λ a b e. absurd (no_edge count a b e);
}
