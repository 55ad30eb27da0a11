-- What a node reaches over the edges from a rank up: what it reaches that does not lie below that rank.
use Rattle.std.proofs.Common.{◌≡◌, ℕ, ◌<◌, ◌≤◌, ◌⊎◌, inl, inr, Bool, true, false, List, [], length, map, get_or, sym, ap, ◌∙◌, subst, arith}
use Rattle.std.specs.Prelude.{slice_index, if◌then◌else◌}
use Rattle.std.proofs.lemmas.Bool.{le-ltb, lt-ltb}
use Rattle.std.proofs.lemmas.List.{get_or_default, get_or-map, length-map}
use Rattle.std.proofs.lemmas.List.FromFn.{get_or-map-range_with_len, length-map-range_with_len}
use Rattle.graph_base.specs.Edges.{HasEdge, IsInRange, row}
use Rattle.graph_base.specs.Reach.{Reaches, further, itself}
use Rattle.crate_graph.specs.Walking.{bounded, stays_above}
use Rattle.crate_graph.specs.Order.{Descends}
use Rattle.graph_base.proofs.KeptLemmas.{edge_within as source_in}
use Rattle.graph_base.proofs.NextRankLemmas.{less_or_not}

pub length-bounded : (ranks : List ℕ) (from : ℕ) (rows : List (List ℕ)) → length (bounded ranks from rows) ≡ length rows
length-bounded ranks from rows = length-map-range_with_len (λ node. map (stays_above ranks from node) (row rows node)) 0 (length rows)

pub row-bounded : (ranks : List ℕ) (from : ℕ) (rows : List (List ℕ)) (node : ℕ) → node < length rows → row (bounded ranks from rows) node ≡ map (stays_above ranks from node) (row rows node)
row-bounded ranks from rows node there = get_or-map-range_with_len (λ n. map (stays_above ranks from n) (row rows n)) 0 (length rows) node node [] there (omega arith)

pub stays_below : (ranks : List ℕ) (from node target : ℕ) → slice_index ranks target < slice_index ranks from → stays_above ranks from node target ≡ node
stays_below ranks from node target less = ap (λ t. if t then node else target) (lt-ltb (slice_index ranks target) (slice_index ranks from) less)

pub goes_above : (ranks : List ℕ) (from node target : ℕ) → slice_index ranks from ≤ slice_index ranks target → stays_above ranks from node target ≡ target
goes_above ranks from node target most = ap (λ t. if t then node else target) (le-ltb (slice_index ranks target) (slice_index ranks from) most)

pub target-bounded : (ranks : List ℕ) (from : ℕ) (rows : List (List ℕ)) (node place : ℕ) → node < length rows → place < length (row rows node)
    → slice_index (row (bounded ranks from rows) node) place ≡ stays_above ranks from node (slice_index (row rows node) place)
target-bounded ranks from rows node place there within =
    ap (λ (r : List ℕ). slice_index r place) (row-bounded ranks from rows node there) ∙ get_or-map (stays_above ranks from node) (row rows node) place 0 0 within

pub edge_at : (g : List (List ℕ)) (a k : ℕ) → k < length (row g a) → HasEdge g a (slice_index (row g a) k)
edge_at g a k within = (k, within, get_or_default (row g a) k (slice_index (row g a) k) 0 within)

pub length-row : (ranks : List ℕ) (from : ℕ) (rows : List (List ℕ)) (node : ℕ) → node < length rows → length (row (bounded ranks from rows) node) ≡ length (row rows node)
length-row ranks from rows node there = ap length (row-bounded ranks from rows node there) ∙ length-map (row rows node) (stays_above ranks from node)

-- an edge of the bounded graph leads back, or is one of the graph that leads to the rank or above
pub split_edge : (ranks : List ℕ) (from : ℕ) (rows : List (List ℕ)) (a b : ℕ) → HasEdge (bounded ranks from rows) a b → (b ≡ a) ⊎ (HasEdge rows a b × (slice_index ranks from ≤ slice_index ranks b))
split_edge ranks from rows a b edge =
    let there : a < length rows = omega (arith, source_in (bounded ranks from rows) a b edge, length-bounded ranks from rows) in
    let within : edge.0 < length (row rows a) = omega (arith, edge.1, length-row ranks from rows a there) in
    let target = slice_index (row rows a) edge.0 in
    let is : b ≡ stays_above ranks from a (slice_index (row rows a) edge.0) =
    sym edge.2 ∙ get_or_default (row (bounded ranks from rows) a) edge.0 b 0 edge.1 ∙ target-bounded ranks from rows a edge.0 there within in
    elim (less_or_not (slice_index ranks target) (slice_index ranks from)) [
      | inl less ↦ inl (is ∙ stays_below ranks from a target less)
      | inr most ↦
          let same : b ≡ slice_index (row rows a) edge.0 = is ∙ goes_above ranks from a target most in
          inr (subst (λ z. HasEdge rows a z) (sym same) (edge_at rows a edge.0 within), omega (arith, most, ap (λ z. slice_index ranks z) same))
    ]

-- an edge that leads to the rank or above is there
pub keep_edge : (ranks : List ℕ) (from : ℕ) (rows : List (List ℕ)) (a b : ℕ) → HasEdge rows a b → slice_index ranks from ≤ slice_index ranks b → HasEdge (bounded ranks from rows) a b
keep_edge ranks from rows a b edge most =
    let there = source_in rows a b edge in
    let target : slice_index (row rows a) edge.0 ≡ b = sym (get_or_default (row rows a) edge.0 b 0 edge.1) ∙ edge.2 in
    let within : edge.0 < length (row (bounded ranks from rows) a) = omega (arith, edge.1, length-row ranks from rows a there) in
    let is : slice_index (row (bounded ranks from rows) a) edge.0 ≡ b =
    target-bounded ranks from rows a edge.0 there edge.1 ∙ ap (stays_above ranks from a) target ∙ goes_above ranks from a b most in
    subst (λ z. HasEdge (bounded ranks from rows) a z) is (edge_at (bounded ranks from rows) a edge.0 within)

module _ (ranks : List ℕ) (from : ℕ) (rows : List (List ℕ)) where
  -- what is reached over bounded edges is reached, and does not lie below the rank
  pub reached_above : {a b : ℕ} → slice_index ranks from ≤ slice_index ranks a → Reaches (bounded ranks from rows) a b → Reaches rows a b × (slice_index ranks from ≤ slice_index ranks b)
  reached_above high itself = (itself, high)
  reached_above high (further {a = a} {b = m} {c = b} edge rest) = elim (split_edge ranks from rows a m edge) [
    | inl back ↦
        let next = reached_above (omega (arith, high, ap (λ z. slice_index ranks z) back)) rest in
        (subst (λ z. Reaches rows z b) back next.0, next.1)
    | inr on ↦ let next = reached_above on.1 rest in (further on.0 next.0, next.1)
  ]

  -- where all edges lead down, what is reached and does not lie below the rank is reached over bounded edges
  pub still_reached : {a b : ℕ} → Descends ranks rows → Reaches rows a b → slice_index ranks from ≤ slice_index ranks b
      → Reaches (bounded ranks from rows) a b × (slice_index ranks b ≤ slice_index ranks a)
  still_reached falls itself high = (itself, omega arith)
  still_reached falls (further {a = a} {b = m} edge rest) high =
      let next = still_reached falls rest high in
      (further (keep_edge ranks from rows a m edge (omega (arith, high, next.1))) next.0, omega (arith, next.1, falls a m edge))

pub in_range-bounded : (ranks : List ℕ) (from : ℕ) (rows : List (List ℕ)) → IsInRange rows → IsInRange (bounded ranks from rows)
in_range-bounded ranks from rows in_range a b edge = elim (split_edge ranks from rows a b edge) [
  | inl back ↦ omega (arith, back, source_in (bounded ranks from rows) a b edge)
  | inr on ↦ omega (arith, in_range a b on.0, length-bounded ranks from rows)
]

pub source_there : (ranks : List ℕ) (from : ℕ) (rows : List (List ℕ)) (node : ℕ) → node < length (bounded ranks from rows) → node < length rows
source_there ranks from rows node there = omega (arith, there, length-bounded ranks from rows)

-- what an edge leads to, where it is known what the graph's edge leads to
pub at_target : (ranks : List ℕ) (from : ℕ) (rows : List (List ℕ)) (node place target : ℕ) → node < length (bounded ranks from rows) → place < length (row (bounded ranks from rows) node)
    → target ≡ slice_index (row rows node) place → slice_index (row (bounded ranks from rows) node) place ≡ stays_above ranks from node target
at_target ranks from rows node place target node_in place_in is =
    let there = source_there ranks from rows node node_in in
    target-bounded ranks from rows node place there (omega (arith, place_in, length-row ranks from rows node there)) ∙ ap (stays_above ranks from node) (sym is)

pub not_less : (a b : ℕ) (answer : Bool) → answer ≡ false → (a < b → answer ≡ true) → b ≤ a
not_less a b answer is_false if_less = elim (less_or_not a b) [ inl less ↦ (let both : false ≡ true = sym is_false ∙ if_less less in cc) | inr most ↦ most ]
