-- The order of a graph's ranks, as the graph gets more crates and dependencies.
use Rattle.std.proofs.Common.{◌≡◌, ℕ, zero, suc, ◌+◌, ◌-◌, ◌<◌, ◌≤◌, ◌^◌, inl, inr, List, [], ◌∷◌, ◌++◌, length, get_or, refl, sym, ap, ◌∙◌, subst, arith, length-set}
use Rattle.std.specs.List.{range_with_len}
use Rattle.std.proofs.Math.Seq.{get_or-append_right}
use Rattle.std.proofs.lemmas.Bool.{cases_lt}
use Rattle.std.proofs.lemmas.List.{append-nil, get_or_append_left, length_push}
use Rattle.std.proofs.lemmas.List.FromFn.{get_or-range_with_len}
use Rattle.graph_base.specs.Edges.{HasEdge, IsInRange, row, with_edge, with_node}
use Rattle.graph_base.proofs.KeptLemmas.{edge_within}
use Rattle.graph_base.proofs.MarkLemmas.{pushed_old}
use Rattle.graph_base.proofs.ReachLemmas.{edge_cases, in_range_with_edge, in_range_with_node, node_edges, none_in}
use Rattle.crate_graph.specs.Insertion.{MakesRoom}
use Rattle.crate_graph.specs.Order.{IsOrder, IsOrderOf, Ranking, empty_order, with_next_node, with_next_nodes}
use Rattle.crate_graph.proofs.OrderLemmas.{length-with_next_nodes, next_more, order-with_next_node}

-- ---- one more crate

pub ranked-with_node : (order : Ranking) (g : List (List ℕ)) → IsOrderOf order g → length g + 1 < 2 ^ 32 → IsOrderOf (with_next_node order) (with_node g)
ranked-with_node order g is short = record {
  ranks_each_once = order-with_next_node order is.ranks_each_once (omega (arith, short, is.count));
  count = omega (arith, length_push order.nodes (length order.nodes), length_push g [], is.count);
  in_range = in_range_with_node g is.in_range;
  descends = λ a b e.
      let old = node_edges g a b e in
      let a_in : a < length order.ranks = omega (arith, edge_within g a b old, is.count, is.ranks_each_once.long) in
      let b_in : b < length order.ranks = omega (arith, is.in_range a b old, is.count, is.ranks_each_once.long) in
      omega (arith, is.descends a b old, pushed_old order.ranks (length order.nodes) a a_in, pushed_old order.ranks (length order.nodes) b b_in);
}

-- ---- one more dependency

pub ranked-with_edge : (old new : Ranking) (g : List (List ℕ)) (from to : ℕ) → IsOrderOf old g → from < length g → to < length g → IsOrder new → MakesRoom g from to old new → IsOrderOf new (with_edge g from to)
ranked-with_edge old new g from to is from_in to_in made room = record {
  ranks_each_once = made;
  count = room.count ∙ is.count ∙ sym (length-set g from (row g from ++ to ∷ []));
  in_range = in_range_with_edge g from to from_in to_in is.in_range;
  descends = λ a b e. elim (edge_cases g from to a b from_in e) [
    | inl was ↦ room.descends a b was
    | inr now ↦ omega (arith, room.room, ap (λ z. get_or new.ranks z 0) now.0, ap (λ z. get_or new.ranks z 0) now.1)
  ];
}

-- ---- more crates

order-with_next_nodes : (order : Ranking) (k : ℕ) → IsOrder order → length order.nodes + k < 2 ^ 32 → IsOrder (with_next_nodes k order)
order-with_next_nodes order zero is short =
    let same : order ≡ with_next_nodes 0 order = λ i. record { ranks = sym (append-nil order.ranks) i; nodes = sym (append-nil order.nodes) i } in
    subst IsOrder same is
order-with_next_nodes order (suc k) is short =
    let old = order-with_next_nodes order k is (omega (arith, short)) in
    let next = order-with_next_node (with_next_nodes k order) old (omega (arith, short, length-with_next_nodes order k)) in
    let at : k + 1 ≡ suc k = omega arith in
    subst (λ n. IsOrder (with_next_nodes n order)) at (subst IsOrder (next_more order k) next)

-- the rank of an old crate, and that of a new one
module _ (order : Ranking) (k : ℕ) (is : IsOrder order) where
  rank_then : (n : ℕ) → n < length order.nodes → get_or (with_next_nodes k order).ranks n 0 ≡ get_or order.ranks n 0
  rank_then n below = get_or_append_left order.ranks (range_with_len (length order.nodes) k) 0 n (omega (arith, below, is.long))

  rank_more : (n : ℕ) → length order.nodes ≤ n → n < length order.nodes + k → get_or (with_next_nodes k order).ranks n 0 ≡ n
  rank_more n from below =
      let back : length order.nodes + (n - length order.ranks) ≡ n = omega (arith, from, is.long) in
      get_or-append_right order.ranks (range_with_len (length order.nodes) k) n 0 (omega (arith, from, is.long))
      ∙ get_or-range_with_len (length order.nodes) k (n - length order.ranks) 0 (omega (arith, from, below, is.long)) ∙ back

-- what is appended depends on crates of lower numbers
pub ranked-with_more : (order : Ranking) (g h : List (List ℕ)) (k : ℕ) → IsOrderOf order g → length h ≡ length g + k → length h < 2 ^ 32 → IsInRange h
    → ((a b : ℕ) → a < length g → HasEdge h a b → HasEdge g a b) → ((a b : ℕ) → length g ≤ a → HasEdge h a b → b < a) → IsOrderOf (with_next_nodes k order) h
ranked-with_more order g h k is long short in_range olds news = record {
  ranks_each_once = order-with_next_nodes order k is.ranks_each_once (omega (arith, short, long, is.count));
  count = omega (arith, length-with_next_nodes order k, is.count, long);
  in_range = in_range;
  descends = λ a b e.
      let within : a < length order.nodes + k = omega (arith, edge_within h a b e, long, is.count) in
      elim (cases_lt a (length order.nodes)) [
        | inl old ↦
            let was = olds a b (omega (arith, old, is.count)) e in
            let b_old : b < length order.nodes = omega (arith, is.in_range a b was, is.count) in
            omega (arith, is.descends a b was, rank_then order k is.ranks_each_once a old, rank_then order k is.ranks_each_once b b_old)
        | inr new ↦
            let lower = news a b (omega (arith, new, is.count)) e in
            let rank = rank_more order k is.ranks_each_once a new within in
            elim (cases_lt b (length order.nodes)) [
              | inl b_old ↦ omega (arith, rank, rank_then order k is.ranks_each_once b b_old, is.ranks_each_once.ranks_within b b_old, new)
              | inr b_new ↦ omega (arith, rank, rank_more order k is.ranks_each_once b b_new (omega (arith, lower, within)), lower)
            ]
      ];
}

pub ranked-none : IsOrderOf empty_order []
ranked-none = record {
  ranks_each_once = record {
    short = omega arith;
    long = refl;
    ranks_within = λ n below. absurd (omega (arith, below));
    nodes_within = λ r below. absurd (omega (arith, below));
    node_of_rank = λ n below. absurd (omega (arith, below));
    rank_of_node = λ r below. absurd (omega (arith, below));
  };
  count = refl;
  in_range = λ a b e. absurd (none_in b e);
  descends = λ a b e. absurd (none_in b e);
}
