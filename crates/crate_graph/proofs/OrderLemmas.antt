-- Orders that get more nodes.
use Rattle.std.proofs.Common.{◌≡◌, ℕ, zero, suc, ◌+◌, ◌<◌, ◌^◌, inl, inr, List, [], ◌∷◌, ◌++◌, length, get_or, refl, sym, ap, ◌∙◌, arith, append_assoc}
use Rattle.std.specs.List.{range_with_len}
use Rattle.std.proofs.lemmas.Bool.{cases_lt}
use Rattle.std.proofs.lemmas.List.{length-append, length_push}
use Rattle.std.proofs.lemmas.List.FromFn.{length-range_with_len}
use Rattle.graph_base.proofs.MarkLemmas.{pushed_old}
use Rattle.crate_graph.specs.Order.{IsOrder, Ranking, with_next_node, with_next_nodes}

range_more : (a n m : ℕ) → a + n ≡ m → range_with_len a (n + 1) ≡ range_with_len a n ++ m ∷ []
range_more a zero m is = let at : a ≡ m = omega (arith, is) in ap (λ x. x ∷ []) at
range_more a (suc n) m is =
    let size : suc n + 1 ≡ suc (n + 1) = omega arith in
    ap (range_with_len a) size ∙ ap (λ xs. a ∷ xs) (range_more (a + 1) n m (omega (arith, is)))

pub length-with_next_nodes : (order : Ranking) (k : ℕ) → length (with_next_nodes k order).nodes ≡ length order.nodes + k
length-with_next_nodes order k = length-append order.nodes (range_with_len (length order.nodes) k) ∙ ap (λ n. length order.nodes + n) (length-range_with_len (length order.nodes) k)

more : (xs : List ℕ) (a k m : ℕ) → a + k ≡ m → (xs ++ range_with_len a k) ++ m ∷ [] ≡ xs ++ range_with_len a (k + 1)
more xs a k m is = append_assoc xs (range_with_len a k) (m ∷ []) ∙ ap (λ ys. xs ++ ys) (sym (range_more a k m is))

pub next_more : (order : Ranking) (k : ℕ) → with_next_node (with_next_nodes k order) ≡ with_next_nodes (k + 1) order
next_more order k =
    let long = length-with_next_nodes order k in
    let ranks = more order.ranks (length order.nodes) k (length (with_next_nodes k order).nodes) (sym long) in
    let nodes = more order.nodes (length order.nodes) k (length (with_next_nodes k order).nodes) (sym long) in
    λ i. record { ranks = ranks i; nodes = nodes i }

-- ---- one more node (from crate_graph, which cites it from here)

last_of : (xs : List ℕ) (x n : ℕ) → n ≡ length xs → get_or (xs ++ x ∷ []) n 0 ≡ x
last_of [] x zero at = refl
last_of [] x (suc n) at = absurd (omega (arith, at))
last_of (y ∷ ys) x zero at = absurd (omega (arith, at))
last_of (y ∷ ys) x (suc n) at = last_of ys x n (omega (arith, at))

pub order-with_next_node : (order : Ranking) → IsOrder order → length order.nodes + 1 < 2 ^ 32 → IsOrder (with_next_node order)
order-with_next_node order is short =
    let count = length order.nodes in
    let long : length (with_next_node order).nodes ≡ length order.nodes + 1 = length_push order.nodes count in
    let rank_old : (n : ℕ) → n < length order.nodes → get_or (with_next_node order).ranks n 0 ≡ get_or order.ranks n 0 = λ n below. pushed_old order.ranks count n (omega (arith, below, is.long)) in
    let rank_new : (n : ℕ) → n ≡ length order.nodes → get_or (with_next_node order).ranks n 0 ≡ length order.nodes = λ n at. last_of order.ranks count n (omega (arith, at, is.long)) in
    let node_old : (r : ℕ) → r < length order.nodes → get_or (with_next_node order).nodes r 0 ≡ get_or order.nodes r 0 = λ r below. pushed_old order.nodes count r below in
    let node_new : (r : ℕ) → r ≡ length order.nodes → get_or (with_next_node order).nodes r 0 ≡ length order.nodes = λ r at. last_of order.nodes count r at in
    record {
      short = omega (arith, short, long);
      long = omega (arith, length_push order.ranks count, long, is.long);
      ranks_within = λ n below. elim (cases_lt n (length order.nodes)) [
        | inl old ↦ omega (arith, rank_old n old, is.ranks_within n old, long)
        | inr new ↦ omega (arith, rank_new n (omega (arith, new, below, long)), long)
      ];
      nodes_within = λ r below. elim (cases_lt r (length order.nodes)) [
        | inl old ↦ omega (arith, node_old r old, is.nodes_within r old, long)
        | inr new ↦ omega (arith, node_new r (omega (arith, new, below, long)), long)
      ];
      node_of_rank = λ n below. elim (cases_lt n (length order.nodes)) [
        | inl old ↦ ap (λ z. get_or (with_next_node order).nodes z 0) (rank_old n old) ∙ node_old _ (is.ranks_within n old) ∙ is.node_of_rank n old
        | inr new ↦
            let at : n ≡ length order.nodes = omega (arith, new, below, long) in
            ap (λ z. get_or (with_next_node order).nodes z 0) (rank_new n at) ∙ node_new _ refl ∙ sym at
      ];
      rank_of_node = λ r below. elim (cases_lt r (length order.nodes)) [
        | inl old ↦ ap (λ z. get_or (with_next_node order).ranks z 0) (node_old r old) ∙ rank_old _ (is.nodes_within r old) ∙ is.rank_of_node r old
        | inr new ↦
            let at : r ≡ length order.nodes = omega (arith, new, below, long) in
            ap (λ z. get_or (with_next_node order).ranks z 0) (node_new r at) ∙ rank_new _ refl ∙ sym at
      ];
    }
