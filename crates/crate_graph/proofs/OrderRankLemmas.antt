-- Two orders of the same nodes: a node that stands above the same nodes in both has the same rank.
use Rattle.std.proofs.Common.{◌≡◌, ℕ, ◌<◌, ◌≤◌, ◌≢◌, List, length, map, get_or, sym, ap, ◌∙◌, subst, arith}
use Rattle.std.specs.List.{All, AllPairs, range_with_len}
use Rattle.std.proofs.lemmas.List.FromFn.{get_or-map-range_with_len, length-map-range_with_len}
use Rattle.graph_base.specs.Reach.{Reaches, further, itself}
use Rattle.crate_graph.specs.Order.{Descends, IsOrder, Ranking}
use Rattle.graph_base.proofs.ListingLemmas.{few}

-- two nodes of one rank are one
pub same_node : (order : Ranking) (m n : ℕ) → IsOrder order → m < length order.nodes → n < length order.nodes → get_or order.ranks m 0 ≡ get_or order.ranks n 0 → m ≡ n
same_node order m n is m_in n_in same = sym (is.node_of_rank m m_in) ∙ ap (λ r. get_or order.nodes r 0) same ∙ is.node_of_rank n n_in

-- where all that stand below a node in one order do so in another, its rank there is no lower
module _ (a b : Ranking) (is_a : IsOrder a) (is_b : IsOrder b) (count : length b.nodes ≡ length a.nodes) (n : ℕ) (there : n < length a.nodes)
    (lower : (m : ℕ) → m < length a.nodes → get_or a.ranks m 0 < get_or a.ranks n 0 → get_or b.ranks m 0 < get_or b.ranks n 0) where
  abbrev rank : ℕ
  rank = get_or a.ranks n 0

  -- the rank in the other order of the node of a rank
  abbrev then_at : ℕ → ℕ
  then_at r = get_or b.ranks (get_or a.nodes r 0) 0

  abbrev lowers : List ℕ
  lowers = map then_at (range_with_len 0 rank)

  at : (r d : ℕ) → r < get_or a.ranks n 0 → get_or (map then_at (range_with_len 0 (get_or a.ranks n 0))) r d ≡ get_or b.ranks (get_or a.nodes r 0) 0
  at r d below = get_or-map-range_with_len then_at 0 rank r r d below (omega arith)

  long : length (map then_at (range_with_len 0 (get_or a.ranks n 0))) ≡ get_or a.ranks n 0
  long = length-map-range_with_len then_at 0 rank

  inside : (r : ℕ) → r < get_or a.ranks n 0 → r < length a.nodes
  inside r below = omega (arith, below, is_a.ranks_within n there)

  pub rank_le : get_or a.ranks n 0 ≤ get_or b.ranks n 0
  rank_le =
      let once : AllPairs (λ x y. x ≢ y) lowers = λ i j d before within same.
      let j_below : j < get_or a.ranks n 0 = subst (λ z. j < z) long within in
      let i_below : i < get_or a.ranks n 0 = omega (arith, before, j_below) in
      let node_i = is_a.nodes_within i (inside i i_below) in
      let node_j = is_a.nodes_within j (inside j j_below) in
      let one : get_or a.nodes i 0 ≡ get_or a.nodes j 0 =
      same_node b (get_or a.nodes i 0) (get_or a.nodes j 0) is_b (omega (arith, node_i, count)) (omega (arith, node_j, count)) (sym (at i d i_below) ∙ same ∙ at j d j_below) in
      omega (arith, before, is_a.rank_of_node i (inside i i_below), is_a.rank_of_node j (inside j j_below), ap (λ z. get_or a.ranks z 0) one) in
      let within : All (λ x. x < get_or b.ranks n 0) lowers = λ r d below.
      let r_below : r < get_or a.ranks n 0 = subst (λ z. r < z) long below in
      let less = lower (get_or a.nodes r 0) (is_a.nodes_within r (inside r r_below)) (omega (arith, r_below, is_a.rank_of_node r (inside r r_below))) in
      subst (λ z. z < get_or b.ranks n 0) (sym (at r d r_below)) less in
      subst (λ z. z ≤ get_or b.ranks n 0) long (few lowers (get_or b.ranks n 0) once within)

pub same_rank : (a b : Ranking) → IsOrder a → IsOrder b → length b.nodes ≡ length a.nodes → (n : ℕ) → n < length a.nodes
    → ((m : ℕ) → m < length a.nodes → get_or a.ranks m 0 < get_or a.ranks n 0 → get_or b.ranks m 0 < get_or b.ranks n 0)
    → ((m : ℕ) → m < length a.nodes → get_or b.ranks m 0 < get_or b.ranks n 0 → get_or a.ranks m 0 < get_or a.ranks n 0)
    → get_or b.ranks n 0 ≡ get_or a.ranks n 0
same_rank a b is_a is_b count n there forth back =
    let up = rank_le a b is_a is_b count n there forth in
    let down = rank_le b a is_b is_a (sym count) n (omega (arith, there, count)) (λ m m_in. back m (omega (arith, m_in, count))) in
    omega (arith, up, down)

-- ranks fall on the way
pub reaches_falls : (ranks : List ℕ) (g : List (List ℕ)) (a b : ℕ) → Descends ranks g → Reaches g a b → get_or ranks b 0 ≤ get_or ranks a 0
reaches_falls ranks g a _ down itself = omega arith
reaches_falls ranks g a c down (further {b = b} edge rest) = omega (arith, down a b edge, reaches_falls ranks g b c down rest)
