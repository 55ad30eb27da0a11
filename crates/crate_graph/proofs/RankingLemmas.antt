-- The ranks of a table, and the node of each rank.
use Rattle.std.proofs.Common.{◌≡◌, ℕ, zero, suc, ◌+◌, ◌<◌, ◌≤◌, ◌^◌, Bool, true, false, cond, eqb, List, [], ◌∷◌, ◌++◌, length, map, get_or, refl, sym, ap, ◌∙◌, subst, arith}
use Rattle.std.specs.Prelude.{slice_index, ◌==◌}
use Rattle.std.specs.List.{range_with_len}
use Rattle.std.proofs.lemmas.Bool.{eqb-true, false≢true}
use Rattle.std.proofs.lemmas.Bool.Decides.{Decides-eqb}
use Rattle.std.proofs.lemmas.Grind.{same_number_lists}
use Rattle.std.proofs.lemmas.List.FromFn.{get_or-map-range_with_len, length-map-range_with_len}
use Rattle.graph_base.specs.Listing.{HasEach, IsInverse}
use Rattle.graph_base.specs.Ranks.{AreRanks}
use Rattle.graph_base.proofs.ListingLemmas.{rank_there}
use Rattle.crate_graph.specs.Order.{AreKeptRanks, IsOrder, Ranking, place_of_number, ranking, with_next_node}
use Rattle.crate_graph.specs.Suborder.{HasEachOnce}
use Rattle.crate_graph.proofs.OrderLemmas.{order-with_next_node}

eqb_is : (x n : ℕ) → (x == n) ≡ true → x ≡ n
eqb_is x n same = eqb-true x n same

-- the place of a number that a list has is that of the number
pub place_at : (xs : List ℕ) (n k : ℕ) → k < length xs → get_or xs k 0 ≡ n → (place_of_number xs n < length xs) × (get_or xs (place_of_number xs n) 0 ≡ n)
place_at [] n k there is = absurd (omega (arith, there))
place_at (x ∷ xs) n zero there is =
    elim (x == n) as (λ b. (x == n) ≡ b → (◌<◌ (cond b 0 (suc (place_of_number xs n))) (length (x ∷ xs))) × (◌≡◌ {A = ℕ} (get_or (x ∷ xs) (cond b 0 (suc (place_of_number xs n))) 0) n)) [
      | true ↦ λ same. (omega arith, eqb_is x n same)
      | false ↦ λ other. absurd (false≢true (sym other ∙ (Decides-eqb x n).1 is))
    ] refl
place_at (x ∷ xs) n (suc k) there is =
    elim (x == n) as (λ b. (x == n) ≡ b → (◌<◌ (cond b 0 (suc (place_of_number xs n))) (length (x ∷ xs))) × (◌≡◌ {A = ℕ} (get_or (x ∷ xs) (cond b 0 (suc (place_of_number xs n))) 0) n)) [
      | true ↦ λ same. (omega arith, eqb_is x n same)
      | false ↦ λ other.
          let rest = place_at xs n k (omega (arith, there)) is in
          (omega (arith, rest.0), rest.1)
    ] refl

module _ (ranks : List ℕ) (are : AreRanks ranks) where
  pub length-ranking : length (ranking ranks).nodes ≡ length ranks
  length-ranking = length-map-range_with_len (place_of_number ranks) 0 (length ranks)

  node_at : (r : ℕ) → r < length ranks → get_or (ranking ranks).nodes r 0 ≡ place_of_number ranks r
  node_at r there = get_or-map-range_with_len (place_of_number ranks) 0 (length ranks) r r 0 there (omega arith)

  place_is : (r : ℕ) → r < length ranks → (place_of_number ranks r < length ranks) × (get_or ranks (place_of_number ranks r) 0 ≡ r)
  place_is r there = let n = rank_there ranks r are there in place_at ranks r n.node n.there n.rank_is

  pub ranking_is_order : length ranks < 2 ^ 32 → IsOrder (ranking ranks)
  ranking_is_order short = record {
    short = omega (arith, short, length-ranking);
    long = sym length-ranking;
    ranks_within = λ n there. omega (arith, are.within n (omega (arith, there, length-ranking)), length-ranking);
    nodes_within = λ r there.
        let r_in : r < length ranks = omega (arith, there, length-ranking) in
        omega (arith, node_at r r_in, (place_is r r_in).0, length-ranking);
    node_of_rank = λ n there.
        let n_in : n < length ranks = omega (arith, there, length-ranking) in
        let r_in : get_or ranks n 0 < length ranks = are.within n n_in in
        let place = place_is (get_or ranks n 0) r_in in
        node_at (get_or ranks n 0) r_in ∙ are.once (place_of_number ranks (get_or ranks n 0)) n place.0 n_in place.1;
    rank_of_node = λ r there.
        let r_in : r < length ranks = omega (arith, there, length-ranking) in
        ap (λ z. get_or ranks z 0) (node_at r r_in) ∙ (place_is r r_in).1;
  }

-- an order is one by its ranks
pub same_ranking : (a b : Ranking) → IsOrder a → IsOrder b → a.ranks ≡ b.ranks → a ≡ b
same_ranking a b is_a is_b same =
    let long : length a.nodes ≡ length b.nodes = sym is_a.long ∙ ap length same ∙ is_b.long in
    let nodes : a.nodes ≡ b.nodes = same_number_lists a.nodes b.nodes long (λ r there.
    let n = get_or a.nodes r 0 in
    let n_in : n < length b.nodes = omega (arith, is_a.nodes_within r there, long) in
    let rank : get_or b.ranks (get_or a.nodes r 0) 0 ≡ r = ap (λ (rs : List ℕ). get_or rs n 0) (sym same) ∙ is_a.rank_of_node r there in
    sym (ap (λ z. get_or b.nodes z 0) (sym rank) ∙ is_b.node_of_rank n n_in)) in
    λ i. record { ranks = same i; nodes = nodes i }

-- the ranking of the next ranks has the next node
pub ranking_next : (ranks : List ℕ) → AreRanks ranks → AreRanks (ranks ++ length ranks ∷ []) → length ranks + 1 < 2 ^ 32 → length (ranks ++ length ranks ∷ []) < 2 ^ 32
    → ranking (ranks ++ length ranks ∷ []) ≡ with_next_node (ranking ranks)
ranking_next ranks are next short short_next =
    let old = ranking_is_order ranks are (omega (arith, short)) in
    let long : length (ranking ranks).nodes ≡ length ranks = length-ranking ranks are in
    same_ranking (ranking (ranks ++ length ranks ∷ [])) (with_next_node (ranking ranks)) (ranking_is_order (ranks ++ length ranks ∷ []) next short_next)
    (order-with_next_node (ranking ranks) old (omega (arith, short, long))) (ap (λ z. ranks ++ z ∷ []) (sym long))

-- nodes that are listed by their ranks are those of the ranking
pub inverse_nodes : (nodes ranks : List ℕ) → AreKeptRanks ranks → IsInverse nodes ranks → nodes ≡ (ranking ranks).nodes
inverse_nodes nodes ranks kept is =
    let order = ranking_is_order ranks kept.ranked kept.short in
    let long : length nodes ≡ length (ranking ranks).nodes = sym is.long ∙ sym (length-ranking ranks kept.ranked) in
    same_number_lists nodes (ranking ranks).nodes long (λ r there.
    let back : get_or (ranking ranks).nodes (get_or ranks (get_or nodes r 0) 0) 0 ≡ get_or (ranking ranks).nodes r 0 = ap (λ z. get_or (ranking ranks).nodes z 0) (is.rank_of_node r there) in
    sym (order.node_of_rank (get_or nodes r 0) (omega (arith, is.within r there, length-ranking ranks kept.ranked))) ∙ back)
