-- Lists of numbers that differ, and the ranks of nodes that stand each once.
use Rattle.std.proofs.Common.{◌≡◌, ℕ, ◌<◌, ◌≤◌, ◌≢◌, ◌^◌, eqb, List, [], ◌∷◌, length, get_or, refl, sym, ap, ◌∙◌, arith}
use Rattle.std.specs.Prelude.{slice_index}
use Rattle.std.specs.List.{All, AllPairs, Contains}
use Rattle.std.proofs.lemmas.Bool.Decides.{Decides-eqb}
use Rattle.std.proofs.lemmas.List.{get_or_default}
use Rattle.std.proofs.lemmas.Map.Made.{is_member-Decides}
use Rattle.std.proofs.lemmas.Map.Steps.{le-length_from_below}
use Rattle.crate_graph.specs.Order.{IsOrder, Ranking}
use Rattle.crate_graph.specs.Suborder.{HasEachOnce, IsInverse}
use Rattle.graph_base.proofs.ListingLemmas.{few}

-- numbers that differ and are those below a count are as many
pub as_many : (xs : List ℕ) (count : ℕ) → AllPairs (λ m n. m ≢ n) xs → All (λ n. n < count) xs → ((n : ℕ) → n < count → Contains xs n) → length xs ≡ count
as_many xs count once within all =
    let at_most : length xs ≤ count = few xs count once within in
    let many : count ≤ length xs = le-length_from_below xs count (λ q below. (is_member-Decides Decides-eqb xs q).1 (all q below)) in
    omega (arith, at_most, many)

-- a list without items is empty
pub nil_from_length : (xs : List ℕ) → length xs ≡ 0 → xs ≡ []
nil_from_length [] none = refl
nil_from_length (x ∷ xs) none = absurd (omega (arith, none))

-- an item of a list, by its place
pub contains_at : (xs : List ℕ) (k : ℕ) → k < length xs → Contains xs (get_or xs k 0)
contains_at xs k within = (k, within, get_or_default xs k (get_or xs k 0) 0 within)

-- the place of an item
pub place_in : (xs : List ℕ) (n : ℕ) → Contains xs n → (k : ℕ) × (k < length xs) × (get_or xs k 0 ≡ n)
place_in xs n c = (c.0, c.1, sym (get_or_default xs c.0 n 0 c.1) ∙ c.2)

pub order_of_inverse : (nodes ranks : List ℕ) → length nodes < 2 ^ 32 → HasEachOnce nodes → IsInverse nodes ranks → IsOrder (record { ranks = ranks; nodes = nodes })
order_of_inverse nodes ranks short each inverse =
    let place : (n : ℕ) → n < length nodes → (r : ℕ) × (r < length nodes) × (slice_index nodes r ≡ n) × (slice_index ranks n ≡ r) = λ n there.
    let c = each.all n there in
    let at : slice_index nodes c.0 ≡ n = sym (get_or_default nodes c.0 n 0 c.1) ∙ c.2 in
    (c.0, c.1, at, ap (λ z. slice_index ranks z) (sym at) ∙ inverse.rank_of_node c.0 c.1) in
    record {
      short = short;
      long = inverse.long;
      ranks_within = λ n there. let p = place n there in omega (arith, p.1, p.3);
      nodes_within = λ r there. each.within r 0 there;
      node_of_rank = λ n there. let p = place n there in ap (λ z. slice_index nodes z) p.3 ∙ p.2;
      rank_of_node = inverse.rank_of_node;
    }

-- an order has each node once
pub each_of_order : (order : Ranking) → IsOrder order → HasEachOnce order.nodes
each_of_order order is =
    let at : (r d : ℕ) → r < length order.nodes → get_or order.nodes r d ≡ get_or order.nodes r 0 = λ r d below. get_or_default order.nodes r d 0 below in
    record {
      within = λ r d below. omega (arith, at r d below, is.nodes_within r below);
      once = λ i j d before below same.
          let i_in : i < length order.nodes = omega (arith, before, below) in
          let one : get_or order.nodes i 0 ≡ get_or order.nodes j 0 = sym (at i d i_in) ∙ same ∙ at j d below in
          omega (arith, before, is.rank_of_node i i_in, is.rank_of_node j below, ap (λ z. slice_index order.ranks z) one);
      all = λ n there.
          let rank = slice_index order.ranks n in
          let inside : rank < length order.nodes = is.ranks_within n there in
          (rank, inside, at rank n inside ∙ is.node_of_rank n there);
    }
