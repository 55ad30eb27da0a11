-- What a node reaches down to another goes below that one: then an edge from it to the first leads down.
use Rattle.std.proofs.Common.{◌≡◌, ℕ, ◌<◌, ◌≤◌, ◌⊎◌, inl, inr, List, [], length, get_or, ap, subst, arith}
use Rattle.std.specs.List.{Contains}
use Rattle.std.proofs.lemmas.Bool.{cases_lt, cases_order}
use Rattle.std.proofs.lemmas.List.{get_or_default}
use Rattle.graph_base.specs.Edges.{IsInRange}
use Rattle.graph_base.specs.Reach.{Reaches, itself}
use Rattle.graph_base.proofs.KeptLemmas.{edge_within}
use Rattle.graph_base.proofs.ReachLemmas.{reaches_edge}
use Rattle.crate_graph.specs.Insertion.{MakesRoom}
use Rattle.crate_graph.specs.Order.{Descends, IsOrder, Ranking}
use Rattle.crate_graph.specs.Blocks.{Block, FitsBlock, IsMoved, IsOther, MovesBlock, block_of, no_block}
use Rattle.crate_graph.proofs.EachOnceLemmas.{place_in}
use Rattle.crate_graph.proofs.OrderRankLemmas.{reaches_falls, same_node, same_rank}
use Rattle.graph_base.proofs.ListingLemmas.{has_or_not}

-- ---- orders after a placement

-- a node that moves is there, and above the one that it goes below
moved_in : (p : Block) (old : Ranking) (n : ℕ) → FitsBlock p old → IsMoved p n → (n < length old.nodes) × (get_or old.ranks p.below 0 < get_or old.ranks n 0)
moved_in p old n fits moved =
    let k = place_in p.nodes n moved in
    (subst (λ z. z < length old.nodes) k.2 (fits.within k.0 0 k.1), subst (λ z. get_or old.ranks p.below 0 < get_or old.ranks z 0) k.2 (fits.above k.0 0 k.1))

moved_or_other : (p : Block) (old : Ranking) (n : ℕ) → n < length old.nodes → IsMoved p n ⊎ IsOther p old n
moved_or_other p old n there = elim (has_or_not p.nodes n) [
  | inl moved ↦ inl moved
  | inr stays ↦ inr (there, stays)
]

module _ (p : Block) (old new : Ranking) (is : IsOrder old) (fits : FitsBlock p old) (r : MovesBlock p old new) where
  -- of two others, the one that is below the other then was so before
  others_back : (m n : ℕ) → IsOther p old m → IsOther p old n → get_or new.ranks m 0 < get_or new.ranks n 0 → get_or old.ranks m 0 < get_or old.ranks n 0
  others_back m n m_is n_is less = elim (cases_order (get_or old.ranks m 0) (get_or old.ranks n 0)) [
    | inl same ↦ absurd (omega (arith, less, ap (λ z. get_or new.ranks z 0) (same_node old m n is m_is.0 n_is.0 same)))
    | inr apart ↦ elim apart [
      | inl before ↦ before
      | inr behind ↦ absurd (omega (arith, less, r.others n m n_is m_is behind))
    ]
  ]

  -- nodes below the one that is named keep their ranks
  pub rank_below : (n : ℕ) → n < length old.nodes → get_or old.ranks n 0 < get_or old.ranks p.below 0 → get_or new.ranks n 0 ≡ get_or old.ranks n 0
  rank_below n there under =
      let other : IsOther p old n = (there, λ moved. omega (arith, under, (moved_in p old n fits moved).1)) in
      same_rank old new is r.order r.count n there
      (λ m m_in less.
      let m_other : IsOther p old m = (m_in, λ moved. omega (arith, under, less, (moved_in p old m fits moved).1)) in
      r.others m n m_other other less)
      (λ m m_in less. elim (moved_or_other p old m m_in) [
        | inl moved ↦ absurd (omega (arith, less, r.down n m other moved under))
        | inr m_other ↦ others_back m n m_other other less
      ])

  -- nodes above all that move keep their ranks
  pub rank_above : (n : ℕ) → n < length old.nodes → get_or old.ranks p.below 0 ≤ get_or old.ranks n 0
      → ((m : ℕ) → IsMoved p m → get_or old.ranks m 0 < get_or old.ranks n 0) → get_or new.ranks n 0 ≡ get_or old.ranks n 0
  rank_above n there from over =
      let other : IsOther p old n = (there, λ moved. omega (arith, over n moved)) in
      same_rank old new is r.order r.count n there
      (λ m m_in less. elim (moved_or_other p old m m_in) [
        | inl moved ↦ r.up m n moved other from
        | inr m_other ↦ r.others m n m_other other less
      ])
      (λ m m_in less. elim (moved_or_other p old m m_in) [
        | inl moved ↦ over m moved
        | inr m_other ↦ others_back m n m_other other less
      ])

-- ---- where no node moves

none_moved : (below n : ℕ) → IsMoved (no_block below) n → ⊥
none_moved below n c = omega (arith, c.1)

pub none_fits : (order : Ranking) (below : ℕ) → IsOrder order → below < length order.nodes → FitsBlock (no_block below) order
none_fits order below is there = record {
  order = is;
  mark = there;
  within = λ k d inside. absurd (omega (arith, inside));
  above = λ k d inside. absurd (omega (arith, inside));
}

pub room_of_none : (g : List (List ℕ)) (order new : Ranking) (from to : ℕ) → IsOrder order → IsInRange g → length order.nodes ≡ length g → Descends order.ranks g
    → from < length order.nodes → to < length order.nodes → get_or order.ranks to 0 < get_or order.ranks from 0 → MovesBlock (no_block from) order new → MakesRoom g from to order new
room_of_none g order new from to is in_range count down from_in to_in lower r =
    let other : (n : ℕ) → n < length order.nodes → IsOther (no_block from) order n = λ n there. (there, none_moved from n) in
    let keeps : (m n : ℕ) → m < length order.nodes → n < length order.nodes → get_or order.ranks m 0 < get_or order.ranks n 0 → get_or new.ranks m 0 < get_or new.ranks n 0 =
    λ m n m_in n_in less. r.others m n (other m m_in) (other n n_in) less in
    let fits = none_fits order from is from_in in
    record {
      count = r.count;
      room = keeps to from to_in from_in lower;
      descends = λ a b e. keeps b a (omega (arith, count, in_range a b e)) (omega (arith, count, edge_within g a b e)) (down a b e);
      below = λ n there under. rank_below (no_block from) order new is fits r n there under;
      above = λ n there over. elim (cases_lt (get_or order.ranks n 0) (get_or order.ranks from 0)) [
        | inl under ↦ rank_below (no_block from) order new is fits r n there under
        | inr up ↦ rank_above (no_block from) order new is fits r n there up (λ m moved. absurd (none_moved from m moved))
      ];
      first = λ m n between_m between_n reached apart. absurd (omega (arith, between_m.1, between_m.2, lower));
      reached_order = λ m n between_m between_n reached_m reached_n before. absurd (omega (arith, between_m.1, between_m.2, lower));
      other_order = λ m n between_m between_n apart_m apart_n before. absurd (omega (arith, between_m.1, between_m.2, lower));
    }

pub apart_already : (g : List (List ℕ)) (order : Ranking) (from to : ℕ) → Descends order.ranks g → get_or order.ranks to 0 < get_or order.ranks from 0 → Reaches g to from → ⊥
apart_already g order from to down lower reaches = omega (arith, lower, reaches_falls order.ranks g to from down reaches)

-- ---- where what is reached moves

-- a list of what a node reaches from the rank of another on
pub record IsReachedPart (g : List (List ℕ)) (order : Ranking) (from to : ℕ) (nodes : List ℕ) : Type 0 where
  pub within : (n : ℕ) → Contains nodes n → n < length order.nodes
  pub above : (n : ℕ) → Contains nodes n → get_or order.ranks from 0 < get_or order.ranks n 0
  pub reached : (n : ℕ) → Contains nodes n → Reaches g to n
  pub all : (n : ℕ) → Reaches g to n → get_or order.ranks from 0 ≤ get_or order.ranks n 0 → Contains nodes n

module _ (g : List (List ℕ)) (old : Ranking) (from to : ℕ) (nodes : List ℕ)
    (is : IsOrder old) (in_range : IsInRange g) (count : length old.nodes ≡ length g) (down : Descends old.ranks g)
    (from_in : from < length old.nodes) (to_in : to < length old.nodes) (up : get_or old.ranks from 0 ≤ get_or old.ranks to 0)
    (part : IsReachedPart g old from to nodes) (apart : Reaches g to from → ⊥) where
  part_fits : FitsBlock (block_of from nodes) old
  part_fits = record {
    order = is;
    mark = from_in;
    within = λ k d inside. part.within (get_or nodes k d) (k, inside, get_or_default nodes k (get_or nodes k d) d inside);
    above = λ k d inside. part.above (get_or nodes k d) (k, inside, get_or_default nodes k (get_or nodes k d) d inside);
  }

  -- what is reached does not lie above `to`
  pub under_to : (n : ℕ) → Contains nodes n → get_or old.ranks n 0 ≤ get_or old.ranks to 0
  under_to n c = reaches_falls old.ranks g to n down (part.reached n c)

  module _ (new : Ranking) (r : MovesBlock (block_of from nodes) old new) where
    other : (n : ℕ) → n < length old.nodes → (Reaches g to n → ⊥) → IsOther (block_of from nodes) old n
    other n there apart_n = (there, λ moved. apart_n (part.reached n moved))

    edges_fall : Descends new.ranks g
    edges_fall a b e =
        let a_in : a < length old.nodes = omega (arith, count, edge_within g a b e) in
        let b_in : b < length old.nodes = omega (arith, count, in_range a b e) in
        let lower = down a b e in
        elim (moved_or_other (block_of from nodes) old a a_in) [
          | inl a_moved ↦
              let b_reached : Reaches g to b = reaches_edge g to a b (part.reached a a_moved) e in
              elim (cases_lt (get_or old.ranks b 0) (get_or old.ranks from 0)) [
                | inl under ↦ r.down b a (b_in, λ moved. omega (arith, under, part.above b moved)) a_moved under
                | inr over ↦ r.moved b a (part.all b b_reached over) a_moved lower
              ]
          | inr a_other ↦ elim (moved_or_other (block_of from nodes) old b b_in) [
            | inl b_moved ↦
                let over : get_or old.ranks from 0 ≤ get_or old.ranks a 0 = omega (arith, lower, part.above b b_moved) in
                r.up b a b_moved a_other over
            | inr b_other ↦ r.others b a b_other a_other lower
          ]
        ]

    from_level : get_or old.ranks from 0 ≤ get_or old.ranks from 0
    from_level = omega arith

    pub room_made : MakesRoom g from to old new
    room_made = record {
      count = r.count;
      room = r.up to from (part.all to itself up) (other from from_in apart) from_level;
      descends = edges_fall;
      below = λ n there under. rank_below (block_of from nodes) old new is part_fits r n there under;
      above = λ n there over.
          let from_under : get_or old.ranks from 0 ≤ get_or old.ranks n 0 = omega (arith, up, over) in
          rank_above (block_of from nodes) old new is part_fits r n there from_under (λ m moved. omega (arith, over, under_to m moved));
      first = λ m n between_m between_n reached apart_n. r.up m n (part.all m reached between_m.1) (other n between_n.0 apart_n) between_n.1;
      reached_order = λ m n between_m between_n reached_m reached_n before. r.moved m n (part.all m reached_m between_m.1) (part.all n reached_n between_n.1) before;
      other_order = λ m n between_m between_n apart_m apart_n before. r.others m n (other m between_m.0 apart_m) (other n between_n.0 apart_n) before;
    }
