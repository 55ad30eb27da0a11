-- What a search that stays above a rank leaves in its trail, and what its nodes say of an edge.
use Rattle.std.proofs.Common.{◌≡◌, ℕ, ◌+◌, ◌-◌, ◌<◌, ◌≤◌, ◌≢◌, ◌⊎◌, inl, inr, true, false, Bool, eqb, List, [], length, map, get_or, refl, sym, ap, ◌∙◌, add-one, subst, arith}
use Rattle.std.specs.Prelude.{◌↔◌, slice_index}
use Rattle.std.specs.List.{All, AllPairs, Contains}
use Rattle.std.specs.List.Sorted.{IsPermutation}
use Rattle.std.proofs.lemmas.Bool.{cases_lt, false≢true}
use Rattle.std.proofs.lemmas.Bool.Decides.{Decides-eqb}
use Rattle.std.proofs.lemmas.Map.Keys.{IsDistinct-IsPermutation, apart_from_distinct}
use Rattle.std.proofs.lemmas.Map.Made.{IsDistinct-from_AllPairs}
use Rattle.std.proofs.lemmas.List.{get_or-map, get_or_default, length-map}
use Rattle.std.proofs.lemmas.List.Sorted.{Contains-permutation, IsPermutation-sym, length_permutation}
use Rattle.graph_base.specs.Edges.{HasEdge, IsInRange}
use Rattle.graph_base.specs.Reach.{IsPathBack, Reaches, itself}
use Rattle.graph_base.specs.Trail.{IsTraced, IsTrail, IsWhole, Trail}
use Rattle.graph_base.proofs.MarkLemmas.{at_place}
use Rattle.graph_base.proofs.PathLemmas.{traced_back}
use Rattle.graph_base.proofs.TrailLemmas.{reached_placed}
use Rattle.graph_base.specs.Blocks.{FitAbove, FitBelow, RearrangesAbove, RearrangesBelow}
use Rattle.graph_base.specs.Listing.{AreAscending}
use Rattle.graph_base.specs.Ranks.{AreRanks}
use Rattle.base_text_outside.specs.Causes.{raised_by, next_count}
use Rattle.crate_graph.specs.Insertion.{AreVisits, CountsVisits, GivesRoom, IsBetween, MakesRoom, most_visits}
use Rattle.crate_graph.specs.Order.{AreKeptRanks, Descends, IsOrder, Ranking, ranking}
use Rattle.crate_graph.specs.Placing.{FitsOrder, Placement, Rearranges, placement_below}
use Rattle.crate_graph.specs.Walking.{AreUnmarked, IsPlaced, bounded}
use Rattle.crate_graph.proofs.BlockLemmas.{AreSplit, above_is_block, below_is_block}
use Rattle.crate_graph.proofs.BoundedLemmas.{length-bounded, reached_above, split_edge, still_reached}
use Rattle.crate_graph.proofs.EachOnceLemmas.{place_in}
use Rattle.crate_graph.proofs.RankingLemmas.{length-ranking, ranking_is_order}
use Rattle.crate_graph.proofs.RoomLemmas.{IsReachedPart, room_made, room_of_none}
use Rattle.graph_base.proofs.ListingLemmas.{few}
use Rattle.base_text_outside.proofs.Counts.{raised_by-most}

eqb_self : (n : ℕ) → eqb n n ≡ true
eqb_self n = (Decides-eqb n n).1 refl

eqb_flips : (m n : ℕ) → eqb m n ≡ eqb n m
eqb_flips m n = elim (eqb m n) as (λ b. eqb m n ≡ b → b ≡ eqb n m) [
  | true ↦ λ is. sym ((Decides-eqb n m).1 (sym ((Decides-eqb m n).0 is)))
  | false ↦ λ is. elim (eqb n m) as (λ b. eqb n m ≡ b → false ≡ b) [
    | true ↦ λ other. absurd (false≢true (sym is ∙ (Decides-eqb m n).1 (sym ((Decides-eqb n m).0 other))))
    | false ↦ λ other. refl
  ] refl
] refl

-- a search for room in an order: the graph's edges lead down, and the edge asked about does not
pub record IsSearch (g : List (List ℕ)) (ranks : List ℕ) (from to : ℕ) : Type 0 where
  pub kept : AreKeptRanks ranks
  pub count : length ranks ≡ length g
  pub in_range : IsInRange g
  pub down : Descends ranks g
  pub from_in : from < length ranks
  pub to_in : to < length ranks
  pub up : get_or ranks from 0 ≤ get_or ranks to 0

module _ (g : List (List ℕ)) (ranks : List ℕ) (from to : ℕ) (s : IsSearch g ranks from to) (t : Trail) (whole : IsWhole (bounded ranks from g) to t) where
  pub order : IsOrder (ranking ranks)
  order = ranking_is_order ranks s.kept.ranked s.kept.short

  pub node_count : length (ranking ranks).nodes ≡ length ranks
  node_count = length-ranking ranks s.kept.ranked

  pub nodes_in : (k : ℕ) → k < length t.nodes → get_or t.nodes k 0 < length ranks
  nodes_in k below = omega (arith, whole.trail.within k below, length-bounded ranks from g, s.count)

  pub marks_count : length t.marks ≡ length ranks
  marks_count = whole.trail.marks_long ∙ length-bounded ranks from g ∙ sym s.count

  found_at : (n : ℕ) → Contains t.nodes n → (k : ℕ) × (k < length t.nodes) × (get_or t.nodes k 0 ≡ n)
  found_at n c = place_in t.nodes n c

  pub found_reached : (n : ℕ) → Contains t.nodes n → Reaches g to n × (get_or ranks from 0 ≤ get_or ranks n 0)
  found_reached n c =
      let k = found_at n c in
      reached_above ranks from g s.up (subst (Reaches (bounded ranks from g) to) k.2 (whole.trail.reached k.0 k.1))

  pub found_in : (n : ℕ) → Contains t.nodes n → n < length ranks
  found_in n c = let k = found_at n c in subst (λ z. z < length ranks) k.2 (nodes_in k.0 k.1)

  pub found_if : (n : ℕ) → Reaches g to n → get_or ranks from 0 ≤ get_or ranks n 0 → Contains t.nodes n
  found_if n r high = reached_placed (bounded ranks from g) to t whole n (still_reached ranks from g s.down r high).0

  pub found_under : (n : ℕ) → Contains t.nodes n → get_or ranks n 0 ≤ get_or ranks to 0
  found_under n c = let is = found_reached n c in (still_reached ranks from g s.down is.0 is.1).1

  -- ---- what is visited

  pub visits : AreVisits g from to (ranking ranks) t.nodes
  visits = record {
    once = whole.trail.once;
    visited = λ n. (
      λ c. ((omega (arith, found_in n c, node_count), (found_reached n c).1, found_under n c), (found_reached n c).0),
      λ is. found_if n is.1 is.0.1,
    );
  }

  above_from : ℕ → ℕ
  above_from n = get_or ranks n 0 - get_or ranks from 0

  pub visits_few : length t.nodes ≤ get_or ranks to 0 + 1 - get_or ranks from 0
  visits_few =
      let f : ℕ → ℕ = λ n. get_or ranks n 0 - get_or ranks from 0 in
      let long : length (map f t.nodes) ≡ length t.nodes = length-map t.nodes f in
      let at : (k d : ℕ) → k < length t.nodes → get_or (map f t.nodes) k d ≡ get_or ranks (get_or t.nodes k 0) 0 - get_or ranks from 0 = λ k d below. get_or-map f t.nodes k 0 d below in
      let low : (k : ℕ) → k < length t.nodes → get_or ranks from 0 ≤ get_or ranks (get_or t.nodes k 0) 0 =
      λ k below. (found_reached (get_or t.nodes k 0) (k, below, get_or_default t.nodes k (get_or t.nodes k 0) 0 below)).1 in
      let high : (k : ℕ) → k < length t.nodes → get_or ranks (get_or t.nodes k 0) 0 ≤ get_or ranks to 0 =
      λ k below. found_under (get_or t.nodes k 0) (k, below, get_or_default t.nodes k (get_or t.nodes k 0) 0 below) in
      let once : AllPairs (λ m n. m ≢ n) (map f t.nodes) = λ i j d before within same.
      let j_in : j < length t.nodes = omega (arith, within, long) in
      let i_in : i < length t.nodes = omega (arith, before, j_in) in
      let rank : get_or ranks (get_or t.nodes i 0) 0 ≡ get_or ranks (get_or t.nodes j 0) 0 =
      omega (arith, same, at i d i_in, at j d j_in, low i i_in, low j j_in) in
      whole.trail.once i j before j_in (s.kept.ranked.once (get_or t.nodes i 0) (get_or t.nodes j 0) (nodes_in i i_in) (nodes_in j j_in) rank) in
      let within : All (λ n. n < get_or ranks to 0 + 1 - get_or ranks from 0) (map f t.nodes) = λ k d below.
      let k_in : k < length t.nodes = omega (arith, below, long) in
      omega (arith, at k d k_in, low k k_in, high k k_in) in
      let most = few (map f t.nodes) (get_or ranks to 0 + 1 - get_or ranks from 0) once within in
      omega (arith, most, long)

  -- ---- a cycle

  pub path_is : (path : List ℕ) (place : ℕ) → place < length t.nodes → get_or t.nodes place 0 ≡ from → IsTraced t path place 0 → IsPathBack g path from to
  path_is path place there at traced =
      let over = traced_back (bounded ranks from g) to t path place from whole.trail (sym at) traced in
      record {
        some = over.some;
        first = over.first;
        last = over.last;
        leads_back = λ k below.
            let step = traced.steps k below in
            let link = whole.trail.earlier step.0 step.1 step.2 in
            elim (split_edge ranks from g (get_or path (k + 1) 0) (get_or path k 0) (over.leads_back k below)) [
              | inl same ↦ absurd (whole.trail.once (get_or t.links step.0 0) step.0 link step.2 (sym step.4 ∙ sym same ∙ step.3))
              | inr on ↦ on.0
            ];
      }

  pub not_reached : ((k : ℕ) → k < length t.nodes → get_or t.nodes k 0 ≡ from → ⊥) → Reaches g to from → ⊥
  not_reached none r =
      let k = found_at from (found_if from r (omega arith)) in
      none k.0 k.1 k.2

  -- ---- room

  module _ (none : (k : ℕ) → k < length t.nodes → get_or t.nodes k 0 ≡ from → ⊥) where
    found_above : (n : ℕ) → Contains t.nodes n → get_or ranks from 0 < get_or ranks n 0
    found_above n c =
        let is = found_reached n c in
        elim (cases_lt (get_or ranks from 0) (get_or ranks n 0)) [
          | inl above ↦ above
          | inr level ↦
              let one : n ≡ from = s.kept.ranked.once n from (found_in n c) s.from_in (omega (arith, is.1, level)) in
              let k = found_at n c in
              absurd (none k.0 k.1 (k.2 ∙ one))
        ]

    part : (nodes : List ℕ) → ((n : ℕ) → Contains nodes n → Contains t.nodes n) → ((n : ℕ) → Contains t.nodes n → Contains nodes n) → IsReachedPart g (ranking ranks) from to nodes
    part nodes back forth = record {
      within = λ n c. omega (arith, found_in n (back n c), node_count);
      above = λ n c. found_above n (back n c);
      reached = λ n c. (found_reached n (back n c)).0;
      all = λ n r high. forth n (found_if n r high);
    }

    unmarked_apart : (n : ℕ) → get_or t.marks n false ≡ false → Contains t.nodes n → ⊥
    unmarked_apart n off c =
        let k = found_at n c in
        false≢true (sym off ∙ subst (λ z. get_or t.marks z false ≡ true) k.2 (whole.trail.marked k.0 k.1))

    off_if : (b : Bool) → (b ≡ true → ⊥) → b ≡ false
    off_if true never = absurd (never refl)
    off_if false never = refl

    split : (others : List ℕ) → AreUnmarked t.marks ranks from to others → AreSplit (ranking ranks) from to t.nodes others
    split others are = record {
      found_in = found_in;
      found_above = found_above;
      found_under = found_under;
      to_found = found_if to itself s.up;
      others_from = λ n is. subst (λ z. get_or ranks from 0 ≤ get_or ranks z 0) is.node_is (are.from_low is.place is.early);
      others_under = λ n is. subst (λ z. get_or ranks z 0 < get_or ranks to 0) is.node_is (are.under is.place is.early);
      apart = λ n is. unmarked_apart n (subst (λ z. get_or t.marks z false ≡ false) is.node_is (are.unmarked is.place is.early));
      all = λ n there from_low under apart.
          let k = are.all n there from_low under (off_if (get_or t.marks n false) (λ on. apart (whole.trail.placed n on))) in
          record { place = k.0; early = k.1; node_is = k.2 };
    }

    pub room_above : (others : List ℕ) → AreUnmarked t.marks ranks from to others → (p : Placement) → p.above ≡ true → p.mark ≡ to → p.nodes ≡ others → GivesRoom g from to (ranking ranks) p
    room_above others are p is_above mark nodes = record {
      fits = record {
        order = order;
        below = λ is. absurd (false≢true (sym is ∙ is_above));
        above = λ _. subst (λ ns. FitAbove p.mark ns ranks) (sym nodes) (subst (λ m. FitAbove m others ranks) (sym mark) (record {
          listed = record { ranked = s.kept.ranked; within = are.there; ascending = are.ascending };
          marked = s.to_in;
          below = are.under;
        }));
      };
      room = λ new r.
          let moves = subst (λ ns. RearrangesAbove to ns ranks new.ranks) nodes
          (subst (λ m. RearrangesAbove m p.nodes ranks new.ranks) mark (r.above is_above)) in
          room_made g (ranking ranks) from to t.nodes order s.in_range (node_count ∙ s.count) s.down (omega (arith, s.from_in, node_count)) (omega (arith, s.to_in, node_count)) s.up
          (part t.nodes (λ n c. c) (λ n c. c)) (not_reached none) new
          (above_is_block (ranking ranks) new from to t.nodes others order r.order (split others are) moves);
    }

    pub room_below : (sorted : List ℕ) → IsPermutation t.nodes sorted → AreAscending ranks sorted → (p : Placement) → p.above ≡ false → p.mark ≡ from → p.nodes ≡ sorted
        → GivesRoom g from to (ranking ranks) p
    room_below sorted same ascending p is_below mark nodes =
        let forth : (n : ℕ) → Contains t.nodes n → Contains sorted n = λ n c. Contains-permutation t.nodes sorted n same c in
        let back : (n : ℕ) → Contains sorted n → Contains t.nodes n = λ n c. Contains-permutation sorted t.nodes n (IsPermutation-sym t.nodes sorted same) c in
        let at : (k : ℕ) → k < length sorted → Contains t.nodes (get_or sorted k 0) = λ k below. back (get_or sorted k 0) (k, below, get_or_default sorted k (get_or sorted k 0) 0 below) in
        record {
          fits = record {
            order = order;
            above = λ is. absurd (false≢true (sym is_below ∙ is));
            below = λ _. subst (λ ns. FitBelow p.mark ns ranks) (sym nodes) (subst (λ m. FitBelow m sorted ranks) (sym mark) (record {
              listed = record {
                ranked = s.kept.ranked;
                within = λ k below. found_in (get_or sorted k 0) (at k below);
                ascending = λ j k before below. strict sorted same ascending j k before below;
              };
              marked = s.from_in;
              above = λ k below. found_above (get_or sorted k 0) (at k below);
            }));
          };
          room = λ new r.
              let moves = subst (λ ns. RearrangesBelow from ns ranks new.ranks) nodes
              (subst (λ m. RearrangesBelow m p.nodes ranks new.ranks) mark (r.below is_below)) in
              room_made g (ranking ranks) from to sorted order s.in_range (node_count ∙ s.count) s.down (omega (arith, s.from_in, node_count)) (omega (arith, s.to_in, node_count)) s.up
              (part sorted back forth) (not_reached none) new (below_is_block from sorted (ranking ranks) new order r.order moves);
        }
      where
        -- what is sorted differs, as what was found does
        strict : (sorted : List ℕ) → IsPermutation t.nodes sorted → AreAscending ranks sorted → (j k : ℕ) → j < k → k < length sorted
            → get_or ranks (get_or sorted j 0) 0 < get_or ranks (get_or sorted k 0) 0
        strict sorted same ascending j k before below =
            let pairs : AllPairs (λ m n. m ≢ n) t.nodes = λ i j d earlier within one.
            whole.trail.once i j earlier within (get_or_default t.nodes i 0 d (omega (arith, earlier, within)) ∙ one ∙ get_or_default t.nodes j d 0 within) in
            let distinct = IsDistinct-IsPermutation eqb eqb_flips t.nodes sorted same (IsDistinct-from_AllPairs Decides-eqb t.nodes pairs) in
            let differ = apart_from_distinct eqb sorted j k 0 distinct before below in
            let in_sorted : (i : ℕ) → i < length sorted → get_or sorted i 0 < length ranks =
            λ i within. found_in (get_or sorted i 0) (Contains-permutation sorted t.nodes (get_or sorted i 0) (IsPermutation-sym t.nodes sorted same) (i, within, get_or_default sorted i (get_or sorted i 0) 0 within)) in
            elim (cases_lt (get_or ranks (get_or sorted j 0) 0) (get_or ranks (get_or sorted k 0) 0)) [
              | inl less ↦ less
              | inr level ↦
                  let one : get_or sorted j 0 ≡ get_or sorted k 0 =
                  s.kept.ranked.once (get_or sorted j 0) (get_or sorted k 0) (in_sorted j (omega (arith, before, below))) (in_sorted k below) (omega (arith, level, ascending j k before below)) in
                  absurd (false≢true (sym differ ∙ ap (λ z. eqb (get_or sorted j 0) z) (sym one) ∙ eqb_self (get_or sorted j 0)))
            ]

    pub room_placed : (p : Placement) → IsPlaced ranks from to t p → GivesRoom g from to (ranking ranks) p
    room_placed p placed = by p.above refl
      where
        by : (b : Bool) → p.above ≡ b → GivesRoom g from to (ranking ranks) p
        by true is = let a = placed.above is in room_above p.nodes a.1 p is a.0 refl
        by false is = let b = placed.below is in room_below p.nodes b.1 b.2 p is b.0 refl

-- ---- counts

pub raised_more : (steps count : ℕ) → next_count (raised_by steps count) ≡ raised_by (steps + 1) count
raised_more steps count = ap (λ n. raised_by n count) (sym (add-one steps))

-- where the edge leads down already nothing is visited
pub none_visited : (g : List (List ℕ)) (order : Ranking) (from to before : ℕ) → get_or order.ranks to 0 < get_or order.ranks from 0 → CountsVisits g from to order before before
none_visited g order from to before lower = record {
  nodes = [];
  visits = record {
    once = λ i j earlier within. absurd (omega (arith, within));
    visited = λ n. (λ c. absurd (omega (arith, c.1)), λ is. absurd (omega (arith, is.0.1, is.0.2, lower)));
  };
  counted = refl;
}

pub steps_most : (g : List (List ℕ)) (ranks : List ℕ) (from to : ℕ) (s : IsSearch g ranks from to) (t : Trail) → IsWhole (bounded ranks from g) to t
    → (before now : ℕ) → now ≡ raised_by (length t.nodes) before → now ≤ before + most_visits (ranking ranks) from to
steps_most g ranks from to s t whole before now is = omega (arith, is, raised_by-most (length t.nodes) before, visits_few g ranks from to s t whole)

-- where the edge leads down already no node has to move
pub room_fits : (g : List (List ℕ)) (order : Ranking) (from to : ℕ) → IsOrder order → AreRanks order.ranks → IsInRange g → length order.nodes ≡ length g → Descends order.ranks g
    → from < length order.nodes → to < length order.nodes → get_or order.ranks to 0 < get_or order.ranks from 0 → (p : Placement) → p ≡ placement_below from [] → GivesRoom g from to order p
room_fits g order from to is are in_range count down from_in to_in lower p p_is = subst (GivesRoom g from to order) (sym p_is) (record {
  fits = record {
    order = is;
    below = λ _. record {
      listed = record { ranked = are; within = λ k below. absurd (omega (arith, below)); ascending = λ j k before below. absurd (omega (arith, below)) };
      marked = omega (arith, from_in, is.long);
      above = λ k below. absurd (omega (arith, below));
    };
    above = λ side. absurd (false≢true side);
  };
  room = λ new r. room_of_none g order new from to is in_range count down from_in to_in lower (below_is_block from [] order new is r.order (r.below refl));
})
