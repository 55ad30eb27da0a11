-- What the nodes of a front reach once edges are kept behind it.
use Rattle.std.proofs.Common.{◌≡◌, ◌↔◌, ℕ, ◌<◌, ◌≤◌, inl, inr, Bool, true, false, ◌&&◌, ◌||◌, ltb, List, [], ◌∷◌, ◌++◌, refl, sym, ap, ◌∙◌}
use Rattle.std.specs.List.{All, Contains}
use Rattle.std.proofs.lemmas.Bool.{and_left, both_ways, le-ltb, lt-ltb, ltb-true, true_from_ne_false}
use Rattle.std.proofs.lemmas.List.Elements.{All-contains, All-head, All-nil, All-tail, All-weaker}
use Rattle.graph_base.specs.EdgeList.{Edge, IsEdgeWithin, graph_of, reach_over}
use Rattle.graph_base.specs.Reach.{Reaches}
use Rattle.graph_base.proofs.EdgeListLemmas.{found_if, reaches_if}
use Rattle.pm_lower_crates.specs.ClosedFront.{IsClosedBy, IsClosedFront}
use Rattle.pm_lower_crates.specs.KeptFrom.{kept_pairs, pairs_kept_from}
use Rattle.pm_lower_crates.proofs.ClosedFrontLemmas.{LeadsIn, StartsOut, Stays, front_apart, in_closed, none_out, or_none, out_closed}
use Rattle.pm_lower_crates.proofs.KeepLemmas.{all_kept}
use Rattle.pm_lower_crates.proofs.RelationLemmas.{kept_or_closes}

module _ (in_front : ℕ → Bool) where
  -- all that is there then keeps the front closed
  pub whole_closed : (front wanted : List Edge) → IsClosedFront in_front front wanted → IsClosedBy in_front (pairs_kept_from front wanted)
  whole_closed front wanted is = all_kept (Stays in_front) front wanted (in_closed in_front front is.closed) (out_closed in_front wanted is.behind)

  -- over edges of others a node of the front reaches itself alone
  reach_none : (es : List Edge) (a b : ℕ) → All (StartsOut in_front) es → in_front a ≡ true → reach_over es a b ≡ reach_over [] a b
  reach_none [] a b out from = refl
  reach_none (e ∷ es) a b out from =
      let rest = All-tail (StartsOut in_front) e es out in
      let never = none_out in_front es a e.0 (out_closed in_front es rest) from (All-head (StartsOut in_front) e es out) in
      or_none (reach_over es a b) (reach_over es a e.0 && reach_over es e.1 b) (and_left (reach_over es a e.0) (reach_over es e.1 b) never) ∙ reach_none es a b rest from

  reach_within : (front es : List Edge) (a b : ℕ) → All (LeadsIn in_front) front → All (StartsOut in_front) es → in_front a ≡ true → reach_over (front ++ es) a b ≡ reach_over front a b
  reach_within [] es a b closed out from = reach_none es a b out from
  reach_within (e ∷ front) es a b closed out from =
      let rest = All-tail (LeadsIn in_front) e front closed in
      ap (λ z. z || (reach_over (front ++ es) a e.0 && reach_over (front ++ es) e.1 b)) (reach_within front es a b rest out from)
      ∙ ap (λ z. reach_over front a b || (z && reach_over (front ++ es) e.1 b)) (reach_within front es a e.0 rest out from)
      ∙ ap (λ z. reach_over front a b || (reach_over front a e.0 && z)) (reach_within front es e.1 b rest out (All-head (LeadsIn in_front) e front closed))

  -- a node of the front reaches what it reached over the front alone
  pub front_reaches : (count : ℕ) (front wanted : List Edge) (a b : ℕ) → IsClosedFront in_front front wanted → All (IsEdgeWithin count) front → All (IsEdgeWithin count) wanted → in_front a ≡ true
      → Reaches (graph_of count (pairs_kept_from front wanted)) a b ↔ Reaches (graph_of count front) a b
  front_reaches count front wanted a b is all later from =
      let out = all_kept (StartsOut in_front) [] wanted (All-nil (StartsOut in_front)) is.behind in
      let same : reach_over (pairs_kept_from front wanted) a b ≡ reach_over front a b =
      ap (λ z. reach_over z a b) (front_apart in_front front wanted is) ∙ reach_within front (kept_pairs wanted) a b is.closed out from in (
        λ r. reaches_if count front a b all (sym same ∙ found_if count (pairs_kept_from front wanted) a b r),
        λ r. reaches_if count (pairs_kept_from front wanted) a b (all_kept (IsEdgeWithin count) front wanted all later) (same ∙ found_if count front a b r),
      )

  -- and so it reaches nodes of the front alone
  pub front_stays : (count : ℕ) (front wanted : List Edge) (a b : ℕ) → IsClosedFront in_front front wanted → in_front a ≡ true → Reaches (graph_of count (pairs_kept_from front wanted)) a b → in_front b ≡ true
  front_stays count front wanted a b is from r =
      true_from_ne_false (in_front b) (λ out. both_ways (reach_over (pairs_kept_from front wanted) a b)
      (none_out in_front (pairs_kept_from front wanted) a b (whole_closed front wanted is) from out) (found_if count (pairs_kept_from front wanted) a b r))

  -- a wanted edge into the front is kept
  pub front_into : (front wanted : List Edge) (e : Edge) → IsClosedFront in_front front wanted → Contains wanted e → in_front e.1 ≡ true → Contains (pairs_kept_from front wanted) e
  front_into front wanted e is c to = elim (kept_or_closes front wanted e c) [
    | inl has ↦ has
    | inr closes ↦ absurd (both_ways (reach_over (pairs_kept_from front wanted) e.1 e.0)
        (none_out in_front (pairs_kept_from front wanted) e.1 e.0 (whole_closed front wanted is) to (All-contains (StartsOut in_front) wanted e is.behind c)) closes)
  ]

-- the same where the front is the nodes below a number: none of them reaches a later one
pub below_stays : (size count : ℕ) (front wanted : List Edge) (a b : ℕ) → All (λ (e : Edge). e.1 < size) front → All (λ (e : Edge). size ≤ e.0) wanted
    → a < size → Reaches (graph_of count (pairs_kept_from front wanted)) a b → b < size
below_stays size count front wanted a b closed behind from r =
    let is : IsClosedFront (λ n. ltb n size) front wanted = record {
      closed = All-weaker (λ (e : Edge). e.1 < size) (λ (e : Edge). ltb e.1 size ≡ true) (λ e below. lt-ltb e.1 size below) front closed;
      behind = All-weaker (λ (e : Edge). size ≤ e.0) (λ (e : Edge). ltb e.0 size ≡ false) (λ e above. le-ltb e.0 size above) wanted behind;
    } in
    ltb-true b size (front_stays (λ n. ltb n size) count front wanted a b is (lt-ltb a size from) r)
