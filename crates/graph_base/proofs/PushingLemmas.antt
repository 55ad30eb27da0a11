-- A ring with a new last position.
use Rattle.std.proofs.Common.{◌≡◌, ℕ, zero, suc, ◌+◌, ◌<◌, ◌≤◌, ◌≢◌, ◌⊎◌, ◌^◌, inl, inr, List, [], ◌∷◌, ◌++◌, length, length-append, refl, sym, ap, ◌∙◌, subst, arith, get_or, get_or-set_same, get_or-set_other}
use Rattle.std.proofs.Math.ListN.{get_or-append}
use Rattle.std.proofs.Math.Seq.{get_or-append_seam}
use Rattle.std.proofs.lemmas.List.{length-set}
use Rattle.std.specs.Prelude.{slice_index, slice_set, ◌↔◌}
use Rattle.graph_base.specs.Pushing.{AddsLast}
use Rattle.graph_base.specs.Ring.{IsPosition, IsRing, IsRising, LeadBack, lower}
use Rattle.graph_base.specs.Spreading.{KeepsOrder}
use Rattle.graph_base.proofs.KeepingLemmas.{keeps_back, keeps_ring}
use Rattle.graph_base.proofs.RingLemmas.{after_prev, before_next, decide_eq, lower_of, positive_lower, prev_in, prev_less, prev_most, top_most}

-- a list with one more item
pub at_last : (xs : List ℕ) (x k : ℕ) → k ≡ length xs → slice_index (xs ++ x ∷ []) k ≡ x
at_last xs x k is = ap (λ z. slice_index (xs ++ x ∷ []) z) is ∙ get_or-append_seam xs x [] 0

pub at_front : (xs : List ℕ) (x k : ℕ) → k < length xs → slice_index (xs ++ x ∷ []) k ≡ slice_index xs k
at_front xs x k within = get_or-append xs (x ∷ []) 0 k within

pub one_longer : (xs : List ℕ) (x : ℕ) → length (xs ++ x ∷ []) ≡ length xs + 1
one_longer xs x = length-append xs (x ∷ [])

module _ (labels next prev : List ℕ) (ring : IsRing labels next prev) (l : ℕ) (above : lower labels (slice_index prev 0) < l) (below : l < 2 ^ 63) (short : length labels < 2 ^ 32) where
  abbrev n : ℕ
  n = length labels

  abbrev p : ℕ
  p = slice_index prev 0

  abbrev labels' : List ℕ
  labels' = labels ++ l ∷ []

  abbrev next' : List ℕ
  next' = slice_set (next ++ 0 ∷ []) p n

  abbrev prev' : List ℕ
  prev' = slice_set (prev ++ p ∷ []) 0 n

  some : 0 < length labels
  some = ring.rising.some

  p_in : slice_index prev 0 < length labels
  p_in = prev_in labels next prev ring 0 some

  long' : length (labels ++ l ∷ []) ≡ length labels + 1
  long' = one_longer labels l

  next_long : length (slice_set (next ++ 0 ∷ []) (slice_index prev 0) (length labels)) ≡ length labels + 1
  next_long = omega (arith, length-set (next ++ 0 ∷ []) p n, one_longer next 0, ring.rising.long)

  prev_long : length (slice_set (prev ++ slice_index prev 0 ∷ []) 0 (length labels)) ≡ length labels + 1
  prev_long = omega (arith, length-set (prev ++ p ∷ []) 0 n, one_longer prev p, ring.rising.long, ring.back.long)

  label_old : (q : ℕ) → q < length labels → slice_index (labels ++ l ∷ []) q ≡ slice_index labels q
  label_old q q_in = at_front labels l q q_in

  label_new : (q : ℕ) → q ≡ length labels → slice_index (labels ++ l ∷ []) q ≡ l
  label_new q is = at_last labels l q is

  lower_old : (q : ℕ) → q < length labels → lower (labels ++ l ∷ []) q ≡ lower labels q
  lower_old zero q_in = refl
  lower_old (suc q) q_in = label_old (suc q) q_in

  lower_new : (q : ℕ) → q ≡ length labels → lower (labels ++ l ∷ []) q ≡ l
  lower_new q is = lower_of labels' q (omega (arith, is, some)) ∙ label_new q is

  next_last : (q : ℕ) → q ≡ slice_index prev 0 → slice_index (slice_set (next ++ 0 ∷ []) (slice_index prev 0) (length labels)) q ≡ length labels
  next_last q is = ap (λ z. slice_index next' z) is ∙ get_or-set_same (next ++ 0 ∷ []) p n 0 (omega (arith, p_in, one_longer next 0, ring.rising.long))

  next_new : (q : ℕ) → q ≡ length labels → slice_index (slice_set (next ++ 0 ∷ []) (slice_index prev 0) (length labels)) q ≡ 0
  next_new q is = get_or-set_other (next ++ 0 ∷ []) p q n 0 (λ same. omega (arith, is, same, p_in)) ∙ at_last next 0 q (omega (arith, is, ring.rising.long))

  next_old : (q : ℕ) → q < length labels → q ≢ slice_index prev 0 → slice_index (slice_set (next ++ 0 ∷ []) (slice_index prev 0) (length labels)) q ≡ slice_index next q
  next_old q q_in other = get_or-set_other (next ++ 0 ∷ []) p q n 0 other ∙ at_front next 0 q (omega (arith, q_in, ring.rising.long))

  prev_end : (q : ℕ) → q ≡ 0 → slice_index (slice_set (prev ++ slice_index prev 0 ∷ []) 0 (length labels)) q ≡ length labels
  prev_end q is = ap (λ z. slice_index prev' z) is ∙ get_or-set_same (prev ++ p ∷ []) 0 n 0 (omega (arith, one_longer prev p))

  prev_new : (q : ℕ) → q ≡ length labels → slice_index (slice_set (prev ++ slice_index prev 0 ∷ []) 0 (length labels)) q ≡ slice_index prev 0
  prev_new q is = get_or-set_other (prev ++ p ∷ []) 0 q n 0 (λ same. omega (arith, is, same, some)) ∙ at_last prev p q (omega (arith, is, ring.rising.long, ring.back.long))

  prev_old : (q : ℕ) → q < length labels → q ≢ 0 → slice_index (slice_set (prev ++ slice_index prev 0 ∷ []) 0 (length labels)) q ≡ slice_index prev q
  prev_old q q_in other = get_or-set_other (prev ++ p ∷ []) 0 q n 0 other ∙ at_front prev p q (omega (arith, q_in, ring.rising.long, ring.back.long))

  -- all labels but that of the end are below the new one
  pub under_new : (q : ℕ) → 0 < q → q < length labels → slice_index labels q < l
  under_new q q_some q_in = omega (arith, above, prev_most labels next prev ring 0 q some q_in (omega (arith, ring.rising.top, ring.rising.below q q_some q_in)))

  lower_under : (q : ℕ) → q < length labels → lower labels q ≤ lower labels (slice_index prev 0)
  lower_under zero q_in = omega arith
  lower_under (suc q) q_in = prev_most labels next prev ring 0 (suc q) some q_in (omega (arith, ring.rising.top, ring.rising.below (suc q) (omega arith) q_in))

  -- an old position that is not the last is followed by one that is no higher than the last
  before_last : (q : ℕ) → q < length labels → q ≢ slice_index prev 0 → slice_index labels (slice_index next q) ≤ lower labels (slice_index prev 0)
  before_last q q_in other = elim (decide_eq (lower labels q) (lower labels p)) [
    | inl same ↦ absurd (other (lower_level q p q_in p_in same))
    | inr apart ↦
        let strictly : lower labels q < lower labels (slice_index prev 0) = omega (arith, apart, lower_under q q_in) in
        let level = lower_of labels p (positive_lower labels p (omega (arith, strictly))) in
        omega (arith, level, ring.rising.least q p q_in p_in (omega (arith, strictly, level)))
  ]
    where
      lower_level : (q r : ℕ) → q < length labels → r < length labels → lower labels q ≡ lower labels r → q ≡ r
      lower_level zero zero q_in r_in same = refl
      lower_level zero (suc r) q_in r_in same = absurd (omega (arith, same, ring.rising.positive (suc r) r_in))
      lower_level (suc q) zero q_in r_in same = absurd (omega (arith, same, ring.rising.positive (suc q) q_in))
      lower_level (suc q) (suc r) q_in r_in same = ring.rising.once (suc q) (suc r) q_in r_in same

  -- a position is the new one or an old one
  old_or_new : (q : ℕ) → q < length (labels ++ l ∷ []) → (q ≡ length labels) ⊎ (q < length labels)
  old_or_new q q_in = elim (decide_eq q (length labels)) [ inl is ↦ inl is | inr other ↦ inr (omega (arith, q_in, long', other)) ]

  after : (q r : ℕ) → slice_index (slice_set (next ++ 0 ∷ []) (slice_index prev 0) (length labels)) q ≡ r → r < length labels
      → slice_index (labels ++ l ∷ []) (slice_index (slice_set (next ++ 0 ∷ []) (slice_index prev 0) (length labels)) q) ≡ slice_index labels r
  after q r is r_in = ap (λ z. slice_index labels' z) is ∙ label_old r r_in

  after_last : (q : ℕ) → q ≡ slice_index prev 0 → slice_index (labels ++ l ∷ []) (slice_index (slice_set (next ++ 0 ∷ []) (slice_index prev 0) (length labels)) q) ≡ l
  after_last q is = ap (λ z. slice_index labels' z) (next_last q is) ∙ label_new n refl

  up' : (q : ℕ) → q < length (labels ++ l ∷ []) → lower (labels ++ l ∷ []) q < slice_index (labels ++ l ∷ []) (slice_index (slice_set (next ++ 0 ∷ []) (slice_index prev 0) (length labels)) q)
  up' q q_there = elim (old_or_new q q_there) [
    | inl is ↦ omega (arith, lower_new q is, after q 0 (next_new q is) some, ring.rising.top, below)
    | inr q_in ↦ elim (decide_eq q p) [
      | inl is ↦ omega (arith, lower_old q q_in, ap (λ z. lower labels z) is, after_last q is, above)
      | inr other ↦ omega (arith, lower_old q q_in, after q (slice_index next q) (next_old q q_in other) (ring.rising.within q q_in), ring.rising.up q q_in)
    ]
  ]

  least' : (q r : ℕ) → q < length (labels ++ l ∷ []) → r < length (labels ++ l ∷ []) → lower (labels ++ l ∷ []) q < slice_index (labels ++ l ∷ []) r
      → slice_index (labels ++ l ∷ []) (slice_index (slice_set (next ++ 0 ∷ []) (slice_index prev 0) (length labels)) q) ≤ slice_index (labels ++ l ∷ []) r
  least' q r q_there r_there less = elim (old_or_new q q_there) [
    | inl q_is ↦ elim (old_or_new r r_there) [
      | inl r_is ↦ absurd (omega (arith, less, lower_new q q_is, label_new r r_is))
      | inr r_in ↦ elim (decide_eq r 0) [
        | inl is ↦ omega (arith, after q 0 (next_new q q_is) some, label_old r r_in, ap (λ z. slice_index labels z) is)
        | inr other ↦ absurd (omega (arith, less, lower_new q q_is, label_old r r_in, under_new r (omega (arith, other)) r_in))
      ]
    ]
    | inr q_in ↦ elim (decide_eq q p) [
      | inl q_is ↦ elim (old_or_new r r_there) [
        | inl r_is ↦ omega (arith, after_last q q_is, label_new r r_is)
        | inr r_in ↦ elim (decide_eq r 0) [
          | inl is ↦ omega (arith, after_last q q_is, label_old r r_in, ap (λ z. slice_index labels z) is, ring.rising.top, below)
          | inr other ↦
              absurd (omega (
                arith,
                less,
                lower_old q q_in,
                ap (λ z. lower labels z) q_is,
                label_old r r_in,
                prev_most labels next prev ring 0 r some r_in (omega (arith, ring.rising.top, ring.rising.below r (omega (arith, other)) r_in)),
              ))
        ]
      ]
      | inr q_not ↦ elim (old_or_new r r_there) [
        | inl r_is ↦
            omega (arith, after q (slice_index next q) (next_old q q_in q_not) (ring.rising.within q q_in), label_new r r_is, before_last q q_in q_not, above)
        | inr r_in ↦
            omega (
              arith,
              after q (slice_index next q) (next_old q q_in q_not) (ring.rising.within q q_in),
              label_old r r_in,
              ring.rising.least q r q_in r_in (omega (arith, less, lower_old q q_in, label_old r r_in)),
            )
      ]
    ]
  ]

  once' : (q r : ℕ) → q < length (labels ++ l ∷ []) → r < length (labels ++ l ∷ []) → slice_index (labels ++ l ∷ []) q ≡ slice_index (labels ++ l ∷ []) r → q ≡ r
  once' q r q_there r_there same = elim (old_or_new q q_there) [
    | inl q_is ↦ elim (old_or_new r r_there) [
      | inl r_is ↦ q_is ∙ sym r_is
      | inr r_in ↦ absurd (none_new r r_in (omega (arith, same, label_new q q_is, label_old r r_in)))
    ]
    | inr q_in ↦ elim (old_or_new r r_there) [
      | inl r_is ↦ absurd (none_new q q_in (omega (arith, same, label_new r r_is, label_old q q_in)))
      | inr r_in ↦ ring.rising.once q r q_in r_in (omega (arith, same, label_old q q_in, label_old r r_in))
    ]
  ]
    where
      none_new : (r : ℕ) → r < length labels → slice_index labels r ≡ l → ⊥
      none_new r r_in is = elim (decide_eq r 0) [
        | inl end ↦ omega (arith, is, ap (λ z. slice_index labels z) end, ring.rising.top, below)
        | inr other ↦ omega (arith, is, under_new r (omega (arith, other)) r_in)
      ]

  within' : (q : ℕ) → q < length (labels ++ l ∷ []) → slice_index (slice_set (next ++ 0 ∷ []) (slice_index prev 0) (length labels)) q < length (labels ++ l ∷ [])
  within' q q_there = elim (old_or_new q q_there) [
    | inl is ↦ omega (arith, long', next_new q is)
    | inr q_in ↦ elim (decide_eq q p) [
      | inl is ↦ omega (arith, long', next_last q is)
      | inr other ↦ omega (arith, long', next_old q q_in other, ring.rising.within q q_in)
    ]
  ]

  pushed_rising : IsRising (labels ++ l ∷ []) (slice_set (next ++ 0 ∷ []) (slice_index prev 0) (length labels))
  pushed_rising = record {
    short = omega (arith, long', short);
    long = omega (arith, next_long, long');
    some = omega (arith, long');
    top = label_old 0 some ∙ ring.rising.top;
    below = λ q q_some q_there. elim (old_or_new q q_there) [
      | inl is ↦ omega (arith, label_new q is, below)
      | inr q_in ↦ omega (arith, label_old q q_in, ring.rising.below q q_some q_in)
    ];
    positive = λ q q_there. elim (old_or_new q q_there) [
      | inl is ↦ omega (arith, label_new q is, above)
      | inr q_in ↦ omega (arith, label_old q q_in, ring.rising.positive q q_in)
    ];
    once = once';
    within = within';
    up = up';
    least = least';
  }

  pushed_back : LeadBack (slice_set (next ++ 0 ∷ []) (slice_index prev 0) (length labels)) (slice_set (prev ++ slice_index prev 0 ∷ []) 0 (length labels))
  pushed_back = record {
    long = omega (arith, next_long, prev_long);
    within = λ q q_there. elim (old_or_new q (omega (arith, q_there, next_long, long'))) [
      | inl is ↦ omega (arith, next_long, prev_new q is, p_in)
      | inr q_in ↦ elim (decide_eq q 0) [
        | inl is ↦ omega (arith, next_long, prev_end q is)
        | inr other ↦ omega (arith, next_long, prev_old q q_in other, prev_in labels next prev ring q q_in)
      ]
    ];
    next_of_prev = λ q q_there. elim (old_or_new q (omega (arith, q_there, next_long, long'))) [
      | inl is ↦ next_last (slice_index prev' q) (prev_new q is) ∙ sym is
      | inr q_in ↦ elim (decide_eq q 0) [
        | inl is ↦ next_new (slice_index prev' q) (prev_end q is) ∙ sym is
        | inr other ↦
            let same = prev_old q q_in other in
            let not_last : slice_index prev q ≢ slice_index prev 0 = λ one.
            other (sym (after_prev labels next prev ring q q_in) ∙ ap (λ z. slice_index next z) one ∙ after_prev labels next prev ring 0 some) in
            ap (λ z. slice_index next' z) same ∙ next_old (slice_index prev q) (prev_in labels next prev ring q q_in) not_last ∙ after_prev labels next prev ring q q_in
      ]
    ];
    prev_of_next = λ q q_there. elim (old_or_new q (omega (arith, q_there, next_long, long'))) [
      | inl is ↦ prev_end (slice_index next' q) (next_new q is) ∙ sym is
      | inr q_in ↦ elim (decide_eq q p) [
        | inl is ↦ prev_new (slice_index next' q) (next_last q is) ∙ sym is
        | inr other ↦
            let same = next_old q q_in other in
            let not_end : slice_index next q ≢ 0 = λ one. other (sym (before_next labels next prev ring q q_in) ∙ ap (λ z. slice_index prev z) one) in
            ap (λ z. slice_index prev' z) same ∙ prev_old (slice_index next q) (ring.rising.within q q_in) not_end ∙ before_next labels next prev ring q q_in
      ]
    ];
  }

  pub pushed_ring : IsRing (labels ++ l ∷ []) (slice_set (next ++ 0 ∷ []) (slice_index prev 0) (length labels)) (slice_set (prev ++ slice_index prev 0 ∷ []) 0 (length labels))
  pushed_ring = record { rising = pushed_rising; back = pushed_back }

  -- once labels have changed and their order has not
  pub adds_last : (old : List ℕ) → IsRising old next → KeepsOrder old labels → AddsLast old (labels ++ l ∷ [])
  adds_last old rising keeps = record {
    long = omega (arith, long', keeps.long);
    order = λ q r q_in r_in.
        let q_mid : q < length labels = omega (arith, q_in, keeps.long) in
        let r_mid : r < length labels = omega (arith, r_in, keeps.long) in (
          (λ less. keeps_back old next labels rising keeps q r q_in r_in (omega (arith, less, label_old q q_mid, label_old r r_mid))),
          (λ less. omega (arith, keeps.less q r q_in r_in less, label_old q q_mid, label_old r r_mid)),
        );
    highest = λ q at.
        let q_mid : q < length labels = omega (arith, at.1, keeps.long) in
        omega (arith, label_old q q_mid, under_new q at.0 q_mid, label_new (length old) (sym keeps.long));
    below_end = omega (arith, label_new (length old) (sym keeps.long), label_old 0 some, ring.rising.top, below);
  }

module _ (old mid labels' next prev : List ℕ) (low label : ℕ) (ring : IsRing old next prev) (keeps : KeepsOrder old mid) (low_is : low ≡ lower mid (slice_index prev 0)) (above : low < label)
    (below : label < 2 ^ 63) (short : length old < 2 ^ 32) (labels_are : labels' ≡ mid ++ label ∷ []) where
  pub adds_then : AddsLast old labels'
  adds_then = subst (AddsLast old) (sym labels_are)
      (adds_last mid next prev (keeps_ring old next prev mid ring keeps) label (omega (arith, low_is, above)) below (omega (arith, short, keeps.long)) old ring.rising keeps)

module _ (old mid labels' next next1 next' prev prev1 prev' : List ℕ) (low label last new : ℕ) (ring : IsRing old next prev) (keeps : KeepsOrder old mid)
    (low_is : low ≡ lower mid (slice_index prev 0)) (above : low < label) (below : label < 2 ^ 63) (short : length old < 2 ^ 32) (new_is : new ≡ length mid) (last_is : last ≡ slice_index prev 0)
    (labels_are : labels' ≡ mid ++ label ∷ []) where
  mid_ring : IsRing mid next prev
  mid_ring = keeps_ring old next prev mid ring keeps

  pub ring_then : next1 ≡ next ++ 0 ∷ [] → next' ≡ slice_set next1 last new → prev1 ≡ prev ++ last ∷ [] → prev' ≡ slice_set prev1 0 new → IsRing labels' next' prev'
  ring_then one two three four =
      let made = pushed_ring mid next prev mid_ring label (omega (arith, low_is, above)) below (omega (arith, short, keeps.long)) in
      let next_is : slice_set (next ++ 0 ∷ []) (slice_index prev 0) (length mid) ≡ next' =
      ap (λ k. slice_set (next ++ 0 ∷ []) k (length mid)) (sym last_is) ∙ ap (λ k. slice_set (next ++ 0 ∷ []) last k) (sym new_is) ∙ ap (λ (xs : List ℕ). slice_set xs last new) (sym one) ∙ sym two in
      let prev_is : slice_set (prev ++ slice_index prev 0 ∷ []) 0 (length mid) ≡ prev' =
      ap (λ k. slice_set (prev ++ k ∷ []) 0 (length mid)) (sym last_is) ∙ ap (λ k. slice_set (prev ++ last ∷ []) 0 k) (sym new_is) ∙ ap (λ (xs : List ℕ). slice_set xs 0 new) (sym three) ∙ sym four in
      subst (λ (ls : List ℕ). IsRing ls next' prev') (sym labels_are)
      (subst (λ (ps : List ℕ). IsRing (mid ++ label ∷ []) next' ps) prev_is (subst (λ (ns : List ℕ). IsRing (mid ++ label ∷ []) ns (slice_set (prev ++ slice_index prev 0 ∷ []) 0 (length mid))) next_is made))
