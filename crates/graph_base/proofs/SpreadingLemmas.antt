-- Runs of positions, and labels that are spread over them.
use Rattle.std.proofs.Common.{◌≡◌, ℕ, zero, suc, ◌+◌, ◌*◌, ◌<◌, ◌≤◌, ◌≢◌, ◌⊎◌, ◌^◌, inl, inr, List, length, refl, sym, ap, ◌∙◌, add-one, arith, below_more, mul-le-mul_right, mul_comm, get_or-set_same, get_or-set_other}
use Rattle.std.proofs.lemmas.Bool.{cases_order}
use Rattle.std.proofs.lemmas.List.{length-set}
use Rattle.std.specs.Prelude.{nat_lt, slice_index, slice_set}
use Rattle.std.proofs.lemmas.List.Sums.{count_by-le-length}
use Rattle.graph_base.specs.Ring.{IsPosition, IsRing, IsRising, LeadBack, lower}
use Rattle.graph_base.specs.Spreading.{AreStepsApart, HasGaps, HasRun, IsFirstFrom, KeepsOrder, SpreadFits, follow}
use Rattle.graph_base.specs.Ranks.{labels_below}
use Rattle.graph_base.proofs.KeepingLemmas.{keeps_back, keeps_ring}
use Rattle.graph_base.proofs.RankLemmas.{below_less}
use Rattle.graph_base.proofs.RingLemmas.{decide_eq, lower_le, lower_of, prev_in, prev_less, prev_most, top_most}

-- of what comes before the first position of a window either there is none or its label is lower
pub is_first_from : (labels next prev : List ℕ) (low first : ℕ) → IsRing labels next prev → IsPosition labels first → low ≤ slice_index labels first
    → (slice_index prev first ≡ 0) ⊎ (slice_index labels (slice_index prev first) < low) → IsFirstFrom labels low first
is_first_from labels next prev low first ring position from edge = record {
  position = position;
  from = from;
  least = λ q q_in high. elim (cases_order (slice_index labels q) (slice_index labels first)) [
    | inl same ↦ omega (arith, same)
    | inr apart ↦ elim apart [
      | inl less ↦
          let most = prev_most labels next prev ring first q position.1 q_in less in
          elim edge [
            | inl none ↦ absurd (omega (arith, most, ap (λ z. lower labels z) none, ring.rising.positive q q_in))
            | inr under ↦ absurd (omega (arith, most, under, high, lower_le labels (slice_index prev first)))
          ]
      | inr more ↦ omega (arith, more)
    ]
  ];
}

-- ---- runs

pub record IsAlong (labels next : List ℕ) (first high count here : ℕ) : Type 0 where
  pub here_is : here ≡ follow next count first
  pub here_in : here < length labels
  pub counted : count ≤ slice_index labels here
  pub ranked : count ≤ labels_below labels (slice_index labels here)
  pub inside : (k : ℕ) → k < count → slice_index labels (follow next k first) < high

pub follow_more : (next : List ℕ) (k p : ℕ) → follow next (k + 1) p ≡ slice_index next (follow next k p)
follow_more next k p = ap (λ n. follow next n p) (add-one k)

-- below the end no position is the end
pub is_position : (labels next : List ℕ) (here high : ℕ) → IsRising labels next → here < length labels → high ≤ 2 ^ 63 → slice_index labels here < high → 0 < here
is_position labels next here high rising here_in top under = elim (decide_eq here 0) [
  | inl is ↦ absurd (omega (arith, under, top, ap (λ z. slice_index labels z) is, rising.top))
  | inr other ↦ omega (arith, other)
]

pub step_up : (labels next : List ℕ) (here : ℕ) → IsRising labels next → here < length labels → 0 < here → slice_index labels here < slice_index labels (slice_index next here)
step_up labels next here rising here_in some = omega (arith, rising.up here here_in, lower_of labels here some)

pub along_more : (labels next : List ℕ) (first high count here : ℕ) → IsRising labels next → high ≤ 2 ^ 63 → IsAlong labels next first high count here
    → slice_index labels here < high → IsAlong labels next first high (count + 1) (slice_index next here)
along_more labels next first high count here rising top along under = record {
  here_is = ap (λ z. slice_index next z) along.here_is ∙ sym (follow_more next count first);
  here_in = rising.within here along.here_in;
  counted = omega (arith, along.counted, step_up labels next here rising along.here_in (is_position labels next here high rising along.here_in top under));
  ranked = omega (arith, along.ranked, below_less labels here (slice_index labels (slice_index next here)) along.here_in (step_up labels next here rising along.here_in (is_position labels next here high rising along.here_in top under)));
  inside = below_more (λ k. slice_index labels (follow next k first) < high) count along.inside (omega (arith, under, ap (λ z. slice_index labels z) along.here_is));
}

pub most_top : (labels next : List ℕ) (p : ℕ) → IsRising labels next → p < length labels → slice_index labels p ≤ 2 ^ 63
most_top labels next p rising p_in = elim (decide_eq p 0) [
  | inl is ↦ omega (arith, ap (λ z. slice_index labels z) is, rising.top)
  | inr other ↦ omega (arith, rising.below p (omega (arith, other)) p_in)
]

pub has_run : (labels next : List ℕ) (first high count here : ℕ) → IsRising labels next → IsAlong labels next first high count here → high ≤ slice_index labels here
    → HasRun labels next first high count
has_run labels next first high count here rising along over = record {
  inside = along.inside;
  ends = omega (arith, over, ap (λ z. slice_index labels z) along.here_is);
  few = omega (arith, along.ranked, count_by-le-length (λ l. nat_lt l (slice_index labels here)) labels);
}

-- ---- spreading

-- the positions up to one, from the first of a window on, have their new labels
pub record IsSpread (old next new : List ℕ) (first low step count here : ℕ) : Type 0 where
  pub here_is : here ≡ follow next count first
  pub here_in : here < length old
  pub from : low ≤ slice_index old here
  pub long : length new ≡ length old
  pub under : (q : ℕ) → q < length old → slice_index old q < low → slice_index new q ≡ slice_index old q
  pub over : (q : ℕ) → q < length old → slice_index old here ≤ slice_index old q → slice_index new q ≡ slice_index old q
  pub above : (q : ℕ) → q < length old → low ≤ slice_index old q → slice_index old q < slice_index old here → low + step ≤ slice_index new q
  pub most : (q : ℕ) → q < length old → low ≤ slice_index old q → slice_index old q < slice_index old here → slice_index new q ≤ low + step * count
  pub order : (q r : ℕ) → q < length old → r < length old → low ≤ slice_index old q → slice_index old q < slice_index old r → slice_index old r < slice_index old here
      → slice_index new q + step ≤ slice_index new r

pub spread_none : (old next : List ℕ) (first low step : ℕ) → IsFirstFrom old low first → IsSpread old next old first low step 0 first
spread_none old next first low step is = record {
  here_is = refl;
  here_in = is.position.1;
  from = is.from;
  long = refl;
  under = λ q q_in below. refl;
  over = λ q q_in from. refl;
  above = λ q q_in from below. absurd (omega (arith, below, is.least q q_in from));
  most = λ q q_in from below. absurd (omega (arith, below, is.least q q_in from));
  order = λ q r q_in r_in from less below. absurd (omega (arith, less, below, is.least q q_in from));
}

pub step_more : (step k : ℕ) → step * k + step ≡ step * (k + 1)
step_more step k = grind arith

module _ (old next new : List ℕ) (first low step count here : ℕ) (rising : IsRising old next) (is : IsSpread old next new first low step count here) (some : 0 < here) (steps : 0 < step) where
  abbrev label : ℕ
  label = low + step * (count + 1)

  abbrev new' : List ℕ
  new' = slice_set new here (low + step * (count + 1))

  at_here : slice_index (slice_set new here (low + step * (count + 1))) here ≡ low + step * (count + 1)
  at_here = get_or-set_same new here label 0 (omega (arith, is.here_in, is.long))

  at_other : (q : ℕ) → q ≢ here → slice_index (slice_set new here (low + step * (count + 1))) q ≡ slice_index new q
  at_other q other = get_or-set_other new here q label 0 other

  further : slice_index old here < slice_index old (slice_index next here)
  further = step_up old next here rising is.here_in some

  -- below what follows is the position itself or what is below that
  nearer : (q : ℕ) → q < length old → q ≢ here → slice_index old q < slice_index old (slice_index next here) → slice_index old q < slice_index old here
  nearer q q_in other below = elim (cases_order (slice_index old q) (slice_index old here)) [
    | inl same ↦ absurd (other (rising.once q here q_in is.here_in same))
    | inr apart ↦ elim apart [
      | inl less ↦ less
      | inr more ↦ absurd (omega (arith, below, rising.least here q is.here_in q_in (omega (arith, more, lower_of old here some))))
    ]
  ]

  pub spread_more : IsSpread old next (slice_set new here (low + step * (count + 1))) first low step (count + 1) (slice_index next here)
  spread_more = record {
    here_is = ap (λ z. slice_index next z) is.here_is ∙ sym (follow_more next count first);
    here_in = rising.within here is.here_in;
    from = omega (arith, is.from, further);
    long = length-set new here label ∙ is.long;
    under = λ q q_in below. at_other q (λ same. omega (arith, below, is.from, ap (λ z. slice_index old z) same)) ∙ is.under q q_in below;
    over = λ q q_in from. at_other q (λ same. omega (arith, from, further, ap (λ z. slice_index old z) same)) ∙ is.over q q_in (omega (arith, from, further));
    above = λ q q_in from below. elim (decide_eq q here) [
      | inl same ↦ omega (arith, ap (λ z. slice_index new' z) same, at_here, step_more step count)
      | inr other ↦ omega (arith, at_other q other, is.above q q_in from (nearer q q_in other below))
    ];
    most = λ q q_in from below. elim (decide_eq q here) [
      | inl same ↦ omega (arith, ap (λ z. slice_index new' z) same, at_here)
      | inr other ↦ omega (arith, at_other q other, is.most q q_in from (nearer q q_in other below), step_more step count)
    ];
    order = λ q r q_in r_in from less below. elim (decide_eq r here) [
      | inl same ↦
          let q_below : slice_index old q < slice_index old here = omega (arith, less, ap (λ z. slice_index old z) same) in
          let other : q ≢ here = λ one. omega (arith, q_below, ap (λ z. slice_index old z) one) in
          omega (arith, ap (λ z. slice_index new' z) same, at_here, at_other q other, is.most q q_in from q_below, step_more step count)
      | inr other ↦
          let r_below = nearer r r_in other below in
          let q_other : q ≢ here = λ one. omega (arith, less, r_below, ap (λ z. slice_index old z) one) in
          omega (arith, at_other r other, at_other q q_other, is.order q r q_in r_in from less r_below)
    ];
  }

-- where a label stands to a window
data Zone (label low high : ℕ) : Type 0 where
  is_under : label < low → Zone label low high
  is_inside : low ≤ label → label < high → Zone label low high
  is_over : high ≤ label → Zone label low high

upper_zone : (label low high : ℕ) → low ≤ label → Zone label low high
upper_zone label low high from = elim (cases_order label high) [
  | inl same ↦ is_over (omega (arith, same))
  | inr apart ↦ elim apart [ inl less ↦ is_inside from less | inr more ↦ is_over (omega (arith, more)) ]
]

zone_of : (label low high : ℕ) → Zone label low high
zone_of label low high = elim (cases_order label low) [
  | inl same ↦ upper_zone label low high (omega (arith, same))
  | inr apart ↦ elim apart [ inl less ↦ is_under less | inr more ↦ upper_zone label low high (omega (arith, more)) ]
]

pub spread_keeps : (old next new : List ℕ) (first low step count here : ℕ) → IsRising old next → IsSpread old next new first low step count here
    → SpreadFits old next first count low step → KeepsOrder old new
spread_keeps old next new first low step count here rising is fits =
    let last : fits.high ≤ slice_index old here = omega (arith, fits.run.ends, ap (λ z. slice_index old z) is.here_is) in
    let room : low + step * count < fits.high = omega (arith, fits.within, step_more step count, fits.rising) in
    record {
      long = is.long;
      top = is.over 0 rising.some (omega (arith, most_top old next here rising is.here_in, rising.top));
      below = λ q q_at. elim (zone_of (slice_index old q) low (slice_index old here)) [
        | is_under under ↦ omega (arith, is.under q q_at.1 under, rising.below q q_at.0 q_at.1)
        | is_inside from under ↦ omega (arith, is.most q q_at.1 from under, room, fits.top)
        | is_over over ↦ omega (arith, is.over q q_at.1 over, rising.below q q_at.0 q_at.1)
      ];
      positive = λ q q_in. elim (zone_of (slice_index old q) low (slice_index old here)) [
        | is_under under ↦ omega (arith, is.under q q_in under, rising.positive q q_in)
        | is_inside from under ↦ omega (arith, is.above q q_in from under, fits.rising)
        | is_over over ↦ omega (arith, is.over q q_in over, rising.positive q q_in)
      ];
      less = λ q r q_in r_in less. elim (zone_of (slice_index old q) low (slice_index old here)) [
        | is_under q_under ↦ elim (zone_of (slice_index old r) low (slice_index old here)) [
          | is_under r_under ↦ omega (arith, less, is.under q q_in q_under, is.under r r_in r_under)
          | is_inside r_from r_under ↦ omega (arith, is.under q q_in q_under, q_under, is.above r r_in r_from r_under, fits.rising)
          | is_over r_over ↦ omega (arith, less, is.under q q_in q_under, is.over r r_in r_over)
        ]
        | is_inside q_from q_under ↦ elim (zone_of (slice_index old r) low (slice_index old here)) [
          | is_under r_under ↦ absurd (omega (arith, less, q_from, r_under))
          | is_inside r_from r_under ↦ omega (arith, is.order q r q_in r_in q_from less r_under, fits.rising)
          | is_over r_over ↦ omega (arith, is.most q q_in q_from q_under, room, last, r_over, is.over r r_in r_over)
        ]
        | is_over q_over ↦ omega (arith, less, is.over q q_in q_over, is.over r r_in (omega (arith, less, q_over)))
      ];
    }

-- a position of the run is not the end
pub run_position : (old next new : List ℕ) (first low step count k here : ℕ) → IsRising old next → SpreadFits old next first count low step
    → IsSpread old next new first low step k here → k < count → 0 < here
run_position old next new first low step count k here rising fits is below =
    is_position old next here fits.high rising is.here_in fits.top (omega (arith, fits.run.inside k below, ap (λ z. slice_index old z) is.here_is))

-- ---- all labels

pub apart_of : (old next new : List ℕ) (first low step count here : ℕ) → IsSpread old next new first low step count here
    → AreStepsApart old new (follow next count first) count low step
apart_of old next new first low step count here is =
    let same : slice_index old here ≡ slice_index old (follow next count first) = ap (λ z. slice_index old z) is.here_is in
    record {
      first = λ p p_in from below. is.above p p_in from (omega (arith, below, same));
      most = λ p p_in from below. is.most p p_in from (omega (arith, below, same));
      apart = λ p q p_in q_in from less below. is.order p q p_in q_in from less (omega (arith, below, same));
    }

-- the position that follows the end, where it is not the end, has the least label
pub first_is_least : (labels next prev : List ℕ) → IsRing labels next prev → slice_index next 0 ≢ 0 → IsFirstFrom labels 0 (slice_index next 0)
first_is_least labels next prev ring some = record {
  position = (omega (arith, some), ring.rising.within 0 ring.rising.some);
  from = omega arith;
  least = λ p p_in from. ring.rising.least 0 p ring.rising.some p_in (ring.rising.positive p p_in);
}

-- where nothing stands before the end there is room
pub gaps_of_none : (labels next prev : List ℕ) → IsRing labels next prev → slice_index next 0 ≡ 0 → HasGaps prev labels
gaps_of_none labels next prev ring none p p_in =
    let rising = ring.rising in
    let least : slice_index labels (slice_index next 0) ≤ slice_index labels p = rising.least 0 p rising.some p_in (rising.positive p p_in) in
    let is_end : slice_index labels (slice_index next 0) ≡ slice_index labels 0 = ap (λ z. slice_index labels z) none in
    elim (decide_eq p 0) [
      | inl same ↦
          let back : slice_index prev p ≡ 0 = ap (λ z. slice_index prev z) (same ∙ sym none) ∙ ring.back.prev_of_next 0 (omega (arith, rising.some, rising.long)) in
          omega (arith, ap (λ z. lower labels z) back, ap (λ z. slice_index labels z) same, rising.top)
      | inr other ↦ absurd (omega (arith, least, is_end, rising.top, rising.below p (omega (arith, other)) p_in))
    ]

-- all labels are spread: each is a step above the one before it
pub gaps_of_all : (old next prev new : List ℕ) (first count step : ℕ) → IsRing old next prev → KeepsOrder old new → HasRun old next first (2 ^ 63) count
    → AreStepsApart old new (follow next count first) count 0 step → 2 ≤ step → step * (count + 1) ≤ 2 ^ 63 → HasGaps prev new
gaps_of_all old next prev new first count step ring keeps run apart wide fits p p_in =
    let is_new = keeps_ring old next prev new ring keeps in
    let p_old : p < length old = omega (arith, p_in, keeps.long) in
    let before = slice_index prev p in
    let before_in : slice_index prev p < length old = prev_in old next prev ring p p_old in
    let ends : (2 ^ 63) ≤ slice_index old (follow next count first) = run.ends in
    let under : (q : ℕ) → 0 < q → q < length old → slice_index old q < slice_index old (follow next count first) =
    λ q some q_in. omega (arith, ends, ring.rising.below q some q_in) in
    elim (decide_eq p 0) [
      | inl is ↦
          let top : slice_index new p ≡ 2 ^ 63 = ap (λ z. slice_index new z) is ∙ keeps.top ∙ ring.rising.top in
          elim (decide_eq before 0) [
            | inl none ↦ omega (arith, ap (λ z. lower new z) none, top)
            | inr some ↦
                let positive : 0 < slice_index prev p = omega (arith, some) in
                omega (arith, lower_of new before positive, top, apart.most before before_in (omega arith) (under before positive before_in), fits, step_more step count, wide)
          ]
      | inr other ↦
          let p_some : 0 < p = omega (arith, other) in
          elim (decide_eq before 0) [
            | inl none ↦ omega (arith, ap (λ z. lower new z) none, apart.first p p_old (omega arith) (under p p_some p_old), wide)
            | inr some ↦
                let positive : 0 < slice_index prev p = omega (arith, some) in
                let less_new : slice_index new before < slice_index new p = omega (arith, lower_of new before positive, prev_less new next prev is_new p p_in) in
                let less : slice_index old before < slice_index old p = keeps_back old next new ring.rising keeps before p before_in p_old less_new in
                omega (arith, lower_of new before positive, apart.apart before p before_in p_old (omega arith) less (under p p_some p_old), wide)
          ]
    ]

-- orders that are kept one after the other
pub keeps_then : (old mid new : List ℕ) → KeepsOrder old mid → KeepsOrder mid new → KeepsOrder old new
keeps_then old mid new first second = record {
  long = second.long ∙ first.long;
  top = second.top ∙ first.top;
  below = λ p at. second.below p (at.0, omega (arith, at.1, first.long));
  positive = λ p p_in. second.positive p (omega (arith, p_in, first.long));
  less = λ p q p_in q_in less. second.less p q (omega (arith, p_in, first.long)) (omega (arith, q_in, first.long)) (first.less p q p_in q_in less);
}
