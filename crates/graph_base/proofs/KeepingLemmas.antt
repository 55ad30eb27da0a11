-- Labels that change and keep their order keep the ring, and what is said of the order.
use Rattle.std.proofs.Common.{◌≡◌, ℕ, zero, suc, ◌+◌, ◌<◌, ◌≤◌, ◌≢◌, ◌⊎◌, ◌^◌, inl, inr, List, length, refl, sym, ap, ◌∙◌, arith}
use Rattle.std.proofs.lemmas.Bool.{cases_order}
use Rattle.std.specs.Prelude.{slice_index}
use Rattle.graph_base.specs.Placing.{FitsBefore, PutsBefore}
use Rattle.graph_base.specs.Ring.{IsPosition, IsRing, IsRising, LeadBack, lower}
use Rattle.graph_base.specs.Spreading.{KeepsOrder}
use Rattle.graph_base.proofs.RingLemmas.{after_prev, decide_eq, lower_of, lower_zero, prev_in, prev_less, prev_most}

-- the order of two labels is that of the old ones
pub keeps_back : (old next new : List ℕ) → IsRising old next → KeepsOrder old new → (p q : ℕ) → p < length old → q < length old → slice_index new p < slice_index new q
    → slice_index old p < slice_index old q
keeps_back old next new rising keeps p q p_in q_in less = elim (cases_order (slice_index old p) (slice_index old q)) [
  | inl same ↦ absurd (omega (arith, less, ap (λ z. slice_index new z) (rising.once p q p_in q_in same)))
  | inr apart ↦ elim apart [ inl under ↦ under | inr over ↦ absurd (omega (arith, less, keeps.less q p q_in p_in over)) ]
]

-- and so with what is no higher
pub keeps_most : (old next new : List ℕ) → IsRising old next → KeepsOrder old new → (p q : ℕ) → p < length old → q < length old → slice_index old p ≤ slice_index old q
    → slice_index new p ≤ slice_index new q
keeps_most old next new rising keeps p q p_in q_in most = elim (decide_eq (slice_index old p) (slice_index old q)) [
  | inl same ↦ omega (arith, ap (λ z. slice_index new z) (rising.once p q p_in q_in same))
  | inr apart ↦ omega (arith, keeps.less p q p_in q_in (omega (arith, most, apart)))
]

keeps_up : (old next new : List ℕ) → IsRising old next → KeepsOrder old new → (p : ℕ) → p < length old → lower new p < slice_index new (slice_index next p)
keeps_up old next new rising keeps zero p_in = keeps.positive (slice_index next 0) (rising.within 0 p_in)
keeps_up old next new rising keeps (suc p) p_in = keeps.less (suc p) (slice_index next (suc p)) p_in (rising.within (suc p) p_in) (rising.up (suc p) p_in)

keeps_least : (old next new : List ℕ) → IsRising old next → KeepsOrder old new → (p q : ℕ) → p < length old → q < length old → lower new p < slice_index new q
    → slice_index new (slice_index next p) ≤ slice_index new q
keeps_least old next new rising keeps zero q p_in q_in less =
    keeps_most old next new rising keeps (slice_index next 0) q (rising.within 0 p_in) q_in (rising.least 0 q p_in q_in (rising.positive q q_in))
keeps_least old next new rising keeps (suc p) q p_in q_in less =
    keeps_most old next new rising keeps (slice_index next (suc p)) q (rising.within (suc p) p_in) q_in
    (rising.least (suc p) q p_in q_in (keeps_back old next new rising keeps (suc p) q p_in q_in less))

pub keeps_rising : (old next new : List ℕ) → IsRising old next → KeepsOrder old new → IsRising new next
keeps_rising old next new rising keeps = record {
  short = omega (arith, keeps.long, rising.short);
  long = rising.long ∙ sym keeps.long;
  some = omega (arith, keeps.long, rising.some);
  top = keeps.top ∙ rising.top;
  below = λ p some p_in. keeps.below p (some, omega (arith, p_in, keeps.long));
  positive = λ p p_in. keeps.positive p (omega (arith, p_in, keeps.long));
  once = λ p q p_there q_there same.
      let p_in : p < length old = omega (arith, p_there, keeps.long) in
      let q_in : q < length old = omega (arith, q_there, keeps.long) in
      elim (cases_order (slice_index old p) (slice_index old q)) [
        | inl one ↦ rising.once p q p_in q_in one
        | inr apart ↦ elim apart [
          | inl less ↦ absurd (omega (arith, same, keeps.less p q p_in q_in less))
          | inr more ↦ absurd (omega (arith, same, keeps.less q p q_in p_in more))
        ]
      ];
  within = λ p p_in. omega (arith, keeps.long, rising.within p (omega (arith, p_in, keeps.long)));
  up = λ p p_in. keeps_up old next new rising keeps p (omega (arith, p_in, keeps.long));
  least = λ p q p_in q_in. keeps_least old next new rising keeps p q (omega (arith, p_in, keeps.long)) (omega (arith, q_in, keeps.long));
}

pub keeps_ring : (old next prev new : List ℕ) → IsRing old next prev → KeepsOrder old new → IsRing new next prev
keeps_ring old next prev new ring keeps = record { rising = keeps_rising old next new ring.rising keeps; back = ring.back }

pub keeps_same : (labels next : List ℕ) → IsRising labels next → KeepsOrder labels labels
keeps_same labels next rising = record {
  long = refl;
  top = refl;
  below = λ p at. rising.below p at.0 at.1;
  positive = rising.positive;
  less = λ p q p_in q_in less. less;
}

-- a node that stands directly before the mark, or is it, goes nowhere
pub stays_before : (labels next prev : List ℕ) (node mark : ℕ) → IsRing labels next prev → IsPosition labels node → mark < length labels
    → (mark ≡ node) ⊎ (slice_index prev mark ≡ node) → PutsBefore node mark labels labels
stays_before labels next prev node mark ring at mark_in (inl is) = record {
  long = refl;
  others = λ p q p_in q_in p_not q_not less. less;
  over = λ p p_at other less. omega (arith, less, ap (λ z. slice_index labels z) is);
  under = λ p p_in other from. elim (decide_eq (slice_index labels node) (slice_index labels p)) [
    | inl same ↦ absurd (other (sym (ring.rising.once node p at.1 p_in same)))
    | inr apart ↦ omega (arith, from, apart, ap (λ z. slice_index labels z) is)
  ];
}
stays_before labels next prev node mark ring at mark_in (inr is) = record {
  long = refl;
  others = λ p q p_in q_in p_not q_not less. less;
  over = λ p p_at other less. elim (decide_eq (slice_index labels p) (slice_index labels node)) [
    | inl same ↦ absurd (other (ring.rising.once p node p_at.1 at.1 same))
    | inr apart ↦ omega (arith, apart, prev_most labels next prev ring mark p mark_in p_at.1 less, ap (λ z. lower labels z) is, lower_of labels node at.0)
  ];
  under = λ p p_in other from. omega (arith, from, prev_less labels next prev ring mark mark_in, ap (λ z. lower labels z) is, lower_of labels node at.0);
}

-- a node goes before a mark once labels have changed and their order has not
pub puts_after : (old next mid new : List ℕ) (node mark : ℕ) → IsRising old next → mark < length old → KeepsOrder old mid → PutsBefore node mark mid new → PutsBefore node mark old new
puts_after old next mid new node mark rising mark_in keeps puts = record {
  long = puts.long ∙ keeps.long;
  others = λ p q p_in q_in p_not q_not less.
      puts.others p q (omega (arith, p_in, keeps.long)) (omega (arith, q_in, keeps.long)) p_not q_not (keeps.less p q p_in q_in less);
  over = λ p at other less. puts.over p (at.0, omega (arith, at.1, keeps.long)) other (keeps.less p mark at.1 mark_in less);
  under = λ p p_in other from. puts.under p (omega (arith, p_in, keeps.long)) other (keeps_most old next mid rising keeps mark p mark_in p_in from);
}
