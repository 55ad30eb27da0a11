-- One more node of a block goes where the block goes.
use Rattle.std.proofs.Common.{◌≡◌, ℕ, zero, suc, ◌+◌, ◌-◌, ◌<◌, ◌≤◌, ◌≢◌, ◌⊎◌, inl, inr, List, length, refl, sym, ap, ◌∙◌, arith, subst}
use Rattle.std.specs.Prelude.{slice_index}
use Rattle.graph_base.specs.Blocks.{AreInRankOrder, FitAbove, FitBelow, IsAmong, IsOther, KeepEach, StandAbove, StandBelow}
use Rattle.graph_base.specs.Ranks.{AreRanks, KeepsOthers, MovesAbove, MovesBelow}
use Rattle.graph_base.proofs.RingLemmas.{decide_eq}

-- one of one more node is one of those before, or the next
split_among : (nodes : List ℕ) (count n : ℕ) → IsAmong nodes (count + 1) n → IsAmong nodes count n ⊎ (slice_index nodes count ≡ n)
split_among nodes count n is = elim (decide_eq is.place count) [
  | inl last ↦ inr (ap (λ k. slice_index nodes k) (sym last) ∙ is.node_is)
  | inr other ↦ inl (record { place = is.place; early = omega (arith, is.early, other); node_is = is.node_is })
]

more_among : (nodes : List ℕ) (count n : ℕ) → IsAmong nodes count n → IsAmong nodes (count + 1) n
more_among nodes count n is = record { place = is.place; early = omega (arith, is.early); node_is = is.node_is }

next_among : (nodes : List ℕ) (count : ℕ) → IsAmong nodes (count + 1) (slice_index nodes count)
next_among nodes count = record { place = count; early = omega arith; node_is = refl }

none_among : (nodes : List ℕ) (n : ℕ) → IsAmong nodes 0 n → ⊥
none_among nodes n is = omega (arith, is.early)

keep_none : (nodes ranks : List ℕ) → KeepEach nodes 0 ranks ranks
keep_none nodes ranks = record {
  long = refl;
  moved = λ m n m_is n_is less. absurd (none_among nodes m m_is);
  others = λ m n m_is n_is less. less;
}

pub below_none : (mark : ℕ) (nodes ranks : List ℕ) → StandBelow mark nodes 0 ranks ranks
below_none mark nodes ranks = record {
  each = keep_none nodes ranks;
  up = λ m n m_is n_is from. absurd (none_among nodes m m_is);
  down = λ m n m_is n_is less. absurd (none_among nodes n n_is);
}

pub above_none : (mark : ℕ) (nodes ranks : List ℕ) → StandAbove mark nodes 0 ranks ranks
above_none mark nodes ranks = record {
  each = keep_none nodes ranks;
  up = λ m n m_is n_is from. absurd (none_among nodes m m_is);
  down = λ m n m_is n_is less. absurd (none_among nodes n n_is);
}

module _ (nodes old mid new : List ℕ) (count : ℕ) (listed : AreInRankOrder nodes old) (more : count < length nodes) (each : KeepEach nodes count old mid)
    (keeps : KeepsOthers (slice_index nodes count) mid new) where
  abbrev x : ℕ
  x = slice_index nodes count

  x_in : slice_index nodes count < length old
  x_in = listed.within count more

  -- the node was not among those before, which are lower
  lower_before : (m : ℕ) → IsAmong nodes count m → slice_index old m < slice_index old (slice_index nodes count)
  lower_before m is = omega (arith, listed.ascending is.place count is.early more, ap (λ z. slice_index old z) is.node_is)

  among_not : (m : ℕ) → IsAmong nodes count m → m ≢ slice_index nodes count
  among_not m is same = omega (arith, lower_before m is, ap (λ z. slice_index old z) same)

  among_in : (m : ℕ) → IsAmong nodes count m → m < length mid
  among_in m is = omega (arith, is.node_is, listed.within is.place (omega (arith, is.early, more)), each.long)

  other_before : (m : ℕ) → IsOther nodes (count + 1) old m → IsOther nodes count old m
  other_before m is = (is.0, λ among. is.1 (more_among nodes count m among))

  other_not : (m : ℕ) → IsOther nodes (count + 1) old m → m ≢ slice_index nodes count
  other_not m is same = is.1 (subst (IsAmong nodes (count + 1)) (sym same) (next_among nodes count))

  other_in : (m : ℕ) → IsOther nodes (count + 1) old m → m < length mid
  other_in m is = omega (arith, is.0, each.long)

  -- the node goes above all that went before it
  keep_more : ((m : ℕ) → IsAmong nodes count m → slice_index new m < slice_index new (slice_index nodes count)) → KeepEach nodes (count + 1) old new
  keep_more over = record {
    long = keeps.count ∙ each.long;
    moved = λ m n m_is n_is less. elim (split_among nodes count m m_is) [
      | inl m_early ↦ elim (split_among nodes count n n_is) [
        | inl n_early ↦ keeps.others m n (among_in m m_early) (among_in n n_early) (among_not m m_early) (among_not n n_early) (each.moved m n m_early n_early less)
        | inr n_last ↦ omega (arith, over m m_early, ap (λ z. slice_index new z) n_last)
      ]
      | inr m_last ↦ elim (split_among nodes count n n_is) [
        | inl n_early ↦ absurd (omega (arith, less, lower_before n n_early, ap (λ z. slice_index old z) m_last))
        | inr n_last ↦ absurd (omega (arith, less, ap (λ z. slice_index old z) (sym m_last ∙ n_last)))
      ]
    ];
    others = λ m n m_is n_is less.
        keeps.others m n (other_in m m_is) (other_in n n_is) (other_not m m_is) (other_not n n_is) (each.others m n (other_before m m_is) (other_before n n_is) less);
  }

-- what is no higher than a mark among the others stays so
still_from : (nodes old mid : List ℕ) (count mark n : ℕ) → AreRanks old → KeepEach nodes count old mid → IsOther nodes count old mark → IsOther nodes count old n
    → slice_index old mark ≤ slice_index old n → slice_index mid mark ≤ slice_index mid n
still_from nodes old mid count mark n ranked each mark_is n_is from = elim (decide_eq (slice_index old mark) (slice_index old n)) [
  | inl same ↦ omega (arith, ap (λ z. slice_index mid z) (ranked.once mark n mark_is.0 n_is.0 same))
  | inr apart ↦ omega (arith, each.others mark n mark_is n_is (omega (arith, from, apart)))
]

module _ (mark : ℕ) (nodes old mid new : List ℕ) (count : ℕ) (fit : FitBelow mark nodes old) (more : count < length nodes) (stand : StandBelow mark nodes count old mid)
    (moves : MovesBelow (slice_index nodes count) mark mid new) where
  mark_other : IsOther nodes count old mark
  mark_other = (fit.marked, λ is. omega (arith, fit.above is.place (omega (arith, is.early, more)), ap (λ z. slice_index old z) is.node_is))

  pub below_more : StandBelow mark nodes (count + 1) old new
  below_more = record {
    each = keep_more nodes old mid new count fit.listed more stand.each moves.keeps (λ m is.
        moves.over m (among_in nodes old mid new count fit.listed more stand.each moves.keeps m is) (among_not nodes old mid new count fit.listed more stand.each moves.keeps m is)
        (stand.up m mark is mark_other (omega arith)));
    up = λ m n m_is n_is from.
        let n_in = other_in nodes old mid new count fit.listed more stand.each moves.keeps n n_is in
        let n_not = other_not nodes old mid new count fit.listed more stand.each moves.keeps n n_is in
        let n_before = other_before nodes old mid new count fit.listed more stand.each moves.keeps n n_is in
        elim (split_among nodes count m m_is) [
          | inl early ↦
              moves.keeps.others m n (among_in nodes old mid new count fit.listed more stand.each moves.keeps m early) n_in
              (among_not nodes old mid new count fit.listed more stand.each moves.keeps m early) n_not (stand.up m n early n_before from)
          | inr last ↦
              omega (
                arith,
                ap (λ z. slice_index new z) last,
                moves.under n n_in n_not (still_from nodes old mid count mark n fit.listed.ranked stand.each mark_other n_before from),
              )
        ];
    down = λ m n m_is n_is less.
        let m_in = other_in nodes old mid new count fit.listed more stand.each moves.keeps m m_is in
        let m_not = other_not nodes old mid new count fit.listed more stand.each moves.keeps m m_is in
        let m_before = other_before nodes old mid new count fit.listed more stand.each moves.keeps m m_is in
        elim (split_among nodes count n n_is) [
          | inl early ↦
              moves.keeps.others m n m_in (among_in nodes old mid new count fit.listed more stand.each moves.keeps n early) m_not
              (among_not nodes old mid new count fit.listed more stand.each moves.keeps n early) (stand.down m n m_before early less)
          | inr last ↦ omega (arith, ap (λ z. slice_index new z) last, moves.over m m_in m_not (stand.each.others m mark m_before mark_other less))
        ];
  }

-- the mark of the next node of a block that goes above a node: the node of the block that went before it, if there is one
pub record IsLastAbove (mark : ℕ) (nodes : List ℕ) (count last : ℕ) : Type 0 where
  pub first : count ≡ 0 → last ≡ mark
  pub later : 0 < count → last ≡ slice_index nodes (count - 1)

module _ (mark : ℕ) (nodes old mid new : List ℕ) (count last : ℕ) (fit : FitAbove mark nodes old) (more : count < length nodes) (stand : StandAbove mark nodes count old mid)
    (is_last : IsLastAbove mark nodes count last) (moves : MovesAbove (slice_index nodes count) last mid new) where
  above_other : IsOther nodes count old mark
  above_other = (fit.marked, λ is. omega (arith, fit.below is.place (omega (arith, is.early, more)), ap (λ z. slice_index old z) is.node_is))

  last_among : 0 < count → IsAmong nodes count last
  last_among some = record { place = count - 1; early = omega (arith, some); node_is = sym (is_last.later some) }

  -- of those that went before, none is above the last
  under_last : (m : ℕ) → IsAmong nodes count m → slice_index mid m ≤ slice_index mid last
  under_last m is =
      let some : 0 < count = omega (arith, is.early) in
      elim (decide_eq is.place (count - 1)) [
        | inl same ↦
            let one : m ≡ last = sym is.node_is ∙ ap (λ k. slice_index nodes k) same ∙ sym (is_last.later some) in
            omega (arith, ap (λ z. slice_index mid z) one)
        | inr other ↦
            let less : slice_index old m < slice_index old last =
            omega (
              arith,
              fit.listed.ascending is.place (count - 1) (omega (arith, is.early, other)) (omega (arith, more)),
              ap (λ z. slice_index old z) is.node_is,
              ap (λ z. slice_index old z) (is_last.later some),
            ) in
            omega (arith, stand.each.moved m last is (last_among some) less)
      ]

  pub above_more : StandAbove mark nodes (count + 1) old new
  above_more = record {
    each = keep_more nodes old mid new count fit.listed more stand.each moves.keeps (λ m is.
        moves.over m (among_in nodes old mid new count fit.listed more stand.each moves.keeps m is) (among_not nodes old mid new count fit.listed more stand.each moves.keeps m is)
        (under_last m is));
    up = λ m n m_is n_is from.
        let n_in = other_in nodes old mid new count fit.listed more stand.each moves.keeps n n_is in
        let n_not = other_not nodes old mid new count fit.listed more stand.each moves.keeps n n_is in
        let n_before = other_before nodes old mid new count fit.listed more stand.each moves.keeps n n_is in
        elim (split_among nodes count m m_is) [
          | inl early ↦
              moves.keeps.others m n (among_in nodes old mid new count fit.listed more stand.each moves.keeps m early) n_in
              (among_not nodes old mid new count fit.listed more stand.each moves.keeps m early) n_not (stand.up m n early n_before from)
          | inr last_is ↦ omega (
            arith,
            ap (λ z. slice_index new z) last_is,
            moves.under n n_in n_not (elim (decide_eq count 0) [
              | inl none ↦ omega (arith, ap (λ z. slice_index mid z) (is_last.first none), stand.each.others mark n above_other n_before from)
              | inr other ↦ stand.up last n (last_among (omega (arith, other))) n_before from
            ]),
          )
        ];
    down = λ m n m_is n_is most.
        let m_in = other_in nodes old mid new count fit.listed more stand.each moves.keeps m m_is in
        let m_not = other_not nodes old mid new count fit.listed more stand.each moves.keeps m m_is in
        let m_before = other_before nodes old mid new count fit.listed more stand.each moves.keeps m m_is in
        elim (split_among nodes count n n_is) [
          | inl early ↦
              moves.keeps.others m n m_in (among_in nodes old mid new count fit.listed more stand.each moves.keeps n early) m_not
              (among_not nodes old mid new count fit.listed more stand.each moves.keeps n early) (stand.down m n m_before early most)
          | inr last_is ↦ omega (
            arith,
            ap (λ z. slice_index new z) last_is,
            moves.over m m_in m_not (elim (decide_eq count 0) [
              | inl none ↦
                  omega (arith, ap (λ z. slice_index mid z) (is_last.first none), still_from nodes old mid count m mark fit.listed.ranked stand.each m_before above_other most)
              | inr other ↦ omega (arith, stand.down m last m_before (last_among (omega (arith, other))) most)
            ]),
          )
        ];
  }

pub last_first : (mark : ℕ) (nodes : List ℕ) → IsLastAbove mark nodes 0 mark
last_first mark nodes = record { first = λ none. refl; later = λ some. absurd (omega (arith, some)) }

pub last_more : (mark : ℕ) (nodes : List ℕ) (count : ℕ) → IsLastAbove mark nodes (count + 1) (slice_index nodes count)
last_more mark nodes count = record { first = λ none. absurd (omega (arith, none)); later = λ some. let same : count ≡ count + 1 - 1 = omega arith in ap (λ k. slice_index nodes k) same }
