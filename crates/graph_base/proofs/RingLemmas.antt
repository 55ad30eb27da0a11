-- A ring after a position was taken out and put in elsewhere is a ring.
use Rattle.std.proofs.Common.{◌≡◌, ℕ, zero, suc, ◌+◌, ◌<◌, ◌≤◌, ◌≢◌, ◌⊎◌, ◌^◌, inl, inr, List, length, refl, sym, ap, ◌∙◌, arith, get_or, get_or-set_same, get_or-set_other}
use Rattle.std.proofs.Math.ListN.{set}
use Rattle.std.proofs.lemmas.Bool.{cases_order}
use Rattle.std.proofs.lemmas.List.{length-set}
use Rattle.std.specs.Prelude.{slice_index, slice_set}
use Rattle.graph_base.specs.Ring.{IsPosition, IsRing, IsRising, LeadBack, lower, relinked_next, relinked_prev}
use Rattle.graph_base.specs.Placing.{FitsBefore}

pub decide_eq : (a b : ℕ) → (a ≡ b) ⊎ (a ≢ b)
decide_eq a b = elim (cases_order a b) [
  | inl one ↦ inl one
  | inr apart ↦ elim apart [
    | inl less ↦ inr (λ same. omega (arith, same, less))
    | inr more ↦ inr (λ same. omega (arith, same, more))
  ]
]

pub lower_of : (labels : List ℕ) (p : ℕ) → 0 < p → lower labels p ≡ slice_index labels p
lower_of labels zero some = absurd (omega (arith, some))
lower_of labels (suc p) some = refl

pub lower_zero : (labels : List ℕ) (p : ℕ) → p ≡ 0 → lower labels p ≡ 0
lower_zero labels zero none = refl
lower_zero labels (suc p) none = absurd (omega (arith, none))

pub lower_le : (labels : List ℕ) (p : ℕ) → lower labels p ≤ slice_index labels p
lower_le labels zero = omega arith
lower_le labels (suc p) = omega arith

pub positive_lower : (labels : List ℕ) (p : ℕ) → 0 < lower labels p → 0 < p
positive_lower labels zero some = absurd (omega (arith, some))
positive_lower labels (suc p) some = omega arith

-- one of three numbers, or none of them
pub data Among (q a b c : ℕ) : Type 0 where
  is_first : q ≡ a → Among q a b c
  is_second : q ≡ b → Among q a b c
  is_third : q ≡ c → Among q a b c
  is_other : q ≢ a → q ≢ b → q ≢ c → Among q a b c

pub among : (q a b c : ℕ) → Among q a b c
among q a b c = elim (decide_eq q a) [
  | inl one ↦ is_first one
  | inr qa ↦ elim (decide_eq q b) [
    | inl one ↦ is_second one
    | inr qb ↦ elim (decide_eq q c) [ inl one ↦ is_third one | inr qc ↦ is_other qa qb qc ]
  ]
]

-- three writes at three places
pub record ThreeSet (xs ys : List ℕ) (a b c x y z : ℕ) : Type 0 where
  pub long : length ys ≡ length xs
  pub first : slice_index ys a ≡ x
  pub second : slice_index ys b ≡ y
  pub third : slice_index ys c ≡ z
  pub others : (q : ℕ) → q ≢ a → q ≢ b → q ≢ c → slice_index ys q ≡ slice_index xs q

pub three_set : (xs : List ℕ) (a b c x y z : ℕ) → a < length xs → b < length xs → c < length xs → a ≢ b → a ≢ c → b ≢ c
    → ThreeSet xs (slice_set (slice_set (slice_set xs a x) b y) c z) a b c x y z
three_set xs a b c x y z a_in b_in c_in ab ac bc =
    let one = slice_set xs a x in
    let two = slice_set one b y in
    let one_long : length (slice_set xs a x) ≡ length xs = length-set xs a x in
    let two_long : length (slice_set (slice_set xs a x) b y) ≡ length xs = length-set one b y ∙ one_long in
    record {
      long = length-set two c z ∙ two_long;
      first = get_or-set_other two c a z 0 ac ∙ get_or-set_other one b a y 0 ab ∙ get_or-set_same xs a x 0 a_in;
      second = get_or-set_other two c b z 0 bc ∙ get_or-set_same one b y 0 (omega (arith, b_in, one_long));
      third = get_or-set_same two c z 0 (omega (arith, c_in, two_long));
      others = λ q qa qb qc. get_or-set_other two c q z 0 qc ∙ get_or-set_other one b q y 0 qb ∙ get_or-set_other xs a q x 0 qa;
    }

module _ (labels next prev : List ℕ) (ring : IsRing labels next prev) where
  abbrev rising : IsRising labels next
  rising = ring.rising

  abbrev back : LeadBack next prev
  back = ring.back

  pub prev_in : (p : ℕ) → p < length labels → slice_index prev p < length labels
  prev_in p p_in = omega (arith, ring.back.within p (omega (arith, p_in, ring.rising.long)), ring.rising.long)

  pub after_prev : (p : ℕ) → p < length labels → slice_index next (slice_index prev p) ≡ p
  after_prev p p_in = ring.back.next_of_prev p (omega (arith, p_in, ring.rising.long))

  pub before_next : (p : ℕ) → p < length labels → slice_index prev (slice_index next p) ≡ p
  before_next p p_in = ring.back.prev_of_next p (omega (arith, p_in, ring.rising.long))

  -- no label is above that of the end
  pub top_most : (p : ℕ) → p < length labels → slice_index labels p ≤ 2 ^ 63
  top_most p p_in = elim (decide_eq p 0) [
    | inl is ↦ omega (arith, ap (λ z. slice_index labels z) is, ring.rising.top)
    | inr other ↦ omega (arith, ring.rising.below p (omega (arith, other)) p_in)
  ]

  -- what comes before a position is lower
  pub prev_less : (p : ℕ) → p < length labels → lower labels (slice_index prev p) < slice_index labels p
  prev_less p p_in = omega (arith, ring.rising.up (slice_index prev p) (prev_in p p_in), ap (λ z. slice_index labels z) (after_prev p p_in))

  -- and nothing between is lower than the position
  pub prev_most : (p q : ℕ) → p < length labels → q < length labels → slice_index labels q < slice_index labels p → slice_index labels q ≤ lower labels (slice_index prev p)
  prev_most p q p_in q_in less = elim (cases_order (slice_index labels q) (lower labels (slice_index prev p))) [
    | inl one ↦ omega (arith, one)
    | inr apart ↦ elim apart [
      | inl under ↦ omega (arith, under)
      | inr over ↦ omega (arith, less, ring.rising.least (slice_index prev p) q (prev_in p p_in) q_in over, ap (λ z. slice_index labels z) (after_prev p p_in))
    ]
  ]

  module _ (x m l : ℕ) (fits : FitsBefore labels prev x m l) where
    -- a, b: what was around the node; p: what comes before the mark
    abbrev a : ℕ
    a = slice_index prev x

    abbrev b : ℕ
    b = slice_index next x

    abbrev p : ℕ
    p = slice_index prev m

    abbrev labels' : List ℕ
    labels' = slice_set labels x l

    x_in : x < length labels
    x_in = fits.stands.1

    x_pos : 0 < x
    x_pos = fits.stands.0

    m_in : m < length labels
    m_in = fits.marked

    a_in : slice_index prev x < length labels
    a_in = prev_in x x_in

    b_in : slice_index next x < length labels
    b_in = ring.rising.within x x_in

    p_in : slice_index prev m < length labels
    p_in = prev_in m m_in

    x_up : slice_index labels x < slice_index labels (slice_index next x)
    x_up = omega (arith, ring.rising.up x x_in, lower_of labels x x_pos)

    a_less : lower labels (slice_index prev x) < slice_index labels x
    a_less = prev_less x x_in

    ax : slice_index prev x ≢ x
    ax same = omega (arith, a_less, ap (λ z. lower labels z) same, lower_of labels x x_pos)

    bx : slice_index next x ≢ x
    bx same = omega (arith, x_up, ap (λ z. slice_index labels z) same)

    px : slice_index prev m ≢ x
    px = fits.elsewhere

    mx : m ≢ x
    mx = fits.apart

    ap' : slice_index prev x ≢ slice_index prev m
    ap' same = fits.apart (sym (after_prev m m_in) ∙ ap (λ z. slice_index next z) (sym same) ∙ after_prev x x_in)

    bm : slice_index next x ≢ m
    bm same = fits.elsewhere (ap (λ z. slice_index prev z) (sym same) ∙ before_next x x_in)

    nexts : ThreeSet next (relinked_next next prev x m) (slice_index prev x) (slice_index prev m) x (slice_index next x) x m
    nexts = three_set next a p x b x m (omega (arith, a_in, ring.rising.long)) (omega (arith, p_in, ring.rising.long)) (omega (arith, x_in, ring.rising.long)) ap' ax px

    prevs : ThreeSet prev (relinked_prev next prev x m) (slice_index next x) m x (slice_index prev x) x (slice_index prev m)
    prevs = three_set prev b m x a x p (omega (arith, b_in, ring.rising.long, ring.back.long)) (omega (arith, m_in, ring.rising.long, ring.back.long))
        (omega (arith, x_in, ring.rising.long, ring.back.long)) bm bx mx

    label_x : slice_index (slice_set labels x l) x ≡ l
    label_x = get_or-set_same labels x l 0 x_in

    label_other : (q : ℕ) → q ≢ x → slice_index (slice_set labels x l) q ≡ slice_index labels q
    label_other q other = get_or-set_other labels x q l 0 other

    lower_x : lower (slice_set labels x l) x ≡ l
    lower_x = lower_of labels' x x_pos ∙ label_x

    lower_other : (q : ℕ) → q ≢ x → lower (slice_set labels x l) q ≡ lower labels q
    lower_other zero other = refl
    lower_other (suc q) other = label_other (suc q) other

    -- the label is none of the others'
    new_label : (q : ℕ) → q < length labels → q ≢ x → slice_index labels q ≢ l
    new_label q q_in other same = omega (arith, same, fits.above, fits.below, prev_most m q m_in q_in (omega (arith, same, fits.below)))

    -- of a position that is not around the node, neither is what follows it the node
    next_not : (q : ℕ) → q < length labels → q ≢ slice_index prev x → slice_index next q ≢ x
    next_not q q_in other same = other (sym (before_next q q_in) ∙ ap (λ z. slice_index prev z) same)

    prev_not : (q : ℕ) → q < length labels → q ≢ slice_index next x → slice_index prev q ≢ x
    prev_not q q_in other same = other (sym (after_prev q q_in) ∙ ap (λ z. slice_index next z) same)

    abbrev next' : List ℕ
    next' = relinked_next next prev x m

    abbrev prev' : List ℕ
    prev' = relinked_prev next prev x m

    same_long : length (slice_set labels x l) ≡ length labels
    same_long = length-set labels x l

    -- what follows a position then
    next_first : (q : ℕ) → q ≡ slice_index prev x → slice_index (relinked_next next prev x m) q ≡ slice_index next x
    next_first q is = ap (λ z. slice_index next' z) is ∙ nexts.first

    next_second : (q : ℕ) → q ≡ slice_index prev m → slice_index (relinked_next next prev x m) q ≡ x
    next_second q is = ap (λ z. slice_index next' z) is ∙ nexts.second

    next_third : (q : ℕ) → q ≡ x → slice_index (relinked_next next prev x m) q ≡ m
    next_third q is = ap (λ z. slice_index next' z) is ∙ nexts.third

    prev_first : (q : ℕ) → q ≡ slice_index next x → slice_index (relinked_prev next prev x m) q ≡ slice_index prev x
    prev_first q is = ap (λ z. slice_index prev' z) is ∙ prevs.first

    prev_second : (q : ℕ) → q ≡ m → slice_index (relinked_prev next prev x m) q ≡ x
    prev_second q is = ap (λ z. slice_index prev' z) is ∙ prevs.second

    prev_third : (q : ℕ) → q ≡ x → slice_index (relinked_prev next prev x m) q ≡ slice_index prev m
    prev_third q is = ap (λ z. slice_index prev' z) is ∙ prevs.third

    next_within : (q : ℕ) → q < length labels → slice_index (relinked_next next prev x m) q < length labels
    next_within q q_in = elim (among q (slice_index prev x) (slice_index prev m) x) [
      | is_first is ↦ omega (arith, next_first q is, b_in)
      | is_second is ↦ omega (arith, next_second q is, x_in)
      | is_third is ↦ omega (arith, next_third q is, m_in)
      | is_other qa qp qx ↦ omega (arith, nexts.others q qa qp qx, ring.rising.within q q_in)
    ]

    prev_within : (q : ℕ) → q < length labels → slice_index (relinked_prev next prev x m) q < length labels
    prev_within q q_in = elim (among q (slice_index next x) m x) [
      | is_first is ↦ omega (arith, prev_first q is, a_in)
      | is_second is ↦ omega (arith, prev_second q is, x_in)
      | is_third is ↦ omega (arith, prev_third q is, p_in)
      | is_other qb qm qx ↦ omega (arith, prevs.others q qb qm qx, prev_in q q_in)
    ]

    -- the label of what follows then, where that is not the node
    label_after : (q r : ℕ) → slice_index (relinked_next next prev x m) q ≡ r → r ≢ x → slice_index (slice_set labels x l) (slice_index (relinked_next next prev x m) q) ≡ slice_index labels r
    label_after q r is other = ap (λ z. slice_index labels' z) is ∙ label_other r other

    label_after_last : (q : ℕ) → q ≡ slice_index prev m → slice_index (slice_set labels x l) (slice_index (relinked_next next prev x m) q) ≡ l
    label_after_last q is = ap (λ z. slice_index labels' z) (next_second q is) ∙ label_x

    moved_up : (q : ℕ) → q < length labels → lower (slice_set labels x l) q < slice_index (slice_set labels x l) (slice_index (relinked_next next prev x m) q)
    moved_up q q_in = elim (among q (slice_index prev x) (slice_index prev m) x) [
      | is_first is ↦
          omega (arith, label_after q b (next_first q is) bx, ap (λ z. lower labels' z) is, lower_other a ax, a_less, x_up)
      | is_second is ↦
          omega (arith, label_after_last q is, ap (λ z. lower labels' z) is, lower_other p px, fits.above)
      | is_third is ↦
          omega (arith, label_after q m (next_third q is) mx, ap (λ z. lower labels' z) is, lower_x, fits.below)
      | is_other qa qp qx ↦
          omega (arith, label_after q (slice_index next q) (nexts.others q qa qp qx) (next_not q q_in qa), lower_other q qx, ring.rising.up q q_in)
    ]

    -- a label below the new one is no higher than that of what comes before the mark
    under_new : (q : ℕ) → q < length labels → lower labels q < l → lower labels q ≤ lower labels (slice_index prev m)
    under_new zero q_in less = omega arith
    under_new (suc q) q_in less = prev_most m (suc q) m_in q_in (omega (arith, less, fits.below))

    -- two positions seen from what follows them are one where they are level
    lower_once : (q r : ℕ) → q < length labels → r < length labels → lower labels q ≡ lower labels r → q ≡ r
    lower_once zero zero q_in r_in same = refl
    lower_once zero (suc r) q_in r_in same = absurd (omega (arith, same, ring.rising.positive (suc r) r_in))
    lower_once (suc q) zero q_in r_in same = absurd (omega (arith, same, ring.rising.positive (suc q) q_in))
    lower_once (suc q) (suc r) q_in r_in same = ring.rising.once (suc q) (suc r) q_in r_in same

    -- seen from a position that is lower than the new label and not what comes before the mark, what follows is no higher than that
    under_last : (q : ℕ) → q < length labels → q ≢ slice_index prev m → lower labels q < l → slice_index labels (slice_index next q) ≤ lower labels (slice_index prev m)
    under_last q q_in other less = elim (decide_eq (lower labels q) (lower labels p)) [
      | inl same ↦ absurd (other (lower_once q p q_in p_in same))
      | inr apart ↦
          let strictly : lower labels q < lower labels (slice_index prev m) = omega (arith, apart, under_new q q_in less) in
          let some : 0 < slice_index prev m = positive_lower labels p (omega (arith, strictly)) in
          let level = lower_of labels p some in
          omega (arith, level, ring.rising.least q p q_in p_in (omega (arith, strictly, level)))
    ]

    -- past the node and its old label
    past_node : (r : ℕ) → r < length labels → r ≢ x → lower labels (slice_index prev x) < slice_index labels r → slice_index labels (slice_index next x) ≤ slice_index labels r
    past_node r r_in other less =
        let from : slice_index labels x ≤ slice_index labels r = omega (arith, ring.rising.least a r a_in r_in less, ap (λ z. slice_index labels z) (after_prev x x_in)) in
        elim (decide_eq (slice_index labels x) (slice_index labels r)) [
          | inl same ↦ absurd (other (sym (ring.rising.once x r x_in r_in same)))
          | inr apart ↦ ring.rising.least x r x_in r_in (omega (arith, from, apart, lower_of labels x x_pos))
        ]

    -- the least label above that of each position is that of what follows it then
    moved_least_other : (q r : ℕ) → q < length labels → r < length labels → r ≢ x → lower (slice_set labels x l) q < slice_index labels r
        → slice_index (slice_set labels x l) (slice_index (relinked_next next prev x m) q) ≤ slice_index labels r
    moved_least_other q r q_in r_in other less = elim (among q (slice_index prev x) (slice_index prev m) x) [
      | is_first is ↦
          omega (arith, label_after q b (next_first q is) bx, past_node r r_in other (omega (arith, less, ap (λ z. lower labels' z) is, lower_other a ax)))
      | is_second is ↦
          let far = ring.rising.least p r p_in r_in (omega (arith, less, ap (λ z. lower labels' z) is, lower_other p px)) in
          omega (arith, label_after_last q is, far, ap (λ z. slice_index labels z) (after_prev m m_in), fits.below)
      | is_third is ↦
          let far = ring.rising.least p r p_in r_in (omega (arith, less, ap (λ z. lower labels' z) is, lower_x, fits.above)) in
          omega (arith, label_after q m (next_third q is) mx, far, ap (λ z. slice_index labels z) (after_prev m m_in))
      | is_other qa qp qx ↦
          omega (arith, label_after q (slice_index next q) (nexts.others q qa qp qx) (next_not q q_in qa), ring.rising.least q r q_in r_in (omega (arith, less, lower_other q qx)))
    ]

    moved_least_node : (q : ℕ) → q < length labels → lower (slice_set labels x l) q < l
        → slice_index (slice_set labels x l) (slice_index (relinked_next next prev x m) q) ≤ l
    moved_least_node q q_in less = elim (among q (slice_index prev x) (slice_index prev m) x) [
      | is_first is ↦
          let to_x = under_last a a_in ap' (omega (arith, less, ap (λ z. lower labels' z) is, lower_other a ax)) in
          let level : slice_index labels x ≤ lower labels (slice_index prev m) = omega (arith, to_x, ap (λ z. slice_index labels z) (after_prev x x_in)) in
          let further = under_last x x_in (λ same. px (sym same)) (omega (arith, level, lower_of labels x x_pos, fits.above)) in
          omega (arith, label_after q b (next_first q is) bx, further, fits.above)
      | is_second is ↦ omega (arith, label_after_last q is)
      | is_third is ↦ absurd (omega (arith, less, ap (λ z. lower labels' z) is, lower_x))
      | is_other qa qp qx ↦
          omega (
            arith,
            label_after q (slice_index next q) (nexts.others q qa qp qx) (next_not q q_in qa),
            under_last q q_in qp (omega (arith, less, lower_other q qx)),
            fits.above,
          )
    ]

    moved_rising : IsRising (slice_set labels x l) (relinked_next next prev x m)
    moved_rising = record {
      short = omega (arith, same_long, ring.rising.short);
      long = nexts.long ∙ ring.rising.long ∙ sym same_long;
      some = omega (arith, same_long, ring.rising.some);
      top = label_other 0 (λ same. omega (arith, same, x_pos)) ∙ ring.rising.top;
      below = λ q some q_in. elim (decide_eq q x) [
        | inl is ↦ omega (arith, ap (λ z. slice_index labels' z) is, label_x, fits.below, top_most m m_in)
        | inr other ↦ omega (arith, label_other q other, ring.rising.below q some (omega (arith, q_in, same_long)))
      ];
      positive = λ q q_in. elim (decide_eq q x) [
        | inl is ↦ omega (arith, ap (λ z. slice_index labels' z) is, label_x, fits.above)
        | inr other ↦ omega (arith, label_other q other, ring.rising.positive q (omega (arith, q_in, same_long)))
      ];
      once = λ q r q_in r_in same. elim (decide_eq q x) [
        | inl q_is ↦ elim (decide_eq r x) [
          | inl r_is ↦ q_is ∙ sym r_is
          | inr r_not ↦ absurd (new_label r (omega (arith, r_in, same_long)) r_not (omega (arith, same, label_other r r_not, ap (λ z. slice_index labels' z) q_is, label_x)))
        ]
        | inr q_not ↦ elim (decide_eq r x) [
          | inl r_is ↦ absurd (new_label q (omega (arith, q_in, same_long)) q_not (omega (arith, same, label_other q q_not, ap (λ z. slice_index labels' z) r_is, label_x)))
          | inr r_not ↦
              ring.rising.once q r (omega (arith, q_in, same_long)) (omega (arith, r_in, same_long)) (omega (arith, same, label_other q q_not, label_other r r_not))
        ]
      ];
      within = λ q q_in. omega (arith, same_long, next_within q (omega (arith, q_in, same_long)));
      up = λ q q_in. moved_up q (omega (arith, q_in, same_long));
      least = λ q r q_in r_in less. elim (decide_eq r x) [
        | inl is ↦
            let at = ap (λ z. slice_index labels' z) is in
            omega (arith, at, label_x, moved_least_node q (omega (arith, q_in, same_long)) (omega (arith, less, at, label_x)))
        | inr other ↦
            omega (
              arith,
              label_other r other,
              moved_least_other q r (omega (arith, q_in, same_long)) (omega (arith, r_in, same_long)) other (omega (arith, less, label_other r other)),
            )
      ];
    }

    moved_back : LeadBack (relinked_next next prev x m) (relinked_prev next prev x m)
    moved_back = record {
      long = prevs.long ∙ ring.back.long ∙ sym nexts.long;
      within = λ q q_in. omega (arith, nexts.long, ring.rising.long, prev_within q (omega (arith, q_in, nexts.long, ring.rising.long)));
      next_of_prev = λ q q_there.
          let q_in : q < length labels = omega (arith, q_there, nexts.long, ring.rising.long) in
          elim (among q (slice_index next x) m x) [
            | is_first is ↦ ap (λ z. slice_index next' z) (prev_first q is) ∙ nexts.first ∙ sym is
            | is_second is ↦ ap (λ z. slice_index next' z) (prev_second q is) ∙ nexts.third ∙ sym is
            | is_third is ↦ ap (λ z. slice_index next' z) (prev_third q is) ∙ nexts.second ∙ sym is
            | is_other qb qm qx ↦
                let same = prevs.others q qb qm qx in
                let not_a : slice_index prev q ≢ slice_index prev x = λ one. qx (sym (after_prev q q_in) ∙ ap (λ z. slice_index next z) one ∙ after_prev x x_in) in
                let not_p : slice_index prev q ≢ slice_index prev m = λ one. qm (sym (after_prev q q_in) ∙ ap (λ z. slice_index next z) one ∙ after_prev m m_in) in
                ap (λ z. slice_index next' z) same ∙ nexts.others (slice_index prev q) not_a not_p (prev_not q q_in qb) ∙ after_prev q q_in
          ];
      prev_of_next = λ q q_there.
          let q_in : q < length labels = omega (arith, q_there, nexts.long, ring.rising.long) in
          elim (among q (slice_index prev x) (slice_index prev m) x) [
            | is_first is ↦ ap (λ z. slice_index prev' z) (next_first q is) ∙ prevs.first ∙ sym is
            | is_second is ↦ ap (λ z. slice_index prev' z) (next_second q is) ∙ prevs.third ∙ sym is
            | is_third is ↦ ap (λ z. slice_index prev' z) (next_third q is) ∙ prevs.second ∙ sym is
            | is_other qa qp qx ↦
                let same = nexts.others q qa qp qx in
                let not_b : slice_index next q ≢ slice_index next x = λ one. qx (sym (before_next q q_in) ∙ ap (λ z. slice_index prev z) one ∙ before_next x x_in) in
                let not_m : slice_index next q ≢ m = λ one. qp (sym (before_next q q_in) ∙ ap (λ z. slice_index prev z) one) in
                ap (λ z. slice_index prev' z) same ∙ prevs.others (slice_index next q) not_b not_m (next_not q q_in qa) ∙ before_next q q_in
          ];
    }

    pub moved_ring : IsRing (slice_set labels x l) (relinked_next next prev x m) (relinked_prev next prev x m)
    moved_ring = record { rising = moved_rising; back = moved_back }
