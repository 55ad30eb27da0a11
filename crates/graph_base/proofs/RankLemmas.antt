-- Ranks: how many labels are below that of a node. They are ordered as the labels are.
use Rattle.std.proofs.Common.{◌≡◌, ℕ, zero, suc, ◌+◌, ◌-◌, ◌<◌, ◌≤◌, ◌≢◌, ◌⊎◌, ◌^◌, inl, inr, Bool, true, false, cond, List, [], ◌∷◌, drop, length, map, refl, sym, ap, ◌∙◌, arith, get_or, subst}
use Rattle.std.specs.Prelude.{nat_lt, slice_index}
use Rattle.std.specs.List.{count_by}
use Rattle.std.proofs.lemmas.Bool.{cases_lt, cases_order, le-ltb, lt-ltb}
use Rattle.std.proofs.lemmas.Grind.{get_or_after_one, same_number_lists}
use Rattle.std.proofs.lemmas.List.{get_or-map, get_or_default, length-drop, length-map}
use Rattle.std.proofs.lemmas.List.Sums.{count_by-le-length, sum_by-cons}
use Rattle.std.specs.List.Sorted.{IsNonDecreasingBy, IsPermutation}
use Rattle.std.proofs.lemmas.List.Sorted.{Contains-permutation, IsPermutation-sym}
use Rattle.graph_base.specs.Listing.{AreAscending, IsLowest}
use Rattle.graph_base.specs.Placing.{PutsBefore}
use Rattle.graph_base.specs.Ranks.{AreRanks, IsHighest, IsNextAbove, KeepsOthers, MovesAbove, MovesBelow, labels_below, ranks_of}
use Rattle.graph_base.specs.Ring.{IsPosition, IsRing, IsRising}
use Rattle.graph_base.specs.Spreading.{KeepsOrder}
use Rattle.graph_base.proofs.KeepingLemmas.{keeps_back}
use Rattle.graph_base.proofs.RingLemmas.{decide_eq, lower_of}

pub lt_yes : (a b : ℕ) → a < b → nat_lt a b ≡ true
lt_yes a b less = lt-ltb a b less

pub lt_no : (a b : ℕ) → b ≤ a → nat_lt a b ≡ false
lt_no a b from = le-ltb a b from

-- ---- counts

pub count_cons : {X : Type 0} (p : X → Bool) (x : X) (xs : List X) → count_by p (x ∷ xs) ≡ cond (p x) 1 0 + count_by p xs
count_cons p x xs = sum_by-cons (λ y. cond (p y) 1 0) x xs

-- a lower bound passes no more
one_le : (x a b : ℕ) → a ≤ b → ◌≤◌ (cond (nat_lt x a) 1 0) (cond (nat_lt x b) 1 0)
one_le x a b most = elim (cases_order x a) [
  | inl same ↦ let none : ◌≡◌ {A = ℕ} (cond (nat_lt x a) 1 0) 0 = ap (λ t. cond t 1 0) (lt_no x a (omega (arith, same))) in omega (arith, none)
  | inr apart ↦ elim apart [
    | inl less ↦
        let one : ◌≡◌ {A = ℕ} (cond (nat_lt x a) 1 0) 1 = ap (λ t. cond t 1 0) (lt_yes x a less) in
        let other : ◌≡◌ {A = ℕ} (cond (nat_lt x b) 1 0) 1 = ap (λ t. cond t 1 0) (lt_yes x b (omega (arith, less, most))) in
        omega (arith, one, other)
    | inr more ↦ let none : ◌≡◌ {A = ℕ} (cond (nat_lt x a) 1 0) 0 = ap (λ t. cond t 1 0) (lt_no x a (omega (arith, more))) in omega (arith, none)
  ]
]

pub below_le : (xs : List ℕ) (a b : ℕ) → a ≤ b → labels_below xs a ≤ labels_below xs b
below_le [] a b most = omega arith
below_le (x ∷ xs) a b most =
    let rest : count_by (λ l. nat_lt l a) xs ≤ count_by (λ l. nat_lt l b) xs = below_le xs a b most in
    let all : count_by (λ l. nat_lt l a) (x ∷ xs) ≤ count_by (λ l. nat_lt l b) (x ∷ xs) =
    omega (arith, rest, one_le x a b most, count_cons (λ l. nat_lt l a) x xs, count_cons (λ l. nat_lt l b) x xs) in
    all

-- a label that is there counts
pub below_less : (xs : List ℕ) (k b : ℕ) → k < length xs → get_or xs k 0 < b → labels_below xs (get_or xs k 0) < labels_below xs b
below_less [] k b within less = absurd (omega (arith, within))
below_less (x ∷ xs) zero b within less =
    let rest : count_by (λ l. nat_lt l x) xs ≤ count_by (λ l. nat_lt l b) xs = below_le xs x b (omega (arith, less)) in
    let none : ◌≡◌ {A = ℕ} (cond (nat_lt x x) 1 0) 0 = ap (λ t. cond t 1 0) (lt_no x x (omega arith)) in
    let one : ◌≡◌ {A = ℕ} (cond (nat_lt x b) 1 0) 1 = ap (λ t. cond t 1 0) (lt_yes x b less) in
    let all : count_by (λ l. nat_lt l x) (x ∷ xs) < count_by (λ l. nat_lt l b) (x ∷ xs) =
    omega (arith, rest, none, one, count_cons (λ l. nat_lt l x) x xs, count_cons (λ l. nat_lt l b) x xs) in
    all
below_less (x ∷ xs) (suc k) b within less =
    let a = get_or xs k 0 in
    let rest : count_by (λ l. nat_lt l (get_or xs k 0)) xs < count_by (λ l. nat_lt l b) xs = below_less xs k b (omega (arith, within)) less in
    let first : ◌≤◌ (cond (nat_lt x (get_or xs k 0)) 1 0) (cond (nat_lt x b) 1 0) = one_le x a b (omega (arith, less)) in
    let all : count_by (λ l. nat_lt l (get_or xs k 0)) (x ∷ xs) < count_by (λ l. nat_lt l b) (x ∷ xs) =
    omega (arith, rest, first, count_cons (λ l. nat_lt l (get_or xs k 0)) x xs, count_cons (λ l. nat_lt l b) x xs) in
    all

-- no label is below itself
pub below_self : (xs : List ℕ) (k : ℕ) → k < length xs → labels_below xs (get_or xs k 0) < length xs
below_self xs k within =
    let a = get_or xs k 0 in
    omega (arith, below_less xs k (a + 1) within (omega arith), count_by-le-length (λ l. nat_lt l (a + 1)) xs)

-- as many pass two tests that agree place by place
pub same_count : (p q : ℕ → Bool) (xs ys : List ℕ) → length xs ≡ length ys → ((k : ℕ) → k < length xs → p (get_or xs k 0) ≡ q (get_or ys k 0)) → count_by p xs ≡ count_by q ys
same_count p q [] [] long same = refl
same_count p q [] (y ∷ ys) long same = absurd (omega (arith, long))
same_count p q (x ∷ xs) [] long same = absurd (omega (arith, long))
same_count p q (x ∷ xs) (y ∷ ys) long same =
    let first : ◌≡◌ {A = ℕ} (cond (p x) 1 0) (cond (q y) 1 0) = ap (λ t. cond t 1 0) (same 0 (omega arith)) in
    let rest = same_count p q xs ys (omega (arith, long)) (λ k below. same (suc k) (omega (arith, below))) in
    omega (arith, first, rest, count_cons p x xs, count_cons q y ys)

-- ---- the ranks of nodes

pub length-ranks : (labels : List ℕ) → length (ranks_of labels) ≡ length labels - 1
length-ranks labels = length-map (drop 1 labels) (labels_below labels) ∙ length-drop 1 labels

pub rank_at : (labels : List ℕ) (n : ℕ) → n + 1 < length labels → slice_index (ranks_of labels) n ≡ labels_below labels (slice_index labels (n + 1))
rank_at labels n there =
    let within : n < length (drop 1 labels) = omega (arith, there, length-drop 1 labels) in
    let place : get_or labels (1 + n) 0 ≡ get_or labels (n + 1) 0 = ap (λ k. get_or labels k 0) (omega arith) in
    get_or-map (labels_below labels) (drop 1 labels) n 0 0 within ∙ ap (labels_below labels) (get_or_after_one labels n 0 ∙ place)

module _ (labels next : List ℕ) (rising : IsRising labels next) where
  pub node_in : (n : ℕ) → n < length (ranks_of labels) → n + 1 < length labels
  node_in n there = omega (arith, there, length-ranks labels, rising.some)

  pub node_there : (n : ℕ) → n + 1 < length labels → n < length (ranks_of labels)
  node_there n there = omega (arith, there, length-ranks labels, rising.some)

  pub rank_less : (m n : ℕ) → m + 1 < length labels → n + 1 < length labels → slice_index labels (m + 1) < slice_index labels (n + 1)
      → slice_index (ranks_of labels) m < slice_index (ranks_of labels) n
  rank_less m n m_in n_in less =
      omega (arith, rank_at labels m m_in, rank_at labels n n_in, below_less labels (m + 1) (slice_index labels (n + 1)) m_in less)

  pub rank_le : (m n : ℕ) → m + 1 < length labels → n + 1 < length labels → slice_index labels (m + 1) ≤ slice_index labels (n + 1)
      → slice_index (ranks_of labels) m ≤ slice_index (ranks_of labels) n
  rank_le m n m_in n_in most =
      omega (arith, rank_at labels m m_in, rank_at labels n n_in, below_le labels (slice_index labels (m + 1)) (slice_index labels (n + 1)) most)

  pub label_less : (m n : ℕ) → m + 1 < length labels → n + 1 < length labels → slice_index (ranks_of labels) m < slice_index (ranks_of labels) n
      → slice_index labels (m + 1) < slice_index labels (n + 1)
  label_less m n m_in n_in less = elim (cases_order (slice_index labels (m + 1)) (slice_index labels (n + 1))) [
    | inl same ↦ absurd (omega (arith, less, rank_le n m n_in m_in (omega (arith, same))))
    | inr apart ↦ elim apart [ inl under ↦ under | inr over ↦ absurd (omega (arith, less, rank_less n m n_in m_in over)) ]
  ]

  pub label_le : (m n : ℕ) → m + 1 < length labels → n + 1 < length labels → slice_index (ranks_of labels) m ≤ slice_index (ranks_of labels) n
      → slice_index labels (m + 1) ≤ slice_index labels (n + 1)
  label_le m n m_in n_in most = elim (cases_order (slice_index labels (m + 1)) (slice_index labels (n + 1))) [
    | inl same ↦ omega (arith, same)
    | inr apart ↦ elim apart [ inl under ↦ omega (arith, under) | inr over ↦ absurd (omega (arith, most, rank_less n m n_in m_in over)) ]
  ]

  -- as many labels are below the end as there are nodes
  pub below_top : labels_below labels (slice_index labels 0) < length labels
  below_top = by labels rising.some
    where
      by : (xs : List ℕ) → 0 < length xs → labels_below xs (slice_index xs 0) < length xs
      by [] some = absurd (omega (arith, some))
      by (x ∷ xs) some =
          let none : ◌≡◌ {A = ℕ} (cond (nat_lt x x) 1 0) 0 = ap (λ t. cond t 1 0) (lt_no x x (omega arith)) in
          let all : count_by (λ l. nat_lt l x) (x ∷ xs) < length (x ∷ xs) =
          omega (arith, none, count_cons (λ l. nat_lt l x) x xs, count_by-le-length (λ l. nat_lt l x) xs) in
          all

  pub are_ranks : AreRanks (ranks_of labels)
  are_ranks = record {
    within = λ n there.
        let n_in = node_in n there in
        let under : slice_index labels (n + 1) < slice_index labels 0 = omega (arith, rising.top, rising.below (n + 1) (omega arith) n_in) in
        omega (arith, rank_at labels n n_in, below_less labels (n + 1) (slice_index labels 0) n_in under, below_top, length-ranks labels);
    once = λ m n m_there n_there same.
        let m_in = node_in m m_there in
        let n_in = node_in n n_there in
        elim (cases_order (slice_index labels (m + 1)) (slice_index labels (n + 1))) [
          | inl one ↦ let place : m + 1 ≡ n + 1 = rising.once (m + 1) (n + 1) m_in n_in one in omega (arith, place)
          | inr apart ↦ elim apart [
            | inl less ↦ absurd (omega (arith, same, rank_less m n m_in n_in less))
            | inr more ↦ absurd (omega (arith, same, rank_less n m n_in m_in more))
          ]
        ];
  }

-- ---- what happens to ranks

-- labels in the same order give the same ranks
pub same_ranks : (old next new : List ℕ) → IsRising old next → KeepsOrder old new → ranks_of new ≡ ranks_of old
same_ranks old next new rising keeps =
    let long : length (ranks_of new) ≡ length (ranks_of old) = omega (arith, length-ranks new, length-ranks old, keeps.long) in
    same_number_lists (ranks_of new) (ranks_of old) long (λ n there.
    let n_in : n + 1 < length old = omega (arith, there, length-ranks new, keeps.long) in
    let n_new : n + 1 < length new = omega (arith, n_in, keeps.long) in
    rank_at new n n_new
    ∙ same_count (λ l. nat_lt l (slice_index new (n + 1))) (λ l. nat_lt l (slice_index old (n + 1))) new old keeps.long (λ k below.
    let k_in : k < length old = omega (arith, below, keeps.long) in
    elim (cases_order (slice_index old k) (slice_index old (n + 1))) [
      | inl same ↦
          let one = ap (λ z. slice_index new z) (rising.once k (n + 1) k_in n_in same) in
          lt_no (slice_index new k) (slice_index new (n + 1)) (omega (arith, one)) ∙ sym (lt_no (slice_index old k) (slice_index old (n + 1)) (omega (arith, same)))
      | inr apart ↦ elim apart [
        | inl less ↦ lt_yes (slice_index new k) (slice_index new (n + 1)) (keeps.less k (n + 1) k_in n_in less) ∙ sym (lt_yes (slice_index old k) (slice_index old (n + 1)) less)
        | inr more ↦
            lt_no (slice_index new k) (slice_index new (n + 1)) (omega (arith, keeps.less (n + 1) k n_in k_in more))
            ∙ sym (lt_no (slice_index old k) (slice_index old (n + 1)) (omega (arith, more)))
      ]
    ]) ∙ sym (rank_at old n n_in))

-- what follows a node is the next higher
pub up_from : (labels next : List ℕ) → IsRising labels next → (n : ℕ) → n + 1 < length labels → slice_index labels (n + 1) < slice_index labels (slice_index next (n + 1))
up_from labels next rising n n_in = omega (arith, rising.up (n + 1) n_in, lower_of labels (n + 1) (omega arith))

pub least_from : (labels next : List ℕ) → IsRising labels next → (m n : ℕ) → m + 1 < length labels → n + 1 < length labels → slice_index labels (m + 1) < slice_index labels (n + 1)
    → slice_index labels (slice_index next (m + 1)) ≤ slice_index labels (n + 1)
least_from labels next rising m n m_in n_in less = rising.least (m + 1) (n + 1) m_in n_in (omega (arith, less, lower_of labels (m + 1) (omega arith)))

not_next : (m n : ℕ) → m ≢ n → m + 1 ≢ n + 1
not_next m n other same = other (omega (arith, same))

module _ (old next new next' : List ℕ) (old_is : IsRising old next) (new_is : IsRising new next') where
  keeps_others : (node mark : ℕ) → PutsBefore (node + 1) mark old new → KeepsOthers node (ranks_of old) (ranks_of new)
  keeps_others node mark puts = record {
    count = omega (arith, length-ranks new, length-ranks old, puts.long);
    others = λ m n m_there n_there m_not n_not less.
        let m_in = node_in old next old_is m m_there in
        let n_in = node_in old next old_is n n_there in
        rank_less new next' new_is m n (omega (arith, m_in, puts.long)) (omega (arith, n_in, puts.long))
        (puts.others (m + 1) (n + 1) m_in n_in (not_next m node m_not) (not_next n node n_not) (label_less old next old_is m n m_in n_in less));
  }

  pub moves_below : (node mark : ℕ) → node < length (ranks_of old) → mark < length (ranks_of old) → PutsBefore (node + 1) (mark + 1) old new
      → MovesBelow node mark (ranks_of old) (ranks_of new)
  moves_below node mark node_there mark_there puts =
      let node_in' = node_in old next old_is node node_there in
      let mark_in' = node_in old next old_is mark mark_there in
      record {
        keeps = keeps_others node (mark + 1) puts;
        over = λ n there other less.
            let n_in = node_in old next old_is n there in
            rank_less new next' new_is n node (omega (arith, n_in, puts.long)) (omega (arith, node_in', puts.long))
            (puts.over (n + 1) (omega arith, n_in) (not_next n node other) (label_less old next old_is n mark n_in mark_in' less));
        under = λ n there other from.
            let n_in = node_in old next old_is n there in
            rank_less new next' new_is node n (omega (arith, node_in', puts.long)) (omega (arith, n_in, puts.long))
            (puts.under (n + 1) n_in (not_next n node other) (label_le old next old_is mark n mark_in' n_in from));
      }

  -- before what follows a node is directly above it
  pub moves_above : (node mark : ℕ) → node < length (ranks_of old) → mark < length (ranks_of old) → PutsBefore (node + 1) (slice_index next (mark + 1)) old new
      → MovesAbove node mark (ranks_of old) (ranks_of new)
  moves_above node mark node_there mark_there puts =
      let node_in' = node_in old next old_is node node_there in
      let mark_in' = node_in old next old_is mark mark_there in
      let up : slice_index old (mark + 1) < slice_index old (slice_index next (mark + 1)) = up_from old next old_is mark mark_in' in
      record {
        keeps = keeps_others node (slice_index next (mark + 1)) puts;
        over = λ n there other most.
            let n_in = node_in old next old_is n there in
            rank_less new next' new_is n node (omega (arith, n_in, puts.long)) (omega (arith, node_in', puts.long))
            (puts.over (n + 1) (omega arith, n_in) (not_next n node other) (omega (arith, up, label_le old next old_is n mark n_in mark_in' most)));
        under = λ n there other more.
            let n_in = node_in old next old_is n there in
            rank_less new next' new_is node n (omega (arith, node_in', puts.long)) (omega (arith, n_in, puts.long))
            (puts.under (n + 1) n_in (not_next n node other) (least_from old next old_is mark n mark_in' n_in (label_less old next old_is mark n mark_in' n_in more)));
      }

-- ---- what a table says

pub next_is_above : (labels next : List ℕ) → IsRising labels next → (node above : ℕ) → node < length (ranks_of labels) → slice_index next (node + 1) ≡ above + 1
    → IsNextAbove (ranks_of labels) node above
next_is_above labels next rising node above there is =
    let node_in' = node_in labels next rising node there in
    let above_in : above + 1 < length labels = omega (arith, rising.within (node + 1) node_in', is) in
    let label = ap (λ z. slice_index labels z) is in
    record {
      there = node_there labels next rising above above_in;
      higher = rank_less labels next rising node above node_in' above_in (omega (arith, up_from labels next rising node node_in', label));
      least = λ n n_there more.
          let n_in = node_in labels next rising n n_there in
          rank_le labels next rising above n above_in n_in
          (omega (arith, label, least_from labels next rising node n node_in' n_in (label_less labels next rising node n node_in' n_in more)));
    }

pub is_highest : (labels next : List ℕ) → IsRising labels next → (node : ℕ) → node < length (ranks_of labels) → slice_index next (node + 1) ≡ 0 → IsHighest (ranks_of labels) node
is_highest labels next rising node there is n n_there =
    let node_in' = node_in labels next rising node there in
    let n_in = node_in labels next rising n n_there in
    by node_in' n_in
  where
    by : node + 1 < length labels → n + 1 < length labels → slice_index (ranks_of labels) n ≤ slice_index (ranks_of labels) node
    by node_in' n_in = elim (cases_order (slice_index labels (n + 1)) (slice_index labels (node + 1))) [
      | inl same ↦ rank_le labels next rising n node n_in node_in' (omega (arith, same))
      | inr apart ↦ elim apart [
        | inl less ↦ rank_le labels next rising n node n_in node_in' (omega (arith, less))
        | inr more ↦ absurd (omega (arith, least_from labels next rising node n node_in' n_in more, ap (λ z. slice_index labels z) is, rising.top, rising.below (n + 1) (omega arith) n_in))
      ]
    ]

-- the first of the ring is the lowest
pub first_is_lowest : (labels next : List ℕ) → IsRising labels next → (node : ℕ) → slice_index next 0 ≡ node + 1 → IsLowest (ranks_of labels) node
first_is_lowest labels next rising node is =
    let node_in' : node + 1 < length labels = omega (arith, rising.within 0 rising.some, is) in
    record {
      there = node_there labels next rising node node_in';
      least = λ n there.
          let n_in = node_in labels next rising n there in
          rank_le labels next rising node n node_in' n_in
          (omega (arith, ap (λ z. slice_index labels z) is, rising.least 0 (n + 1) rising.some n_in (rising.positive (n + 1) n_in)));
    }

-- where nothing is first there are no nodes
pub no_nodes : (labels next : List ℕ) → IsRising labels next → slice_index next 0 ≡ 0 → length (ranks_of labels) ≡ 0
no_nodes labels next rising is = elim (cases_lt 1 (length labels)) [
  | inl more ↦
      absurd (omega (arith, rising.least 0 1 rising.some more (rising.positive 1 more), ap (λ z. slice_index labels z) is, rising.top, rising.below 1 (omega arith) more))
  | inr few ↦ omega (arith, few, length-ranks labels)
]

-- nodes in the order of their labels are in that of their ranks
pub sorted_ranks : (labels next nodes sorted : List ℕ) → IsRising labels next → ((k : ℕ) → k < length nodes → slice_index nodes k < length (ranks_of labels))
    → IsPermutation nodes sorted → IsNonDecreasingBy (λ n. slice_index labels (n + 1)) sorted → AreAscending (ranks_of labels) sorted
sorted_ranks labels next nodes sorted rising within same ascending j k before k_in =
    let there : (i : ℕ) → i < length sorted → slice_index sorted i + 1 < length labels = λ i i_in.
    let c = Contains-permutation sorted nodes (slice_index sorted i) (IsPermutation-sym nodes sorted same) (i, i_in, get_or_default sorted i (slice_index sorted i) 0 i_in) in
    let at : slice_index nodes c.0 ≡ slice_index sorted i = get_or_default nodes c.0 0 (slice_index sorted i) c.1 ∙ c.2 in
    node_in labels next rising (slice_index sorted i) (subst (λ n. n < length (ranks_of labels)) at (within c.0 c.1)) in
    rank_le labels next rising (slice_index sorted j) (slice_index sorted k) (there j (omega (arith, before, k_in))) (there k k_in) (ascending j k 0 (omega (arith, before)) k_in)
