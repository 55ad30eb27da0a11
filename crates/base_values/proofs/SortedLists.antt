-- Lists in order, each item once: what they have, and that what they have decides them.
use Rattle.std.proofs.Common.{◌≡◌, ℕ, zero, suc, ◌+◌, ◌<◌, ◌≤◌, List, [], ◌∷◌, Bool, true, false, cond, ◌||◌, Ordering, length, get_or, refl, sym, ap, ◌∙◌, arith}
use Rattle.std.proofs.lemmas.Bool.{false≢true}
use Rattle.std.specs.List.{list_any, fold, insert as insert_at, AllByRecursion, AllWithin, HoldsAt, dedup, dedup_from}
use Rattle.std.specs.Prelude.{Result, Ok, Err, MatchResult}
use Rattle.std.specs.List.Sorted.{IsStrictlySortedBy, IsNonDecreasingBy, IsSearchInRange, IsBinarySearchResult}
use Rattle.std.proofs.lemmas.Bool.{cases_lt}
use Rattle.std.proofs.Common.{⊎_elim}
use Rattle.std.proofs.lemmas.List.{get_or_default}
use Rattle.std.specs.Ordering.{eq_by_cmp, is_eq, is_lt, ordering_index, ordering_reverse, match_ordering}
use Rattle.std.specs.declared.cmp.Ordering.TheVariants.{Less, Equal, Greater}
use Rattle.std.specs.Cmp.{IsTotalOrder, tied_itself, alike_right}
use Rattle.std.specs.FinMap.{IsAntisymmetric}
use Rattle.std.specs.BTreeSet.{insert_key}
use Rattle.std.proofs.lemmas.List.Sorted.{searchable_from_sorted}
use Rattle.std.proofs.lemmas.List.Folds.{list_any_none, list_any-from_Any}
use Rattle.std.proofs.lemmas.Map.Keys.{Less-from_sorted}
use Rattle.base_values.proofs.Basics.{or_swap, or_again}

or_false : (a : Bool) → a ≡ (a || false)
or_false true = refl
or_false false = refl

or_move : (a b c : Bool) → ((a || b) || c) ≡ (b || (a || c))
or_move true true c = refl
or_move true false c = refl
or_move false b c = refl

or_twice : (a b c : Bool) → b ≡ a → (a || c) ≡ (a || (b || c))
or_twice true b c e = refl
or_twice false b c e = ap (λ x. x || c) (sym e)

pub tied : (r : Ordering) → is_eq r ≡ true → r ≡ Equal
tied Less e = absurd (false≢true e)
tied Equal e = refl
tied Greater e = absurd (false≢true e)

module _ {K : Type 0} (R : K → K → Ordering) where
  -- whether an item is in a list
  abbrev pub has : K → List K → Bool
  has q xs = list_any (eq_by_cmp R q) xs

  -- an item is below each of a list
  abbrev pub Below : K → List K → Type 0
  Below k xs = AllByRecursion (λ y. R k y ≡ Less) xs

module _ {K : Type 0} {R : K → K → Ordering} (o : IsTotalOrder R) where
  turned : (x y : K) (r : Ordering) → R x y ≡ r → R y x ≡ ordering_reverse r
  turned x y r e = o.antisymm y x ∙ ap ordering_reverse e

  below_further : (q k : K) (xs : List K) → R q k ≡ Less → Below R k xs → Below R q xs
  below_further q k [] e below = tt
  below_further q k (x ∷ xs) e below = (o.trans q k x e below.0, below_further q k xs e below.1)

  pub below_has_not : (k : K) (xs : List K) → Below R k xs → has R k xs ≡ false
  below_has_not k [] below = refl
  below_has_not k (x ∷ xs) below = (λ i. is_eq (below.0 i) || below_has_not k xs below.1 i)

  has_first : (x : K) (xs : List K) → has R x (x ∷ xs) ≡ true
  has_first x xs = ap (λ r. is_eq r || has R x xs) (tied_itself o x)

  -- one more item
  pub has-insert_key : (q k : K) (xs : List K) → has R q (insert_key R xs k) ≡ (eq_by_cmp R q k || has R q xs)
  has-insert_key q k [] = refl
  has-insert_key q k (x ∷ xs) =
      elim (R k x) as (λ r. R k x ≡ r → has R q (match_ordering r (k ∷ x ∷ xs) (x ∷ xs) (x ∷ insert_key R xs k)) ≡ (eq_by_cmp R q k || has R q (x ∷ xs))) [
        | Less ↦ λ e. refl
        | Equal ↦ λ e. or_again _ _ _ (ap is_eq (alike_right o k x q e))
        | Greater ↦ λ e. ap (λ b. eq_by_cmp R q x || b) (has-insert_key q k xs) ∙ or_swap (eq_by_cmp R q x) (eq_by_cmp R q k) (has R q xs)
      ] refl

  below-insert_key : (x k : K) (xs : List K) → Below R x xs → R x k ≡ Less → Below R x (insert_key R xs k)
  below-insert_key x k [] below e = (e, tt)
  below-insert_key x k (y ∷ ys) below e =
      elim (R k y) as (λ r. Below R x (match_ordering r (k ∷ y ∷ ys) (y ∷ ys) (y ∷ insert_key R ys k))) [
        | Less ↦ (e, below)
        | Equal ↦ below
        | Greater ↦ (below.0, below-insert_key x k ys below.1 e)
      ]

  pub sorted-insert_key : (xs : List K) (k : K) → IsStrictlySortedBy R xs → IsStrictlySortedBy R (insert_key R xs k)
  unfolding IsStrictlySortedBy
  sorted-insert_key [] k sorted = (tt, tt)
  sorted-insert_key (x ∷ xs) k sorted =
      elim (R k x) as (λ r. R k x ≡ r → IsStrictlySortedBy R (match_ordering r (k ∷ x ∷ xs) (x ∷ xs) (x ∷ insert_key R xs k))) [
        | Less ↦ λ e. ((e, below_further k x xs e sorted.0), sorted)
        | Equal ↦ λ e. sorted
        | Greater ↦ λ e. (below-insert_key x k xs sorted.0 (turned k x Greater e), sorted-insert_key xs k sorted.1)
      ] refl

  -- several more items
  pub has-fold : (q : K) (xs ys : List K) → has R q (fold (insert_key R) xs ys) ≡ (has R q xs || has R q ys)
  has-fold q xs [] = or_false _
  has-fold q xs (y ∷ ys) = has-fold q (insert_key R xs y) ys ∙ ap (λ b. b || has R q ys) (has-insert_key q y xs) ∙ or_move (eq_by_cmp R q y) (has R q xs) (has R q ys)

  pub sorted-fold : (xs ys : List K) → IsStrictlySortedBy R xs → IsStrictlySortedBy R (fold (insert_key R) xs ys)
  sorted-fold xs [] sorted = sorted
  sorted-fold xs (y ∷ ys) sorted = sorted-fold (insert_key R xs y) ys (sorted-insert_key xs y sorted)

  module _ (same : IsAntisymmetric R) where
    tails_alike : (x y : K) (xs ys : List K) → x ≡ y → Below R x xs → Below R y ys → ((q : K) → has R q (x ∷ xs) ≡ has R q (y ∷ ys)) → (q : K) → has R q xs ≡ has R q ys
    tails_alike x y xs ys e below_x below_y alike q =
        elim (R q x) as (λ r. R q x ≡ r → has R q xs ≡ has R q ys) [
          | Less ↦ λ p. rest Less p refl
          | Equal ↦ λ p. ap (λ k. has R k xs) (same q x p) ∙ below_has_not x xs below_x ∙ sym (below_has_not y ys below_y) ∙ ap (λ k. has R k ys) (sym (same q x p ∙ e))
          | Greater ↦ λ p. rest Greater p refl
        ] refl
      where
        rest : (r : Ordering) → R q x ≡ r → is_eq r ≡ false → has R q xs ≡ has R q ys
        rest r p not_eq =
            let at_x : eq_by_cmp R q x ≡ false = ap is_eq p ∙ not_eq in
            let at_y : eq_by_cmp R q y ≡ false = ap (λ k. eq_by_cmp R q k) (sym e) ∙ at_x in
            ap (λ b. b || has R q xs) (sym at_x) ∙ alike q ∙ ap (λ b. b || has R q ys) at_y

    -- lists in order that have the same items are one list
    pub sorted_unique : (xs ys : List K) → IsStrictlySortedBy R xs → IsStrictlySortedBy R ys → ((q : K) → has R q xs ≡ has R q ys) → xs ≡ ys
    unfolding IsStrictlySortedBy
    sorted_unique [] [] sx sy alike = refl
    sorted_unique [] (y ∷ ys) sx sy alike = absurd (false≢true (alike y ∙ has_first y ys))
    sorted_unique (x ∷ xs) [] sx sy alike = absurd (false≢true (sym (alike x) ∙ has_first x xs))
    sorted_unique (x ∷ xs) (y ∷ ys) sx sy alike =
        elim (R x y) as (λ r. R x y ≡ r → x ∷ xs ≡ y ∷ ys) [
          | Less ↦ λ e. absurd (false≢true (sym (below_has_not x (y ∷ ys) (e, below_further x y ys e sy.0)) ∙ sym (alike x) ∙ has_first x xs))
          | Equal ↦ λ e i. same x y e i ∷ sorted_unique xs ys sx.1 sy.1 (tails_alike x y xs ys (same x y e) sx.0 sy.0 alike) i
          | Greater ↦ λ e. let less = turned x y Greater e in
              absurd (false≢true (sym (below_has_not y (x ∷ xs) (less, below_further y x xs less sx.0)) ∙ alike y ∙ has_first y ys))
        ] refl

    -- a list in order with the items of two others is the first with those of the second put in
    pub settled_is : (zs xs ys : List K) → IsStrictlySortedBy R zs → IsStrictlySortedBy R xs → ((q : K) → has R q zs ≡ (has R q xs || has R q ys)) → zs ≡ fold (insert_key R) xs ys
    settled_is zs xs ys sz sx alike = sorted_unique zs _ sz (sorted-fold xs ys sx) (λ q. alike q ∙ sym (has-fold q xs ys))

  -- the item at a place is in the list
  pub has_place : (x : K) (xs : List K) (i : ℕ) → i < length xs → x ≡ get_or xs i x → has R x xs ≡ true
  has_place x xs i within is = list_any-from_Any (eq_by_cmp R x) xs (i, x, within, sym is, ap is_eq (tied_itself o x))

  -- the place that a search gave for an item that it did not find
  insert_at_is : (k : K) (xs : List K) (i : ℕ) → i ≤ length xs → AllWithin (λ y. R y k ≡ Less) xs 0 i → AllWithin (λ y. R y k ≡ Greater) xs i (length xs)
      → insert_at xs i k ≡ insert_key R xs k
  insert_at_is k [] zero within less greater = refl
  insert_at_is k [] (suc i) within less greater = absurd (omega arith)
  insert_at_is k (x ∷ xs) zero within less greater =
      let below = turned x k Greater (greater 0 x (omega arith) (omega arith)) in
      ap (λ r. match_ordering r (k ∷ x ∷ xs) (x ∷ xs) (x ∷ insert_key R xs k)) (sym below)
  insert_at_is k (x ∷ xs) (suc i) within less greater =
      let above = turned x k Less (less 0 x (omega arith) (omega arith)) in
      ap (λ zs. x ∷ zs) (insert_at_is k xs i (omega arith) (λ j d low high. less (suc j) d (omega arith) (omega arith)) (λ j d low high. greater (suc j) d (omega arith) (omega arith)))
      ∙ ap (λ r. match_ordering r (k ∷ x ∷ xs) (x ∷ xs) (x ∷ insert_key R xs k)) (sym above)

  has_not_at : (k : K) (xs : List K) (i : ℕ) → AllWithin (λ y. R y k ≡ Less) xs 0 i → AllWithin (λ y. R y k ≡ Greater) xs i (length xs) → has R k xs ≡ false
  has_not_at k xs i less greater = list_any_none (eq_by_cmp R k) xs (λ j d below.
      ⊎_elim (λ before. ap is_eq (turned (get_or xs j d) k Less (less j d (omega arith) before)))
      (λ after. ap is_eq (turned (get_or xs j d) k Greater (greater j d after below))) (cases_lt j i))

  has_at : (k : K) (xs : List K) (i : ℕ) → i < length xs → HoldsAt (λ y. R y k ≡ Equal) xs i → has R k xs ≡ true
  has_at k xs i within found = list_any-from_Any (eq_by_cmp R k) xs
      (i, get_or xs i k, within, get_or_default xs i _ _ within, ap is_eq (turned (get_or xs i k) k Equal (found k)))

  rising : (xs : List K) (k : K) → IsStrictlySortedBy R xs → IsNonDecreasingBy (λ y. ordering_index (R y k)) xs
  rising xs k sorted = searchable_from_sorted o (λ x. x) xs k (λ j d low high.
      ap is_lt (turned _ _ Less (Less-from_sorted R xs j (j + 1) d sorted (omega arith) high)))

  -- what a binary search in a list in order says of an item: it is there, or it is not and goes to the place
  pub searched : (k : K) (xs : List K) (r : Result ℕ ℕ) → IsStrictlySortedBy R xs → IsSearchInRange r (length xs) → IsBinarySearchResult (λ y. R y k) xs r
      → MatchResult r (λ _. has R k xs ≡ true) (λ i. (has R k xs ≡ false) × (insert_at xs i k ≡ insert_key R xs k))
  searched k xs (Ok i) sorted within position = has_at k xs i within position
  searched k xs (Err i) sorted within position =
      let parts = position (rising xs k sorted) in
      (has_not_at k xs i parts.0 parts.1, insert_at_is k xs i within parts.0 parts.1)

  -- an item that is there stays the one
  pub insert_key_there : IsAntisymmetric R → (k : K) (xs : List K) → IsStrictlySortedBy R xs → has R k xs ≡ true → xs ≡ insert_key R xs k
  insert_key_there same k xs sorted there = sorted_unique same xs _ sorted (sorted-insert_key xs k sorted) (λ q.
      already q ∙ sym (has-insert_key q k xs))
    where
      already : (q : K) → has R q xs ≡ (eq_by_cmp R q k || has R q xs)
      already q = elim (R q k) as (λ r. R q k ≡ r → has R q xs ≡ (is_eq r || has R q xs)) [
        | Less ↦ λ e. refl
        | Equal ↦ λ e. ap (λ x. has R x xs) (same q k e) ∙ there
        | Greater ↦ λ e. refl
      ] refl

  -- repeats that stand together and are dropped
  has-dedup_from : (E : K → K → Bool) → ((x y : K) → E x y ≡ eq_by_cmp R x y) → (q k : K) (xs : List K) → has R q (dedup_from E k xs) ≡ (eq_by_cmp R q k || has R q xs)
  has-dedup_from E ties q k [] = refl
  has-dedup_from E ties q k (x ∷ xs) =
      elim (R x k) as (λ r. R x k ≡ r → has R q (cond (E x k) (dedup_from E k xs) (k ∷ dedup_from E x xs)) ≡ (eq_by_cmp R q k || (eq_by_cmp R q x || has R q xs))) [
        | Less ↦ λ e. apart (ties x k ∙ ap is_eq e) (has-dedup_from E ties q x xs)
        | Equal ↦ λ e. ap (λ b. has R q (cond b (dedup_from E k xs) (k ∷ dedup_from E x xs))) (ties x k ∙ ap is_eq e)
            ∙ has-dedup_from E ties q k xs ∙ or_twice (eq_by_cmp R q k) (eq_by_cmp R q x) (has R q xs) (ap is_eq (alike_right o x k q e))
        | Greater ↦ λ e. apart (ties x k ∙ ap is_eq e) (has-dedup_from E ties q x xs)
      ] refl
    where
      apart : E x k ≡ false → has R q (dedup_from E x xs) ≡ (eq_by_cmp R q x || has R q xs) → has R q (cond (E x k) (dedup_from E k xs) (k ∷ dedup_from E x xs)) ≡ (eq_by_cmp R q k || (eq_by_cmp R q x || has R q xs))
      apart e rest = ap (λ b. has R q (cond b (dedup_from E k xs) (k ∷ dedup_from E x xs))) e ∙ ap (λ b. eq_by_cmp R q k || b) rest

  pub has-dedup : (E : K → K → Bool) → ((x y : K) → E x y ≡ eq_by_cmp R x y) → (q : K) (xs : List K) → has R q (dedup E xs) ≡ has R q xs
  has-dedup E ties q [] = refl
  has-dedup E ties q (x ∷ xs) = has-dedup_from E ties q x xs
