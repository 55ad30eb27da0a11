-- Two lists in order that lose the items that both have, one after the other.
use Rattle.std.proofs.Common.{◌≡◌, ℕ, zero, suc, ◌+◌, ◌<◌, ◌≤◌, List, [], ◌∷◌, Bool, true, false, cond, not, ◌||◌, ◌&&◌, Ordering, length, get_or, refl, sym, ap, ◌∙◌, arith, ⊎_elim}
use Rattle.std.proofs.lemmas.Bool.{false≢true, cases_lt}
use Rattle.std.specs.List.{filter, remove as remove_at, HoldsAt}
use Rattle.std.specs.List.Sorted.{IsStrictlySortedBy}
use Rattle.std.specs.Ordering.{eq_by_cmp, is_eq}
use Rattle.std.specs.declared.cmp.Ordering.TheVariants.{Less, Equal, Greater}
use Rattle.std.specs.Cmp.{IsTotalOrder}
use Rattle.std.specs.FinMap.{IsAntisymmetric}
use Rattle.std.proofs.lemmas.List.Kept.{IsStrictlySortedBy-filter}
use Rattle.std.proofs.lemmas.Map.Views.{any-filter_same}
use Rattle.base_values.proofs.SortedLists.{has, has_place, tied, Below, sorted_unique, below_has_not}
use Rattle.std.proofs.lemmas.List.{get_or_default}
use Rattle.std.proofs.lemmas.List.Edits.{get_or-remove_below, length-remove}
use Rattle.std.proofs.lemmas.List.Folds.{Any-from_list_any}
use Rattle.std.proofs.lemmas.Map.Keys.{sorted_head, sorted_tail, Less-from_sorted}

and_true : (a : Bool) → a ≡ (a && true)
and_true true = refl
and_true false = refl

not_both : (r l : Bool) → (not (r && true) && (l && true)) ≡ (not r && l)
not_both true l = refl
not_both false true = refl
not_both false false = refl

gone : (r l : Bool) → r ≡ true → (not (r && false) && (l && false)) ≡ (not r && l)
gone true true e = refl
gone true false e = refl
gone false l e = absurd (false≢true e)

kept_left : (l r : Bool) → (l ≡ true → r ≡ false) → l ≡ (not r && l)
kept_left true r e = ap (λ b. not b && true) (sym (e refl))
kept_left false true e = refl
kept_left false false e = refl

kept_right : (l r : Bool) → (l ≡ true → r ≡ false) → r ≡ (not l && r)
kept_right true r e = e refl
kept_right false r e = refl

module _ {K : Type 0} (R : K → K → Ordering) where
  -- the items of a list that are not in another
  abbrev pub without : List K → List K → List K
  without xs ys = filter (λ x. not (has R x ys)) xs

  -- what is left of two lists once the items of both among the first ones of the left are gone
  pub record IsParted (left0 right0 left right : List K) (place : ℕ) : Type 0 where
    pub left_sorted : IsStrictlySortedBy R left
    pub right_sorted : IsStrictlySortedBy R right
    pub left_kept : without left right ≡ without left0 right0
    pub right_kept : without right left ≡ without right0 left0
    pub apart : (k : ℕ) (d : K) → k < place → has R (get_or left k d) right ≡ false
    pub within : place ≤ length left

module _ {K : Type 0} {R : K → K → Ordering} (o : IsTotalOrder R) (same : IsAntisymmetric R) where
  pub parted_at_first : (left right : List K) → IsStrictlySortedBy R left → IsStrictlySortedBy R right → IsParted R left right left right 0
  parted_at_first left right sl sr = record { left_sorted = sl; right_sorted = sr; left_kept = refl; right_kept = refl; apart = λ k d h. absurd (omega arith); within = omega arith }

  same_place : (xs : List K) (i k : ℕ) (d x : K) → i ≤ k → k < i + 1 → i < length xs → x ≡ get_or xs i x → get_or xs k d ≡ x
  same_place xs i k d x low high within is =
      let at : k ≡ i = omega arith in
      ap (λ j. get_or xs j d) at ∙ get_or_default xs i d x within ∙ sym is

  -- the item at the place is in the left list alone
  pub parted_further : (left0 right0 left right : List K) (place : ℕ) (x : K) → IsParted R left0 right0 left right place → place < length left → x ≡ get_or left place x → has R x right ≡ false
      → IsParted R left0 right0 left right (place + 1)
  parted_further left0 right0 left right place x p within is absent = record {
    left_sorted = p.left_sorted;
    right_sorted = p.right_sorted;
    left_kept = p.left_kept;
    right_kept = p.right_kept;
    apart = λ k d below. ⊎_elim (p.apart k d) (λ at. ap (λ y. has R y right) (same_place left place k d x at below within is) ∙ absent) (cases_lt k place);
    within = omega arith;
  }

  has-remove_first : (q y : K) (ys : List K) → Below R y ys → has R q ys ≡ ((eq_by_cmp R q y || has R q ys) && not (eq_by_cmp R q y))
  has-remove_first q y ys below =
      elim (R q y) as (λ r. R q y ≡ r → has R q ys ≡ ((is_eq r || has R q ys) && not (is_eq r))) [
        | Less ↦ λ e. and_true (has R q ys)
        | Equal ↦ λ e. ap (λ k. has R k ys) (same q y e) ∙ below_has_not o y ys below
        | Greater ↦ λ e. and_true (has R q ys)
      ] refl

  has-remove : (q x : K) (xs : List K) (i : ℕ) → IsStrictlySortedBy R xs → i < length xs → x ≡ get_or xs i x → has R q (remove_at xs i) ≡ (has R q xs && not (eq_by_cmp R q x))
  has-remove q x [] i sorted within is = absurd (omega arith)
  has-remove q x (y ∷ ys) zero sorted within is =
      has-remove_first q y ys (sorted_head R y ys sorted) ∙ ap (λ k. (eq_by_cmp R q y || has R q ys) && not (eq_by_cmp R q k)) (sym is)
  has-remove q x (y ∷ ys) (suc i) sorted within is =
      let rest = has-remove q x ys i (sorted_tail R y ys sorted) (omega arith) is in
      let below : R y x ≡ Less = ap (R y) is ∙ Less-from_sorted R (y ∷ ys) 0 (suc i) x sorted (omega arith) within in
      elim (R q y) as (λ r. R q y ≡ r → (is_eq r || has R q (remove_at ys i)) ≡ ((is_eq r || has R q ys) && not (eq_by_cmp R q x))) [
        | Less ↦ λ e. rest
        | Equal ↦ λ e. ap (λ b. not b) (sym (ap (λ k. eq_by_cmp R k x) (same q y e) ∙ ap is_eq below))
        | Greater ↦ λ e. rest
      ] refl

  below-remove : (x : K) (xs : List K) (i : ℕ) → Below R x xs → Below R x (remove_at xs i)
  below-remove x [] zero below = tt
  below-remove x [] (suc i) below = tt
  below-remove x (y ∷ ys) zero below = below.1
  below-remove x (y ∷ ys) (suc i) below = (below.0, below-remove x ys i below.1)

  sorted-remove : (xs : List K) (i : ℕ) → IsStrictlySortedBy R xs → IsStrictlySortedBy R (remove_at xs i)
  unfolding IsStrictlySortedBy
  sorted-remove [] zero sorted = tt
  sorted-remove [] (suc i) sorted = tt
  sorted-remove (x ∷ xs) zero sorted = sorted.1
  sorted-remove (x ∷ xs) (suc i) sorted = (below-remove x xs i sorted.0, sorted-remove xs i sorted.1)

  pub has-without : (q : K) (xs ys : List K) → has R q (without R xs ys) ≡ (not (has R q ys) && has R q xs)
  has-without q xs ys = any-filter_same (eq_by_cmp R q) (λ x. not (has R x ys)) (not (has R q ys)) (λ k tie. ap (λ x. not (has R x ys)) (sym (same q k (tied (R q k) tie)))) xs

  -- lists in order without an item of both lose the same items to each other
  without_both : (left right left' right' : List K) (x : K) → IsStrictlySortedBy R left → IsStrictlySortedBy R left' → has R x right ≡ true
      → ((q : K) → has R q left' ≡ (has R q left && not (eq_by_cmp R q x))) → ((q : K) → has R q right' ≡ (has R q right && not (eq_by_cmp R q x)))
      → without R left' right' ≡ without R left right
  without_both left right left' right' x sl sl' there less_left less_right = sorted_unique o same _ _ (IsStrictlySortedBy-filter R _ left' sl') (IsStrictlySortedBy-filter R _ left sl) (λ q.
      has-without q left' right' ∙ (λ i. not (less_right q i) && less_left q i)
      ∙ elim (R q x) as (λ r. R q x ≡ r → (not (has R q right && not (is_eq r)) && (has R q left && not (is_eq r))) ≡ (not (has R q right) && has R q left)) [
        | Less ↦ λ e. not_both (has R q right) (has R q left)
        | Equal ↦ λ e. gone (has R q right) (has R q left) (ap (λ k. has R k right) (same q x e) ∙ there)
        | Greater ↦ λ e. not_both (has R q right) (has R q left)
      ] refl
      ∙ sym (has-without q left right))

  -- the item at the place is in both lists, and goes
  pub parted_less : (left0 right0 left right : List K) (place other : ℕ) (x : K) → IsParted R left0 right0 left right place → place < length left → x ≡ get_or left place x
      → other < length right → HoldsAt (λ y. R y x ≡ Equal) right other
      → IsParted R left0 right0 (remove_at left place) (remove_at right other) place
  parted_less left0 right0 left right place other x p within is other_within found =
      let other_at : x ≡ get_or right other x = sym (same _ x (found x)) in
      let sorted_left = sorted-remove left place p.left_sorted in
      let sorted_right = sorted-remove right other p.right_sorted in
      let less_left = λ (q : K). has-remove q x left place p.left_sorted within is in
      let less_right = λ (q : K). has-remove q x right other p.right_sorted other_within other_at in
      record {
        left_sorted = sorted_left;
        right_sorted = sorted_right;
        left_kept = without_both left right _ _ x p.left_sorted sorted_left (has_place o x right other other_within other_at) less_left less_right ∙ p.left_kept;
        right_kept = without_both right left _ _ x p.right_sorted sorted_right (has_place o x left place within is) less_right less_left ∙ p.right_kept;
        apart = λ k d below. less_right (get_or (remove_at left place) k d)
            ∙ ap (λ y. has R y right && not (eq_by_cmp R y x)) (get_or-remove_below left place d k below within) ∙ ap (λ b. b && not (eq_by_cmp R (get_or left k d) x)) (p.apart k d below);
        within = omega (arith, length-remove left place within);
      }

  apart_everywhere : (left0 right0 left right : List K) (place : ℕ) → IsParted R left0 right0 left right place → length left ≤ place → (q : K) → has R q left ≡ true → has R q right ≡ false
  apart_everywhere left0 right0 left right place p all q there =
      let at = Any-from_list_any (eq_by_cmp R q) left there in
      let is : q ≡ get_or left at.0 at.1 = same q at.1 (tied (R q at.1) at.4) ∙ sym at.3 in
      ap (λ k. has R k right) is ∙ p.apart at.0 at.1 (omega (arith, at.2, all))

  -- no item of the left list is in the right
  pub parted_at_last : (left0 right0 left right : List K) (place : ℕ) → IsParted R left0 right0 left right place → length left ≤ place
      → (left ≡ without R left0 right0) × (right ≡ without R right0 left0)
  parted_at_last left0 right0 left right place p all =
      let apart = apart_everywhere left0 right0 left right place p all in (
        sorted_unique o same _ _ p.left_sorted (IsStrictlySortedBy-filter R _ left p.left_sorted) (λ q. kept_left (has R q left) (has R q right) (apart q) ∙ sym (has-without q left right)) ∙ p.left_kept,
        sorted_unique o same _ _ p.right_sorted (IsStrictlySortedBy-filter R _ right p.right_sorted) (λ q. kept_right (has R q left) (has R q right) (apart q) ∙ sym (has-without q right left)) ∙ p.right_kept,
      )

  -- items that were put in order are lost alike
  pub without-alike : (xs ys zs : List K) → ((q : K) → has R q ys ≡ has R q zs) → without R xs ys ≡ without R xs zs
  without-alike [] ys zs alike = refl
  without-alike (x ∷ xs) ys zs alike = λ i. cond (not (alike x i)) (x ∷ without-alike xs ys zs alike i) (without-alike xs ys zs alike i)
