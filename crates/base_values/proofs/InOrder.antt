-- Laws of a list, sorted: what it holds, that it is in order, and that no other list is so. Proofs above cite them;
-- the contracts of the laws on sorted lists state the same.
use Rattle.std.proofs.Common.{◌≡◌, ℕ, ◌<◌, ◌≤◌, zero, suc, List, [], ◌∷◌, length, get_or, Bool, true, false, not, ◌&&◌, cond, refl, sym, ap, subst, ◌∙◌, arith, add-one}
use Rattle.std.proofs.lemmas.Bool.{true≢false}
use Rattle.std.proofs.lemmas.List.MinMax.{ranks_by}
use Rattle.std.proofs.lemmas.List.Elements.{filter_passes, recursion_from_All}
use Rattle.std.proofs.lemmas.List.Sums.{length-filter}
use Rattle.std.proofs.lemmas.List.Sorted.{IsPermutation-cons, IsPermutation-middle, IsPermutation-refl, IsPermutation-trans, length_permutation, sorted_far, sum_by-IsPermutation}
use Rattle.std.specs.Cmp.{IsStrictWeakOrder, IsTotalOrder}
use Rattle.std.specs.FinMap.{IsAntisymmetric}
use Rattle.std.specs.List.{AllByRecursion, filter}
use Rattle.std.specs.List.Sorted.{IsPermutation, IsSorted, IsSortedBy, IsStable, ties}
use Rattle.std.specs.declared.cmp.Ordering.{Ordering}
use Rattle.std.specs.declared.result.Result.{Result}
use Rattle.std.specs.Result.{OnOk}
use Rattle.std.proofs.lemmas.Result.{on_ok_weaker}
use Rattle.std.specs.declared.cmp.Ordering.TheVariants.{Equal, Greater, Less}
use Rattle.std.specs.Ordering.{is_lt, ordering_reverse}
use Rattle.base_values.specs.Sorted.{place_in, sorted}

module _ {K : Type 0} (cmp : K → K → Ordering) where
  place_in-IsPermutation : (x : K) (xs : List K) → IsPermutation (x ∷ xs) (place_in cmp x xs)
  unfolding place_in
  place_in-IsPermutation x [] = IsPermutation-refl (x ∷ [])
  place_in-IsPermutation x (y ∷ ys) = by (is_lt (cmp y x)) (place_in-IsPermutation x ys)
    where
      by : (b : Bool) → IsPermutation (x ∷ ys) (place_in cmp x ys)
          → IsPermutation (x ∷ y ∷ ys) (cond b (y ∷ place_in cmp x ys) (x ∷ y ∷ ys))
      by true rest = IsPermutation-trans (x ∷ y ∷ ys) (y ∷ x ∷ ys) (y ∷ place_in cmp x ys)
          (IsPermutation-middle (x ∷ []) y ys) (IsPermutation-cons y (x ∷ ys) (place_in cmp x ys) rest)
      by false rest = IsPermutation-refl (x ∷ y ∷ ys)

  -- it holds the items of the list
  pub sorted-IsPermutation : (xs : List K) → IsPermutation xs (sorted cmp xs)
  unfolding sorted
  sorted-IsPermutation [] = IsPermutation-refl []
  sorted-IsPermutation (x ∷ xs) = IsPermutation-trans (x ∷ xs) (x ∷ sorted cmp xs) (place_in cmp x (sorted cmp xs))
      (IsPermutation-cons x xs (sorted cmp xs) (sorted-IsPermutation xs)) (place_in-IsPermutation x (sorted cmp xs))

  -- it is as long as the list
  pub length-sorted : (xs : List K) → length (sorted cmp xs) ≡ length xs
  length-sorted xs = length_permutation xs (sorted cmp xs) (sorted-IsPermutation xs)

-- ---- lists whose items never fall, by recursion

-- no item is less than one before it
abbrev Rises : {K : Type 0} → (K → K → Bool) → List K → Type 0
Rises lt [] = Unit {0}
Rises lt (x ∷ xs) = AllByRecursion (λ y. lt y x ≡ false) xs × Rises lt xs

module _ {K : Type 0} (P : K → Type 0) where
  all_read : (xs : List K) → ((k : ℕ) (d : K) → k < length xs → P (get_or xs k d)) → AllByRecursion P xs
  all_read [] h = tt
  all_read (x ∷ xs) h = (h zero x (omega arith), all_read xs (λ k d l. h (suc k) d (omega arith)))

  all_weaker : (Q : K → Type 0) → ((x : K) → P x → Q x) → (xs : List K) → AllByRecursion P xs → AllByRecursion Q xs
  all_weaker Q h [] all = tt
  all_weaker Q h (x ∷ xs) all = (h x all.0, all_weaker Q h xs all.1)

  all_kept : (p : K → Bool) (xs : List K) → AllByRecursion P xs → AllByRecursion P (filter p xs)
  all_kept p [] all = tt
  all_kept p (x ∷ xs) all = by (p x) (all_kept p xs all.1)
    where
      by : (b : Bool) → AllByRecursion P (filter p xs) → AllByRecursion P (cond b (x ∷ filter p xs) (filter p xs))
      by true rest = (all.0, rest)
      by false rest = rest

  all_placed : (cmp : K → K → Ordering) (x : K) (xs : List K) → P x → AllByRecursion P xs → AllByRecursion P (place_in cmp x xs)
  unfolding place_in
  all_placed cmp x [] here all = (here, tt)
  all_placed cmp x (y ∷ ys) here all = by (is_lt (cmp y x)) (all_placed cmp x ys here all.1)
    where
      by : (b : Bool) → AllByRecursion P (place_in cmp x ys) → AllByRecursion P (cond b (y ∷ place_in cmp x ys) (x ∷ y ∷ ys))
      by true rest = (all.0, rest)
      by false rest = (here, all)

module _ {K : Type 0} (lt : K → K → Bool) where
  rises_far : (xs : List K) → ((i j : ℕ) (d : K) → i ≤ j → j < length xs → lt (get_or xs j d) (get_or xs i d) ≡ false) → Rises lt xs
  rises_far [] h = tt
  rises_far (x ∷ xs) h = (
    all_read (λ y. lt y x ≡ false) xs (λ k d l. h zero (suc k) d (omega arith) (omega arith)),
    rises_far xs (λ i j d p q. h (suc i) (suc j) d (omega arith) (omega arith)),
  )

  rises_next : (xs : List K) → Rises lt xs → (k : ℕ) (d : K) → suc k < length xs → lt (get_or xs (suc k) d) (get_or xs k d) ≡ false
  rises_next [] h k d l = absurd (omega arith)
  rises_next (x ∷ []) h k d l = absurd (omega arith)
  rises_next (x ∷ y ∷ ys) h zero d l = h.0.0
  rises_next (x ∷ y ∷ ys) h (suc k) d l = rises_next (y ∷ ys) h.1 k d (omega arith)

  sorted_from_rises : (xs : List K) → Rises lt xs → IsSortedBy lt xs
  sorted_from_rises xs h k d low l = rw add-one (rises_next xs h k d (omega arith))

-- ---- two lists that never fall, and keep the order of ties alike, are one

neither : (a b : Bool) → not a && not b ≡ true → (a ≡ false) × (b ≡ false)
neither true b h = absurd (true≢false (sym h))
neither false true h = absurd (true≢false (sym h))
neither false false h = (refl, refl)

module _ {K : Type 0} where
  tails_alike : (y z : K) (ys zs : List K) (a b : Bool) → a ≡ b → cond a (y ∷ ys) ys ≡ cond b (z ∷ zs) zs → ys ≡ zs
  tails_alike y z ys zs true true p h = cc
  tails_alike y z ys zs true false p h = cc
  tails_alike y z ys zs false true p h = cc
  tails_alike y z ys zs false false p h = h

  heads_alike : (y z : K) (ys zs : List K) (a b : Bool) → a ≡ true → b ≡ true → cond a (y ∷ ys) ys ≡ cond b (z ∷ zs) zs → y ≡ z
  heads_alike y z ys zs true true p q h = cc
  heads_alike y z ys zs true false p q h = absurd (true≢false (sym q))
  heads_alike y z ys zs false b p q h = absurd (true≢false (sym p))

  kept_none : (p : K → Bool) (x : K) (xs : List K) → p x ≡ true → [] ≡ filter p (x ∷ xs) → ⊥
  kept_none p x xs here none = by (p x) here none
    where
      by : (b : Bool) → b ≡ true → [] ≡ cond b (x ∷ filter p xs) (filter p xs) → ⊥
      by true h none = cc
      by false h none = true≢false (sym h)

  -- of two items that a test does not both keep, which stands first leaves no trace
  one_kept : (x y : K) (xs : List K) (a b : Bool) → (a ≡ true → b ≡ true → ⊥)
      → cond b (y ∷ cond a (x ∷ xs) xs) (cond a (x ∷ xs) xs) ≡ cond a (x ∷ cond b (y ∷ xs) xs) (cond b (y ∷ xs) xs)
  one_kept x y xs true true h = absurd (h refl refl)
  one_kept x y xs true false h = refl
  one_kept x y xs false true h = refl
  one_kept x y xs false false h = refl

  module _ (lt : K → K → Bool) (o : IsStrictWeakOrder lt) where
    never_less : (x : K) → lt x x ≡ false
    never_less x = by (lt x x) refl
      where
        by : (b : Bool) → lt x x ≡ b → lt x x ≡ false
        by true e = o.one_way x x e
        by false e = e

    tie : (x y : K) → lt x y ≡ false → lt y x ≡ false → ties lt x y ≡ true
    tie x y p q = λ i. not (p i) && not (q i)

    own_tie : (x : K) → ties lt x x ≡ true
    own_tie x = tie x x (never_less x) (never_less x)

    -- what ties with both x and y makes them tie
    no_third : (x y t : K) → lt y x ≡ true → ties lt t x ≡ true → ties lt t y ≡ true → ⊥
    no_third x y t h p q = true≢false (sym h ∙ o.chain y t x (neither _ _ q).1 (neither _ _ p).0)

    -- y is among the items that the test keeps
    among : (P : K → Type 0) (p : K → Bool) (y : K) (ys zs : List K) → p y ≡ true → filter p (y ∷ ys) ≡ filter p zs → AllByRecursion P zs → P y
    among P p y ys zs here same all =
        (subst (AllByRecursion P) (sym same ∙ ap (λ b. cond b (y ∷ filter p ys) (filter p ys)) here) (all_kept P p zs all)).0

    -- lists in order that keep each item's ties alike are equal
    only_one : (ys zs : List K) → Rises lt ys → Rises lt zs → ((t : K) → filter (ties lt t) ys ≡ filter (ties lt t) zs) → ys ≡ zs
    only_one [] [] up up' same = refl
    only_one [] (z ∷ zs) up up' same = absurd (kept_none (ties lt z) z zs (own_tie z) (same z))
    only_one (y ∷ ys) [] up up' same = absurd (kept_none (ties lt y) y ys (own_tie y) (sym (same y)))
    only_one (y ∷ ys) (z ∷ zs) up up' same =
        let right : lt y z ≡ false = among (λ w. lt w z ≡ false) (ties lt y) y ys (z ∷ zs) (own_tie y) (same y) (never_less z, up'.0) in
        let left : lt z y ≡ false = among (λ w. lt w y ≡ false) (ties lt z) z zs (y ∷ ys) (own_tie z) (sym (same z)) (never_less y, up.0) in
        let first : y ≡ z = heads_alike y z _ _ _ _ (own_tie y) (tie y z right left) (same y) in
        let rest : ys ≡ zs = only_one ys zs up.1 up'.1 (λ t. tails_alike y z _ _ _ _ (ap (ties lt t) first) (same t)) in
        cc

-- what is less neither way is equal
neither_less : (r s : Ordering) → r ≡ ordering_reverse s → (is_lt r ≡ false) × (is_lt s ≡ false) → r ≡ Equal
neither_less Less s turned h = absurd (true≢false h.0)
neither_less Equal s turned h = refl
neither_less Greater Less turned h = absurd (true≢false h.1)
neither_less Greater Equal turned h = cc
neither_less Greater Greater turned h = cc

-- lists of one length that hold one item alone are equal
alike : {K : Type 0} (t : K) (xs ys : List K) → AllByRecursion (λ x. x ≡ t) xs → AllByRecursion (λ x. x ≡ t) ys → length xs ≡ length ys → xs ≡ ys
alike t [] [] p q h = refl
alike t [] (y ∷ ys) p q h = absurd (omega arith)
alike t (x ∷ xs) [] p q h = absurd (omega arith)
alike t (x ∷ xs) (y ∷ ys) p q h =
    let first : x ≡ y = p.0 ∙ sym q.0 in
    let rest : xs ≡ ys = alike t xs ys p.1 q.1 (omega arith) in
    cc

abbrev less : {K : Type 0} → (K → K → Ordering) → K → K → Bool
less cmp x y = is_lt (cmp x y)

-- ---- so a list that is in order, and keeps the order of ties, is the list sorted

module _ {K : Type 0} {cmp : K → K → Ordering} (o : IsTotalOrder cmp) where
  ranks : IsStrictWeakOrder (less cmp)
  ranks = ranks_by o (λ x. x)

  rises_placed : (x : K) (xs : List K) → Rises (less cmp) xs → Rises (less cmp) (place_in cmp x xs)
  unfolding place_in
  rises_placed x [] up = (tt, tt)
  rises_placed x (y ∷ ys) up = by (is_lt (cmp y x)) refl (rises_placed x ys up.1)
    where
      by : (b : Bool) → is_lt (cmp y x) ≡ b → Rises (less cmp) (place_in cmp x ys)
          → Rises (less cmp) (cond b (y ∷ place_in cmp x ys) (x ∷ y ∷ ys))
      by true h rest = (all_placed (λ w. is_lt (cmp w y) ≡ false) cmp x ys (ranks.one_way y x h) up.0, rest)
      by false h rest = ((h, all_weaker (λ w. is_lt (cmp w y) ≡ false) (λ w. is_lt (cmp w x) ≡ false) (λ w l. ranks.chain w y x l h) ys up.0), up)

  rises_sorted : (xs : List K) → Rises (less cmp) (sorted cmp xs)
  unfolding sorted
  rises_sorted [] = tt
  rises_sorted (x ∷ xs) = rises_placed x (sorted cmp xs) (rises_sorted xs)

  -- it is in order
  pub sorted-IsSorted : (xs : List K) → IsSorted cmp (sorted cmp xs)
  sorted-IsSorted xs = sorted_from_rises _ (sorted cmp xs) (rises_sorted xs)

  -- putting x in its place changes no order of ties
  kept_placed : (t x : K) (xs : List K) → filter (ties (less cmp) t) (place_in cmp x xs) ≡ filter (ties (less cmp) t) (x ∷ xs)
  unfolding place_in
  kept_placed t x [] = refl
  kept_placed t x (y ∷ ys) = by (is_lt (cmp y x)) refl (kept_placed t x ys)
    where
      by : (b : Bool) → is_lt (cmp y x) ≡ b → filter (ties (less cmp) t) (place_in cmp x ys) ≡ filter (ties (less cmp) t) (x ∷ ys)
          → filter (ties (less cmp) t) (cond b (y ∷ place_in cmp x ys) (x ∷ y ∷ ys)) ≡ filter (ties (less cmp) t) (x ∷ y ∷ ys)
      by true h rest = ap (λ l. cond (ties (less cmp) t y) (y ∷ l) l) rest ∙ one_kept x y _ _ _ (no_third _ ranks x y t h)
      by false h rest = refl

  -- items that tie keep their order
  pub sorted-IsStable : (xs : List K) → IsStable cmp xs (sorted cmp xs)
  unfolding sorted
  sorted-IsStable [] t = refl
  sorted-IsStable (x ∷ xs) t = kept_placed t x (sorted cmp xs) ∙ ap (λ l. cond (ties (less cmp) t x) (x ∷ l) l) (sorted-IsStable xs t)

  -- a list in order, with the ties of another in their order, is the other one sorted
  pub sorted-unique : (xs ys : List K) → IsSorted cmp ys → IsStable cmp xs ys → ys ≡ sorted cmp xs
  sorted-unique xs ys up stable = only_one _ ranks ys (sorted cmp xs) (rises_far _ ys (sorted_far _ ranks ys up)) (rises_sorted xs)
      (λ t. stable t ∙ sym (sorted-IsStable xs t))

  -- a list in order is itself, sorted
  pub sorted-of_sorted : (xs : List K) → IsSorted cmp xs → sorted cmp xs ≡ xs
  sorted-of_sorted xs up = sym (sorted-unique xs xs up (λ t. refl))

  -- only equal items tie
  equal_from_tie : IsAntisymmetric cmp → (t x : K) → ties (less cmp) t x ≡ true → x ≡ t
  equal_from_tie anti t x h = sym (anti t x (neither_less (cmp t x) (cmp x t) (o.antisymm t x) (neither _ _ h)))

  -- the items that tie with t are t
  ties_equal : IsAntisymmetric cmp → (t : K) (xs : List K) → AllByRecursion (λ x. x ≡ t) (filter (ties (less cmp) t) xs)
  ties_equal anti t xs =
      let p : K → Bool = ties (less cmp) t in
      all_weaker (λ x. p x ≡ true) (λ x. x ≡ t) (equal_from_tie anti t) (filter p xs)
      (recursion_from_All (λ x. p x ≡ true) (filter p xs) (filter_passes p xs))

  -- where only equal items tie, a list in another order has its ties in the same order
  IsStable-from_permutation : IsAntisymmetric cmp → (xs ys : List K) → IsPermutation xs ys → IsStable cmp xs ys
  IsStable-from_permutation anti xs ys moved t =
      let p : K → Bool = ties (less cmp) t in
      alike t (filter p ys) (filter p xs) (ties_equal anti t ys) (ties_equal anti t xs)
      (length-filter p ys ∙ sum_by-IsPermutation (λ x. cond (p x) 1 0) xs ys moved ∙ sym (length-filter p xs))

  -- where only equal items tie, the order in which a list stood leaves no trace
  pub sorted-permutation : IsAntisymmetric cmp → (xs ys : List K) → IsPermutation xs ys → sorted cmp xs ≡ sorted cmp ys
  sorted-permutation anti xs ys moved = sym (sorted-unique xs (sorted cmp ys) (sorted-IsSorted ys)
      (λ t. sorted-IsStable ys t ∙ IsStable-from_permutation anti xs ys moved t))

-- what a stable sort that answers `Ok` left is the list sorted
pub sorted_by_stable_sort : {K E : Type 0} (cmp : K → K → Ordering) → IsTotalOrder cmp → (r : Result (Unit {0}) E) (xs ys : List K)
    → OnOk r (IsSorted cmp ys) → IsStable cmp xs ys → OnOk r (ys ≡ sorted cmp xs)
sorted_by_stable_sort cmp o r xs ys up stable = on_ok_weaker r (λ up. sorted-unique o xs ys up stable) up
