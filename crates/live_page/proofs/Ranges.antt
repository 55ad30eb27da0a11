-- What is made of the numbers from one on.
use Rattle.std.proofs.Common.{◌≡◌, ℕ, zero, suc, ◌+◌, ◌<◌, ◌≤◌, Bool, false, not, List, [], ◌∷◌, ◌++◌, length, get_or, map, Option, Some, refl, ◌∙◌, ap, arith}
use Rattle.std.proofs.lemmas.Bool.Decides.{nat_tests}
use Rattle.std.proofs.lemmas.Cmp.{nat_cmp_total}
use Rattle.std.proofs.lemmas.List.FromFn.{get_or-range_with_len, length-range_with_len}
use Rattle.std.proofs.lemmas.List.Sorted.{IsPermutation-filter_both, IsPermutation-sym}
use Rattle.std.specs.FinMap.{nat_cmp-IsAntisymmetric}
use Rattle.std.specs.List.{enumerate_from, filter, filter_map, range_with_len, slice_get}
use Rattle.std.specs.List.Sorted.{IsSorted}
use Rattle.std.specs.Ordering.{is_lt, nat_cmp}
use Rattle.base_values.specs.Sorted.{sorted}
use Rattle.base_values.proofs.InOrder.{sorted-of_sorted, sorted-permutation}

module _ {B : Type 0} (f : ℕ → Option B) (g : ℕ → B) where
  -- each number in a range gives something
  pub filter_map_range : (a n : ℕ) → ((k : ℕ) → a ≤ k → k < a + n → f k ≡ Some (g k)) → filter_map f (range_with_len a n) ≡ map g (range_with_len a n)
  filter_map_range a zero agree = refl
  filter_map_range a (suc n) agree =
      let first : f a ≡ Some (g a) = agree a (omega arith) (omega arith) in
      rw first (ap (λ l. g a ∷ l) (filter_map_range (a + 1) n (λ k le less. agree k (omega (arith, le)) (omega (arith, less)))))

-- two functions that agree on a range
pub map_range : {B : Type 0} (f g : ℕ → B) (a n : ℕ) → ((k : ℕ) → a ≤ k → k < a + n → f k ≡ g k) → map f (range_with_len a n) ≡ map g (range_with_len a n)
map_range f g a zero agree = refl
map_range f g a (suc n) agree =
    λ i. agree a (omega arith) (omega arith) i ∷ map_range f g (a + 1) n (λ k le less. agree k (omega (arith, le)) (omega (arith, less))) i

-- what is made of items with their places, where each item is known by its place
pub map_enumerated : {A B : Type 0} (h : ℕ × A → B) (g : ℕ → A) (a : ℕ) (xs : List A) → ((k : ℕ) (d : A) → k < length xs → get_or xs k d ≡ g (a + k))
    → map h (enumerate_from a xs) ≡ map (λ k. h (k, g k)) (range_with_len a (length xs))
map_enumerated h g a [] each = refl
map_enumerated h g a (x ∷ xs) each =
    let first : x ≡ g a = each 0 x (omega arith) ∙ ap g (omega arith) in
    let rest = map_enumerated h g (a + 1) xs (λ k d less. each (suc k) d (omega (arith, less)) ∙ ap g (omega arith)) in
    λ i. h (a, first i) ∷ rest i

-- the item at a place of what is made of a range
pub slice_get_range : {B : Type 0} (g : ℕ → B) (a n k : ℕ) → k < n → slice_get (map g (range_with_len a n)) k ≡ Some (g (a + k))
slice_get_range g a zero k less = absurd (omega (arith, less))
slice_get_range g a (suc n) zero less = ap (λ m. Some (g m)) (omega arith)
slice_get_range g a (suc n) (suc k) less = slice_get_range g (a + 1) n k (omega (arith, less)) ∙ ap (λ m. Some (g m)) (omega arith)

-- numbers that rise are in order
pub range_sorted : (a n : ℕ) → IsSorted nat_cmp (range_with_len a n)
range_sorted a n = λ k d low within.
    let inside : k + 1 < n = omega (arith, within, length-range_with_len a n) in
    let here : k < n = omega (arith, inside) in
    ap (λ m. is_lt (nat_cmp m (get_or (range_with_len a n) k d))) (get_or-range_with_len a n (k + 1) d inside)
    ∙ ap (λ m. is_lt (nat_cmp (a + (k + 1)) m)) (get_or-range_with_len a n k d here)
    ∙ later (a + (k + 1)) (a + k) (omega arith)
  where
    later : (x y : ℕ) → y < x → is_lt (nat_cmp x y) ≡ false
    later x y less = grind (arith, nat_tests)

-- and so they are once those that pass a test stand before the others, sorted
pub sorted_parts : (p q : ℕ → Bool) → ((k : ℕ) → q k ≡ not (p k)) → (a n : ℕ)
    → sorted nat_cmp (filter p (range_with_len a n) ++ filter q (range_with_len a n)) ≡ range_with_len a n
sorted_parts p q other a n =
    let xs : List ℕ = range_with_len a n in
    sorted-permutation nat_cmp_total nat_cmp-IsAntisymmetric (filter p xs ++ filter q xs) xs
    (IsPermutation-sym xs (filter p xs ++ filter q xs) (IsPermutation-filter_both p q other xs))
    ∙ sorted-of_sorted nat_cmp_total xs (range_sorted a n)

-- what is made of items with their places, and of one more
pub map_enumerated_more : {A B : Type 0} (h : ℕ × A → B) (a : ℕ) (xs : List A) (x : A)
    → map h (enumerate_from a (xs ++ x ∷ [])) ≡ map h (enumerate_from a xs) ++ h (a + length xs, x) ∷ []
map_enumerated_more h a [] x = ap (λ n. h (n, x) ∷ []) (omega arith)
map_enumerated_more h a (y ∷ ys) x =
    ap (λ l. h (a, y) ∷ l)
    (map_enumerated_more h (a + 1) ys x ∙ ap (λ n. map h (enumerate_from (a + 1) ys) ++ h (n, x) ∷ []) (omega arith))
