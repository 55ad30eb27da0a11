-- The place of the last item of a list that passes a test, and how a search in a list in order finds it.
use Rattle.std.proofs.Common.{◌≡◌, ℕ, ◌-◌, ◌<◌, ◌≤◌, zero, suc, inl, inr, List, [], ◌∷◌, Bool, true, false, cond, Option, Some, None, Ordering, length, get_or, refl, sym, ap, arith, true≢false}
use Rattle.std.specs.Option.{option_map, option_or}
use Rattle.std.specs.List.Sorted.{IsPartitionPoint, IsPartitionedBy, IsSortedBy}
use Rattle.std.specs.Cmp.{IsTotalOrder}
use Rattle.std.specs.Ordering.{is_eq, is_le, is_lt, ordering_index}
use Rattle.std.specs.declared.cmp.Ordering.TheVariants.{Less, Equal, Greater}
use Rattle.std.proofs.lemmas.Bool.{cases_lt}
use Rattle.std.proofs.lemmas.List.Sorted.{searchable_from_sorted}
use Rattle.pm_cargo_reading.specs.Nodes.{last_place}

module _ {X : Type 0} (p : X → Bool) where
  -- no item passes
  pub last_place-none : (xs : List X) → ((k : ℕ) (d : X) → k < length xs → p (get_or xs k d) ≡ false) → last_place p xs ≡ None
  last_place-none [] h = refl
  last_place-none (x ∷ xs) h =
      let rest : last_place p xs ≡ None = last_place-none xs (λ k d l. h (suc k) d (omega arith)) in
      let here : p x ≡ false = h zero x (omega arith) in
      (λ i. option_or (option_map suc (rest i)) (cond (here i) (Some 0) None))

  -- an item passes, and none after it
  pub last_place-at : (xs : List X) (i : ℕ) → i < length xs → ((d : X) → p (get_or xs i d) ≡ true)
      → ((k : ℕ) (d : X) → i < k → k < length xs → p (get_or xs k d) ≡ false) → last_place p xs ≡ Some i
  last_place-at [] i within here after = absurd (omega arith)
  last_place-at (x ∷ xs) zero within here after =
      let rest : last_place p xs ≡ None = last_place-none xs (λ k d l. after (suc k) d (omega arith) (omega arith)) in
      (λ i. option_or (option_map suc (rest i)) (cond (here x i) (Some 0) None))
  last_place-at (x ∷ xs) (suc i) within here after =
      let rest : last_place p xs ≡ Some i = last_place-at xs i (omega arith) here (λ k d l m. after (suc k) d (omega arith) (omega arith)) in
      ap (λ o. option_or (option_map suc o) (cond (p x) (Some 0) None)) rest

  -- the place is one of the list
  pub last_place-within : (xs : List X) (i : ℕ) → last_place p xs ≡ Some i → i < length xs
  last_place-within [] i is = cc
  last_place-within (x ∷ xs) i is = by (last_place p xs) refl (p x) is (λ k e. last_place-within xs k e)
    where
      by : (o : Option ℕ) → last_place p xs ≡ o → (b : Bool) → option_or (option_map suc o) (cond b (Some 0) None) ≡ Some i
          → ((k : ℕ) → last_place p xs ≡ Some k → k < length xs) → i < length (x ∷ xs)
      by (Some k) e b h rest = let same : suc k ≡ i = cc in let below = rest k e in omega (arith, below, same)
      by None e true h rest = let same : 0 ≡ i = cc in omega (arith, same)
      by None e false h rest = cc

-- tests that agree find one place
pub last_place-same : {X : Type 0} (p q : X → Bool) → ((x : X) → p x ≡ q x) → (xs : List X) → last_place p xs ≡ last_place q xs
last_place-same p q h [] = refl
last_place-same p q h (x ∷ xs) =
    let rest : last_place p xs ≡ last_place q xs = last_place-same p q h xs in
    (λ i. option_or (option_map suc (rest i)) (cond (h x i) (Some 0) None))

at_most : (r s : Ordering) → ordering_index r ≤ ordering_index s → is_le s ≡ true → is_le r ≡ true
at_most Less s up h = refl
at_most Equal s up h = refl
at_most Greater Less up h = absurd (omega arith)
at_most Greater Equal up h = absurd (omega arith)
at_most Greater Greater up h = h

not_equal : (r : Ordering) → is_le r ≡ false → is_eq r ≡ false
not_equal Less h = absurd (true≢false h)
not_equal Equal h = absurd (true≢false h)
not_equal Greater h = refl

still_less : (r s : Ordering) → ordering_index r ≤ ordering_index s → is_le s ≡ true → is_eq s ≡ false → is_eq r ≡ false
still_less Less s up le ne = refl
still_less Greater s up le ne = refl
still_less Equal Less up le ne = absurd (omega arith)
still_less Equal Equal up le ne = ne
still_less Equal Greater up le ne = absurd (true≢false (sym le))

module _ {K : Type 0} {R : K → K → Ordering} (o : IsTotalOrder R) {X : Type 0} (key : X → K) (xs : List X) (x : K)
    (sorted : IsSortedBy (λ a b. is_lt (R (key a) (key b))) xs) where
  rising : (i j : ℕ) (d : X) → i ≤ j → j < length xs → ordering_index (R (key (get_or xs i d)) x) ≤ ordering_index (R (key (get_or xs j d)) x)
  rising = searchable_from_sorted o key xs x sorted

  -- no item at most the key comes after one above it
  pub partitioned_at_most : IsPartitionedBy (λ y. is_le (R (key y) x)) xs
  partitioned_at_most i j d le within h = at_most (R (key (get_or xs i d)) x) (R (key (get_or xs j d)) x) (rising i j d le within) h

  module _ (end : ℕ) (bound : end ≤ length xs) (split : IsPartitionPoint (λ y. is_le (R (key y) x) ≡ true) (λ y. is_le (R (key y) x) ≡ false) xs end) where
    -- the last item at most the key is the last of the key
    pub last_place-before_end : 0 < end → ((d : X) → is_eq (R (key (get_or xs (end - 1) d)) x) ≡ true) → last_place (λ y. is_eq (R (key y) x)) xs ≡ Some (end - 1)
    last_place-before_end some here =
        last_place-at (λ y. is_eq (R (key y) x)) xs (end - 1) (omega arith) here
        (λ k d above within. not_equal (R (key (get_or xs k d)) x) (split.1 k d (omega arith) within))

    -- it is below the key, and so is each before it
    pub last_place-no_end : (0 < end → (d : X) → is_eq (R (key (get_or xs (end - 1) d)) x) ≡ false) → last_place (λ y. is_eq (R (key y) x)) xs ≡ None
    last_place-no_end other =
        last_place-none (λ y. is_eq (R (key y) x)) xs (λ k d within. elim (cases_lt k end) [
          | inl before ↦ still_less (R (key (get_or xs k d)) x) (R (key (get_or xs (end - 1) d)) x) (rising k (end - 1) d (omega arith) (omega arith))
              (split.0 (end - 1) d (omega arith) (omega arith)) (other (omega arith) d)
          | inr after ↦ not_equal (R (key (get_or xs k d)) x) (split.1 k d after within)
        ])
