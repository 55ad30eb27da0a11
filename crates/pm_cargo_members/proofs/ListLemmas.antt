-- What a list contains, by its parts; and ascending lists, which are equal where they contain the same.
use Rattle.std.proofs.Common.{◌≡◌, ℕ, zero, suc, ◌+◌, ◌<◌, ◌⊎◌, inl, inr, Bool, true, false, cond, ◌||◌, List, [], ◌∷◌, map, filter, length, get_or, flat_map, refl, sym, ap, subst, ◌∙◌, arith}
use Rattle.std.specs.List.{Contains, list_any, range_with_len}
use Rattle.std.specs.List.Sorted.{IsStrictlySortedBy}
use Rattle.std.specs.Ordering.{nat_cmp}
use Rattle.std.proofs.lemmas.Bool.{true≢false}
use Rattle.std.proofs.lemmas.List.{length-map, get_or-map}
use Rattle.std.proofs.lemmas.List.Elements.{Contains-append_cases, Contains-append_left, Contains-append_right, All-contains, All-contains_itself, All-filter, filter_passes}
use Rattle.std.proofs.lemmas.List.FromFn.{length-range_with_len, get_or-range_with_len}
use Rattle.std.proofs.lemmas.Map.Keys.{below_from_sorted, sorted_from_strictly_increasing, sorted_tail}
use Rattle.graph_base.proofs.ReachLemmas.{none_in}

module _ {X : Type 0} where
  pub contains_here : (x : X) (xs : List X) → Contains (x ∷ xs) x
  contains_here x xs = (0, omega arith, refl)

  pub contains_later : (x z : X) (xs : List X) → Contains xs z → Contains (x ∷ xs) z
  contains_later x z xs c = (suc c.0, omega (arith, c.1), c.2)

  place_cases : (x z : X) (xs : List X) (k : ℕ) → k < length (x ∷ xs) → get_or (x ∷ xs) k z ≡ z → (x ≡ z) ⊎ Contains xs z
  place_cases x z xs zero l e = inl e
  place_cases x z xs (suc k) l e = inr (k, omega arith, e)

  -- it is the first item, or among the others
  pub cons_cases : (x z : X) (xs : List X) → Contains (x ∷ xs) z → (x ≡ z) ⊎ Contains xs z
  cons_cases x z xs c = place_cases x z xs c.0 c.1 c.2

  -- an item that passes a test is what makes some item pass it
  pub any_of : (p : X → Bool) (xs : List X) (x : X) → Contains xs x → p x ≡ true → list_any p xs ≡ true
  any_of p [] x c h = absurd (none_in x c)
  any_of p (y ∷ ys) x c h = elim (cons_cases y x ys c) [
    | inl is ↦ left (p y) (ap p is ∙ h)
    | inr more ↦ right (p y) (any_of p ys x more h)
  ]
    where
      left : (b : Bool) → b ≡ true → (b || list_any p ys) ≡ true
      left true e = refl
      left false e = absurd (true≢false (sym e))

      right : (b : Bool) → list_any p ys ≡ true → (b || list_any p ys) ≡ true
      right true e = refl
      right false e = e

  pub any_in : (p : X → Bool) (xs : List X) → list_any p xs ≡ true → (x : X) × Contains xs x × (p x ≡ true)
  any_in p [] is = absurd (true≢false (sym is))
  any_in p (y ∷ ys) is = by (p y) refl is (any_in p ys)
    where
      by : (b : Bool) → p y ≡ b → (b || list_any p ys) ≡ true → (list_any p ys ≡ true → (x : X) × Contains ys x × (p x ≡ true)) → (x : X) × Contains (y ∷ ys) x × (p x ≡ true)
      by true e h rest = (y, contains_here y ys, e)
      by false e h rest = let r = rest h in (r.0, contains_later y r.0 ys r.1, r.2)

  -- a filter keeps what passes, and nothing else
  pub filter_of : (p : X → Bool) (xs : List X) (x : X) → Contains xs x → p x ≡ true → Contains (filter p xs) x
  filter_of p [] x c h = c
  filter_of p (y ∷ ys) x c h = elim (cons_cases y x ys c) [
    | inl is ↦ here (p y) (ap p is ∙ h) is
    | inr more ↦ later (p y) (filter_of p ys x more h)
  ]
    where
      here : (b : Bool) → b ≡ true → y ≡ x → Contains (cond b (y ∷ filter p ys) (filter p ys)) x
      here true e is = subst (Contains (y ∷ filter p ys)) is (contains_here y (filter p ys))
      here false e is = absurd (true≢false (sym e))

      later : (b : Bool) → Contains (filter p ys) x → Contains (cond b (y ∷ filter p ys) (filter p ys)) x
      later true d = contains_later y x (filter p ys) d
      later false d = d

  pub filter_in : (p : X → Bool) (xs : List X) (x : X) → Contains (filter p xs) x → Contains xs x × (p x ≡ true)
  filter_in p xs x c = (All-contains (Contains xs) (filter p xs) x (All-filter p (Contains xs) xs (All-contains_itself xs)) c, All-contains (λ y. p y ≡ true) (filter p xs) x (filter_passes p xs) c)

module _ {A B : Type 0} (f : A → B) where
  pub contains_map : (xs : List A) (x : A) → Contains xs x → Contains (map f xs) (f x)
  contains_map xs x c = (c.0, omega (arith, c.1, length-map xs f), get_or-map f xs c.0 x (f x) c.1 ∙ ap f c.2)

  pub from_map : (xs : List A) (y : B) → Contains (map f xs) y → (x : A) × Contains xs x × (f x ≡ y)
  from_map [] y c = absurd (none_in y c)
  from_map (x ∷ xs) y c = elim (cons_cases (f x) y (map f xs) c) [
    | inl is ↦ (x, contains_here x xs, is)
    | inr more ↦ let r = from_map xs y more in (r.0, contains_later x r.0 xs r.1, r.2)
  ]

module _ {A B : Type 0} (f : A → List B) where
  pub flat_map_of : (xs : List A) (x : A) (y : B) → Contains xs x → Contains (f x) y → Contains (flat_map f xs) y
  flat_map_of [] x y c d = absurd (none_in x c)
  flat_map_of (z ∷ zs) x y c d = elim (cons_cases z x zs c) [
    | inl is ↦ Contains-append_left (f z) (flat_map f zs) y (subst (λ v. Contains (f v) y) (sym is) d)
    | inr more ↦ Contains-append_right (f z) (flat_map f zs) y (flat_map_of zs x y more d)
  ]

  pub flat_map_in : (xs : List A) (y : B) → Contains (flat_map f xs) y → (x : A) × Contains xs x × Contains (f x) y
  flat_map_in [] y c = absurd (none_in y c)
  flat_map_in (z ∷ zs) y c = elim (Contains-append_cases (f z) (flat_map f zs) y c) [
    | inl here ↦ (z, contains_here z zs, here)
    | inr more ↦ let r = flat_map_in zs y more in (r.0, contains_later z r.0 zs r.1, r.2)
  ]

-- ---- ascending lists

-- the first item is below those after it
above_first : (x b : ℕ) (xs : List ℕ) → IsStrictlySortedBy nat_cmp (x ∷ xs) → Contains xs b → x < b
above_first x b xs s c = subst (λ z. x < z) c.2 (below_from_sorted (x ∷ xs) 0 (suc c.0) b s (omega arith) (omega (arith, c.1)))

module _ (x y : ℕ) (xs ys : List ℕ) (s : IsStrictlySortedBy nat_cmp (x ∷ xs)) (t : IsStrictlySortedBy nat_cmp (y ∷ ys))
    (on : (b : ℕ) → Contains (x ∷ xs) b → Contains (y ∷ ys) b) (back : (b : ℕ) → Contains (y ∷ ys) b → Contains (x ∷ xs) b) where
  same_first : x ≡ y
  same_first = elim (cons_cases y x ys (on x (contains_here x xs))) [
    | inl is ↦ sym is
    | inr later ↦ elim (cons_cases x y xs (back y (contains_here y ys))) [
      | inl is ↦ is
      | inr other ↦ absurd (omega (arith, above_first y x ys t later, above_first x y xs s other))
    ]
  ]

  on_rest : (b : ℕ) → Contains xs b → Contains ys b
  on_rest b c = elim (cons_cases y b ys (on b (contains_later x b xs c))) [
    | inl is ↦ absurd (omega (arith, above_first x b xs s c, same_first, is))
    | inr more ↦ more
  ]

  back_rest : (b : ℕ) → Contains ys b → Contains xs b
  back_rest b c = elim (cons_cases x b xs (back b (contains_later y b ys c))) [
    | inl is ↦ absurd (omega (arith, above_first y b ys t c, same_first, is))
    | inr more ↦ more
  ]

-- ascending lists that contain the same are equal
pub sorted_same : (xs ys : List ℕ) → IsStrictlySortedBy nat_cmp xs → IsStrictlySortedBy nat_cmp ys
    → ((b : ℕ) → Contains xs b → Contains ys b) → ((b : ℕ) → Contains ys b → Contains xs b) → xs ≡ ys
sorted_same [] [] s t on back = refl
sorted_same [] (y ∷ ys) s t on back = absurd (none_in y (back y (contains_here y ys)))
sorted_same (x ∷ xs) [] s t on back = absurd (none_in x (on x (contains_here x xs)))
sorted_same (x ∷ xs) (y ∷ ys) s t on back =
    let first = same_first x y xs ys s t on back in
    let rest = sorted_same xs ys (sorted_tail nat_cmp x xs s) (sorted_tail nat_cmp y ys t) (on_rest x y xs ys s t on back) (back_rest x y xs ys s t on back) in
    λ i. first i ∷ rest i

-- the numbers from one on are ascending
pub range_sorted : (a n : ℕ) → IsStrictlySortedBy nat_cmp (range_with_len a n)
range_sorted a n = sorted_from_strictly_increasing (range_with_len a n) (λ k within.
    let long = length-range_with_len a n in
    omega (arith, get_or-range_with_len a n k 0 (omega arith), get_or-range_with_len a n (k + 1) 0 (omega arith)))
