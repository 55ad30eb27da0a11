-- Lists whose items are each changed by a function of their place, or written as a whole.
use Rattle.std.proofs.Common.{◌≡◌, ◌≢◌, ℕ, ◌+◌, ◌<◌, ◌≤◌, zero, suc, List, [], ◌∷◌, ◌++◌, length, map, get_or, set, take, drop, refl, sym, ap, ◌∙◌, arith}
use Rattle.std.proofs.lemmas.List.{append-nil, drop_all, take_all}
use Rattle.std.proofs.lemmas.List.Elements.{All-cons, All-head, All-nil, All-tail}
use Rattle.std.specs.List.{All, enumerate_from}

module _ {X : Type 0} (f : ℕ × X → X) where
  -- the items, the first i of which are changed; they stand from place n on
  abbrev pub changed_upto : ℕ → ℕ → List X → List X
  changed_upto n i xs = map f (enumerate_from n (take i xs)) ++ drop i xs

  -- one more is changed
  pub changed_upto-more : (n i : ℕ) (xs : List X) (x : X) → i < length xs → x ≡ get_or xs i x → set (changed_upto n i xs) i (f (n + i, x)) ≡ changed_upto n (suc i) xs
  changed_upto-more n i [] x within is = absurd (omega arith)
  changed_upto-more n zero (y ∷ xs) x within is =
      let place : n + 0 ≡ n = omega arith in
      (λ j. f (place j, is j) ∷ xs)
  changed_upto-more n (suc i) (y ∷ xs) x within is =
      let rest : set (changed_upto (n + 1) i xs) i (f (n + 1 + i, x)) ≡ changed_upto (n + 1) (suc i) xs = changed_upto-more (n + 1) i xs x (omega arith) is in
      let place : n + suc i ≡ n + 1 + i = omega arith in
      ap (λ m. f (n, y) ∷ set (changed_upto (n + 1) i xs) i (f (m, x))) place ∙ ap (λ l. f (n, y) ∷ l) rest

  -- the next item is as it was
  pub changed_upto-next : (n i : ℕ) (xs : List X) (d : X) → get_or (changed_upto n i xs) i d ≡ get_or xs i d
  changed_upto-next n zero [] d = refl
  changed_upto-next n zero (y ∷ xs) d = refl
  changed_upto-next n (suc i) [] d = refl
  changed_upto-next n (suc i) (y ∷ xs) d = changed_upto-next (n + 1) i xs d

  -- there are as many items as before
  pub length-changed_upto : (n i : ℕ) (xs : List X) → length (changed_upto n i xs) ≡ length xs
  length-changed_upto n zero [] = refl
  length-changed_upto n zero (y ∷ xs) = refl
  length-changed_upto n (suc i) [] = refl
  length-changed_upto n (suc i) (y ∷ xs) = ap suc (length-changed_upto (n + 1) i xs)

  -- all are changed
  pub changed_upto-all : (n i : ℕ) (xs : List X) → length xs ≤ i → changed_upto n i xs ≡ map f (enumerate_from n xs)
  changed_upto-all n zero [] all = refl
  changed_upto-all n zero (y ∷ xs) all = absurd (omega arith)
  changed_upto-all n (suc i) [] all = refl
  changed_upto-all n (suc i) (y ∷ xs) all = ap (λ l. f (n, y) ∷ l) (changed_upto-all (n + 1) i xs (omega arith))

  -- where no item changes
  pub changed-none : (n : ℕ) (xs : List X) → ((k : ℕ) (y : X) → n ≤ k → f (k, y) ≡ y) → map f (enumerate_from n xs) ≡ xs
  changed-none n [] same = refl
  changed-none n (y ∷ xs) same =
      let rest : map f (enumerate_from (n + 1) xs) ≡ xs = changed-none (n + 1) xs (λ k y l. same k y (omega arith)) in
      (λ j. same n y (omega arith) j ∷ rest j)

  -- where only one item changes, it is set
  pub changed-one : (n i : ℕ) (xs : List X) (x : X) → i < length xs → x ≡ get_or xs i x → ((k : ℕ) (y : X) → k ≢ n + i → f (k, y) ≡ y)
      → map f (enumerate_from n xs) ≡ set xs i (f (n + i, x))
  changed-one n i [] x within is others = absurd (omega arith)
  changed-one n zero (y ∷ xs) x within is others =
      let place : n ≡ n + 0 = omega arith in
      let head : f (n, y) ≡ f (n + 0, x) = (λ j. f (place j, sym is j)) in
      let rest : map f (enumerate_from (n + 1) xs) ≡ xs = changed-none (n + 1) xs (λ k y l. others k y (omega arith)) in
      (λ j. head j ∷ rest j)
  changed-one n (suc i) (y ∷ xs) x within is others =
      let place : n + 1 + i ≡ n + suc i = omega arith in
      let head : f (n, y) ≡ y = others n y (omega arith) in
      let rest : map f (enumerate_from (n + 1) xs) ≡ set xs i (f (n + 1 + i, x)) = changed-one (n + 1) i xs x (omega arith) is (λ k y ne. others k y (omega arith)) in
      (λ j. head j ∷ (rest ∙ ap (λ m. set xs i (f (m, x))) place) j)

-- changes one after another are one change
pub changed-twice : {X : Type 0} (f g h : ℕ × X → X) → ((p : ℕ × X) → g (p.0, f p) ≡ h p) → (n : ℕ) (xs : List X)
    → map g (enumerate_from n (map f (enumerate_from n xs))) ≡ map h (enumerate_from n xs)
changed-twice f g h same n [] = refl
changed-twice f g h same n (y ∷ xs) =
    let rest : map g (enumerate_from (n + 1) (map f (enumerate_from (n + 1) xs))) ≡ map h (enumerate_from (n + 1) xs) = changed-twice f g h same (n + 1) xs in
    (λ j. same (n, y) j ∷ rest j)

-- changes that agree are one
pub changed-same : {X : Type 0} (f g : ℕ × X → X) → ((p : ℕ × X) → f p ≡ g p) → (n : ℕ) (xs : List X) → map f (enumerate_from n xs) ≡ map g (enumerate_from n xs)
changed-same f g same n [] = refl
changed-same f g same n (y ∷ xs) =
    let rest : map f (enumerate_from (n + 1) xs) ≡ map g (enumerate_from (n + 1) xs) = changed-same f g same (n + 1) xs in
    (λ j. same (n, y) j ∷ rest j)

module _ {X : Type 0} (f : ℕ × X → X) where
  -- there are as many as before
  pub length-changed : (n : ℕ) (xs : List X) → length (map f (enumerate_from n xs)) ≡ length xs
  length-changed n [] = refl
  length-changed n (x ∷ xs) = ap suc (length-changed (n + 1) xs)

  -- what each change makes of an item holds of all
  pub changed-each : (P Q : X → Type 0) → ((k : ℕ) (x : X) → P x → Q (f (k, x))) → (n : ℕ) (xs : List X) → All P xs → All Q (map f (enumerate_from n xs))
  changed-each P Q makes n [] all = All-nil Q
  changed-each P Q makes n (x ∷ xs) all =
      All-cons Q (f (n, x)) (map f (enumerate_from (n + 1) xs)) (makes n x (All-head P x xs all)) (changed-each P Q makes (n + 1) xs (All-tail P x xs all))

-- what is written through a slice of a whole list is the list
pub same_slice : {X : Type 0} (len : ℕ) (new items : List X) → length new ≡ length items → length new ≡ len → take len (new ++ drop (length new) items) ≡ new
same_slice len new items long same =
    ap (λ rest. take len (new ++ rest)) (drop_all (length new) items (omega (arith, long))) ∙ ap (take len) (append-nil new) ∙ take_all len new (omega (arith, same))
