-- What the lists hold that are made of others: by a function, by one that gives nothing of some items, and each item once. The
-- last place of a value.
use Rattle.std.proofs.Common.{◌≡◌, ◌⊎◌, ℕ, zero, suc, ◌<◌, inl, inr, ⊎_elim, Bool, true, false, List, [], ◌∷◌, ◌++◌, map, fold, Option, Some, None, refl, sym, ap, ◌∙◌, subst, arith, nat_eq, eq-eqb, eqb-true, if◌then◌else◌}
use Rattle.std.specs.List.{Contains, cons_option, filter_map, list_any}
use Rattle.std.proofs.lemmas.Bool.{cases_lt, true≢false}
use Rattle.std.proofs.lemmas.List.Elements.{Contains-append_cases, Contains-append_left, Contains-push, Contains-push_cases}
use Rattle.std.proofs.lemmas.Map.Views.{Contains-from_any}
use Rattle.input_db.specs.SetInDb.{first_places, with_member}

module _ {X : Type 0} where
  -- the first item of a list is in it
  pub holds_first : (x : X) (xs : List X) → Contains (x ∷ xs) x
  holds_first x xs = (0, omega arith, refl)

  -- and so is each further one
  pub holds_further : (x y : X) (xs : List X) → Contains xs y → Contains (x ∷ xs) y
  holds_further x y xs c = let within = c.1 in (suc c.0, omega (arith, within), c.2)

  pub nothing_in : {A : Type 0} (x : X) → Contains [] x → A
  nothing_in x c = let within = c.1 in absurd (omega (arith, within))

  -- an item of a list is the first or a further one
  pub first_or_further : (x y : X) (xs : List X) → Contains (x ∷ xs) y → (x ≡ y) ⊎ Contains xs y
  first_or_further x y xs c = ⊎_elim (λ one. inl (only one)) inr (Contains-append_cases (x ∷ []) xs y c)
    where
      only : Contains (x ∷ []) y → x ≡ y
      only one = ⊎_elim (λ none. nothing_in y none) (λ same. same) (Contains-push_cases [] x y one)

module _ {X Y : Type 0} (h : X → Option Y) where
  -- what is made of a list is made of one of its items
  pub made_of_some : (xs : List X) (y : Y) → Contains (filter_map h xs) y → (x : X) × Contains xs x × (h x ≡ Some y)
  made_of_some [] y c = nothing_in y c
  made_of_some (x ∷ xs) y c = by (h x) refl (λ c. further (made_of_some xs y c)) c
    where
      further : ((z : X) × Contains xs z × (h z ≡ Some y)) → (z : X) × Contains (x ∷ xs) z × (h z ≡ Some y)
      further rest = (rest.0, holds_further x rest.0 xs rest.1, rest.2)

      by : (o : Option Y) → h x ≡ o → (Contains (filter_map h xs) y → (z : X) × Contains (x ∷ xs) z × (h z ≡ Some y))
          → Contains (cons_option o (filter_map h xs)) y → (z : X) × Contains (x ∷ xs) z × (h z ≡ Some y)
      by None e later c = later c
      by (Some first) e later c =
          ⊎_elim (λ same. (x, holds_first x xs, e ∙ ap Some same)) later (first_or_further first y (filter_map h xs) c)

  -- and what is made of an item is among it
  pub all_made : (xs : List X) (x : X) (y : Y) → Contains xs x → h x ≡ Some y → Contains (filter_map h xs) y
  all_made [] x y c e = nothing_in x c
  all_made (first ∷ xs) x y c e = ⊎_elim
      (λ same. subst (λ o. Contains (cons_option o (filter_map h xs)) y) (sym (ap h same ∙ e)) (holds_first y (filter_map h xs)))
      (λ later. by (h first) (all_made xs x y later e)) (first_or_further first x xs c)
    where
      by : (o : Option Y) → Contains (filter_map h xs) y → Contains (cons_option o (filter_map h xs)) y
      by None c = c
      by (Some z) c = holds_further z y (filter_map h xs) c

module _ {X Y : Type 0} (f : X → Y) where
  -- the items of a list by a function are those of its items
  pub mapped_from : (xs : List X) (y : Y) → Contains (map f xs) y → (x : X) × Contains xs x × (f x ≡ y)
  mapped_from [] y c = nothing_in y c
  mapped_from (x ∷ xs) y c = ⊎_elim
      (λ same. (x, holds_first x xs, same))
      (λ later. let rest = mapped_from xs y later in (rest.0, holds_further x rest.0 xs rest.1, rest.2))
      (first_or_further (f x) y (map f xs) c)

  pub mapped_to : (xs : List X) (x : X) → Contains xs x → Contains (map f xs) (f x)
  mapped_to [] x c = nothing_in x c
  mapped_to (first ∷ xs) x c = ⊎_elim
      (λ same. subst (λ z. Contains (map f (first ∷ xs)) (f z)) same (holds_first (f first) (map f xs)))
      (λ later. holds_further (f first) (f x) (map f xs) (mapped_to xs x later)) (first_or_further first x xs c)

-- ---- the numbers of a list, each at its first place alone

placed_from : (front ns : List ℕ) (n : ℕ) → Contains (fold with_member front ns) n → Contains front n ⊎ Contains ns n
placed_from front [] n c = inl c
placed_from front (m ∷ ns) n c = ⊎_elim
    (λ put. by (list_any (nat_eq m) front) put) (λ later. inr (holds_further m n ns later)) (placed_from (with_member front m) ns n c)
  where
    by : (b : Bool) → Contains (if b then front else front ++ m ∷ []) n → Contains front n ⊎ Contains (m ∷ ns) n
    by true put = inl put
    by false put = ⊎_elim inl
        (λ same. inr (subst (Contains (m ∷ ns)) same (holds_first m ns))) (Contains-push_cases front m n put)

placed_all : (front ns : List ℕ) (n : ℕ) → Contains front n ⊎ Contains ns n → Contains (fold with_member front ns) n
placed_all front [] n either = ⊎_elim (λ c. c) (λ none. nothing_in n none) either
placed_all front (m ∷ ns) n either = placed_all (with_member front m) ns n (⊎_elim
    (λ c. inl (stays (list_any (nat_eq m) front) c))
    (λ c. ⊎_elim (λ same. inl (subst (Contains (with_member front m)) same (put (list_any (nat_eq m) front) refl))) inr
    (first_or_further m n ns c)) either)
  where
    stays : (b : Bool) → Contains front n → Contains (if b then front else front ++ m ∷ []) n
    stays true c = c
    stays false c = Contains-append_left front (m ∷ []) n c

    put : (b : Bool) → list_any (nat_eq m) front ≡ b → Contains (if b then front else front ++ m ∷ []) m
    put true found = Contains-from_any eqb-true m front found
    put false found = Contains-push front m

-- they are the numbers of the list
pub first_places_from : (ns : List ℕ) (n : ℕ) → Contains (first_places ns) n → Contains ns n
first_places_from ns n c = ⊎_elim (λ none. nothing_in n none) (λ c. c) (placed_from [] ns n c)

pub first_places_all : (ns : List ℕ) (n : ℕ) → Contains ns n → Contains (first_places ns) n
first_places_all ns n c = placed_all [] ns n (inr c)

-- ---- places

-- the last place below a bound at which a function has the value that it has at a given one
pub last_place : (f : ℕ → ℕ) (n k : ℕ) → k < n
    → (j : ℕ) × (j < n) × (f j ≡ f k) × ((later : ℕ) → j < later → later < n → f later ≡ f j → ⊥)
last_place f zero k below = absurd (omega arith)
last_place f (suc n) k below = by (λ before. last_place f n k before) (nat_eq (f n) (f k)) refl
  where
    by : (k < n → (j : ℕ) × (j < n) × (f j ≡ f k) × ((later : ℕ) → j < later → later < n → f later ≡ f j → ⊥))
        → (b : Bool) → nat_eq (f n) (f k) ≡ b
        → (j : ℕ) × (j < suc n) × (f j ≡ f k) × ((later : ℕ) → j < later → later < suc n → f later ≡ f j → ⊥)
    by earlier true is = (n, omega arith, eqb-true (f n) (f k) is, λ later after within same. omega arith)
    by earlier false is =
        let apart : f n ≡ f k → ⊥ = λ same. true≢false (sym (eq-eqb (f n) (f k) same) ∙ is) in
        let before : k < n =
        ⊎_elim (λ less. less) (λ past. absurd (apart (ap f (omega (arith, past, below))))) (cases_lt k n) in
        let rest = earlier before in
        let within_rest = rest.1 in (
          rest.0,
          omega (arith, within_rest),
          rest.2,
          λ later after within same. ⊎_elim (λ inside. rest.3 later after inside same)
              (λ past. apart (subst (λ m. f m ≡ f k) (omega (arith, past, within)) (same ∙ rest.2))) (cases_lt later n),
        )
