-- Maps from the numbers of crates, one entry after another.
use Rattle.std.proofs.Common.{◌≡◌, ℕ, zero, suc, ◌+◌, ◌<◌, inl, inr, Bool, true, false, List, [], ◌∷◌, ◌++◌, map, take, length, get_or, cond, eqb, ltb, Option, Some, None, refl, sym, ap, ◌∙◌, subst, arith, rules}
use Rattle.std.specs.BTreeMap as tree
use Rattle.std.specs.Prelude.{◌==◌, slice_get}
use Rattle.std.specs.List.{All}
use Rattle.std.specs.Map.{lookup}
use Rattle.std.specs.Option.{option_map, option_or}
use Rattle.std.specs.Ordering.{is_eq, nat_cmp}
use Rattle.std.specs.declared.cmp.Ordering.TheVariants.{Equal, Greater, Less}
use Rattle.std.proofs.lemmas.Bool.{cases_eq, cases_lt}
use Rattle.std.proofs.lemmas.Bool.Decides.{nat_tests}
use Rattle.std.proofs.lemmas.List.{length-map, length_push, take_more}
use Rattle.std.proofs.lemmas.Option.{slice_get-get_or, slice_get_past}
use Rattle.std.proofs.lemmas.List.{get_or_append_left, get_or_at, length-take-le}
use Rattle.base_text_paths.specs.Arena.{number_of}
use Rattle.base_text_paths.specs.contracts.arena.IdxOrd.TheImpl as orders
use Rattle.base_text_paths.specs.contracts.arena.IdxPartialEq.TheImpl as equals
use Rattle.crate_graph_values.specs.contracts.crate_data.CrateTag.{the_row}
use Rattle.crate_graph.specs.Extend.{Id, moved_entry}

-- comparing two numbers decides whether they are one
same_test : (a b : ℕ) → is_eq (nat_cmp a b) ≡ eqb a b
same_test a b = elim (ltb a b) as (λ t. ltb a b ≡ t → is_eq (cond t Less (cond (eqb a b) Equal Greater)) ≡ eqb a b) [
  | true ↦ λ is. let differ : eqb a b ≡ false = grind (arith, nat_tests) in sym differ
  | false ↦ λ is. elim (eqb a b) as (λ t. is_eq (cond t Equal Greater) ≡ t) [ true ↦ refl | false ↦ refl ]
] refl

-- the numbers of crates are ordered as numbers
ids_compare : (x y : Id) → (orders.ghosts the_row).cmp x y ≡ nat_cmp (number_of x) (number_of y)
ids_compare x y = search rules

-- the numbers of crates are equal as numbers
pub ids_equal : (x y : Id) → (equals.ghosts the_row).eq x y ≡ (number_of x == number_of y)
ids_equal x y = search rules

-- the entry at a crate is that of its number
pub is_at_number : (key q : Id) → tree.is_at ((orders.ghosts the_row).cmp key) q ≡ eqb (number_of key) (number_of q)
is_at_number key q = ap is_eq (ids_compare key q) ∙ same_test (number_of key) (number_of q)

-- what is found in a list that is one longer
slice_get-push : {X : Type 0} (xs : List X) (y : X) (n : ℕ)
    → slice_get (xs ++ y ∷ []) n ≡ cond (eqb (length xs) n) (Some y) (slice_get xs n)
slice_get-push xs y n = elim (cases_eq n (length xs)) [
  | inl same ↦
      let test : eqb (length xs) n ≡ true = grind (arith, nat_tests) in
      let last : get_or (xs ++ y ∷ []) n y ≡ y = get_or_at xs y [] y n (sym same) in
      slice_get-get_or (xs ++ y ∷ []) n y (omega (arith, length_push xs y)) ∙ ap Some last
      ∙ sym (ap (λ t. cond t (Some y) (slice_get xs n)) test)
  | inr differ ↦
      let test : eqb (length xs) n ≡ false = grind (arith, nat_tests) in
      let other : slice_get (xs ++ y ∷ []) n ≡ slice_get xs n = elim (cases_lt n (length xs)) [
        | inl within ↦
            slice_get-get_or (xs ++ y ∷ []) n y (omega (arith, length_push xs y))
            ∙ ap Some (get_or_append_left xs (y ∷ []) y n within) ∙ sym (slice_get-get_or xs n y within)
        | inr past ↦
            slice_get_past (xs ++ y ∷ []) n (omega (arith, length_push xs y)) ∙ sym (slice_get_past xs n past)
      ] in
      other ∙ sym (ap (λ t. cond t (Some y) (slice_get xs n)) test)
]

-- what is found among the first items of a list, of which there is one more
pub slice_get-take_more : {X : Type 0} (xs : List X) (i n : ℕ) (x d : X) → i < length xs → x ≡ get_or xs i d
    → slice_get (take (i + 1) xs) n ≡ cond (eqb i n) (Some x) (slice_get (take i xs) n)
slice_get-take_more xs i n x d within is =
    let front : take (i + 1) xs ≡ take i xs ++ x ∷ [] = take_more xs i d within ∙ ap (λ z. take i xs ++ z ∷ []) (sym is) in
    let long : length (take i xs) ≡ i = length-take-le i xs (omega arith) in
    ap (λ ys. slice_get ys n) front ∙ slice_get-push (take i xs) x n
    ∙ ap (λ k. cond (eqb k n) (Some x) (slice_get (take i xs) n)) long

-- one more number is in the map
pub numbers_more : (new_numbers : List ℕ) (i new : ℕ) (key value q : Id) (before after : Option Id)
    → i < length new_numbers → new ≡ get_or new_numbers i 0 → number_of key ≡ i → number_of value ≡ new
    → after ≡ cond (eqb (number_of key) (number_of q)) (Some value) before
    → option_map number_of before ≡ slice_get (take i new_numbers) (number_of q)
    → option_map number_of after ≡ slice_get (take (i + 1) new_numbers) (number_of q)
numbers_more new_numbers i new key value q before after within is at gives step old =
    let found = slice_get (take i new_numbers) (number_of q) in
    let cases : (t : Bool) → option_map number_of (cond t (Some value) before) ≡ cond t (Some new) found = λ t.
    elim t as (λ t. option_map number_of (cond t (Some value) before) ≡ cond t (Some new) found) [
      | true ↦ ap Some gives
      | false ↦ old
    ] in
    ap (option_map number_of) step ∙ cases (eqb (number_of key) (number_of q))
    ∙ ap (λ k. cond (eqb k (number_of q)) (Some new) found) at
    ∙ sym (slice_get-take_more new_numbers i (number_of q) new 0 within is)

-- a choice of which the second is missing
pub or_none : {X : Type 0} (o : Option X) → option_or o None ≡ o
or_none None = refl
or_none (Some x) = refl

module _ {V : Type 0} (new_of : Id → Id) (id : Id) where
  -- nothing is moved yet
  pub moved_none : (es : List (Id × V)) (before : Option V) → before ≡ None → option_or (moved_entry new_of es id) before ≡ moved_entry new_of es id
  moved_none es before none = ap (option_or (moved_entry new_of es id)) none ∙ or_none (moved_entry new_of es id)

  -- one more entry is moved
  pub moved_more : (e : Id × V) (left rest : List (Id × V)) (before after whole : Option V) → left ≡ e ∷ rest → after ≡ cond (eqb (number_of (new_of e.0)) (number_of id)) (Some e.1) before
      → option_or (moved_entry new_of left id) before ≡ whole → option_or (moved_entry new_of rest id) after ≡ whole
  moved_more e left rest before after whole is step old =
      let cases : (o : Option V) (t : Bool) → option_or o (cond t (Some e.1) before) ≡ option_or (option_or o (cond t (Some e.1) None)) before = λ o t.
      elim o as (λ o. option_or o (cond t (Some e.1) before) ≡ option_or (option_or o (cond t (Some e.1) None)) before) [
        | None ↦ elim t as (λ t. cond t (Some e.1) before ≡ option_or (cond t (Some e.1) None) before) [ true ↦ refl | false ↦ refl ]
        | Some x ↦ refl
      ] in
      ap (option_or (moved_entry new_of rest id)) step ∙ cases (moved_entry new_of rest id) (eqb (number_of (new_of e.0)) (number_of id)) ∙ ap (λ es. option_or (moved_entry new_of es id) before) (sym is) ∙ old

-- what holds of the keys holds of each entry's
pub keys_hold : {V : Type 0} (P : Id → Type 0) (es : List (Id × V)) → All P (map (λ e. e.0) es) → All (λ e. P e.0) es
keys_hold P es all k d within = subst P (key_at es k d within) (all k d.0 (long es k within))
  where
    long : {V : Type 0} (es : List (Id × V)) (k : ℕ) → k < length es → k < length (map (λ (e : Id × V). e.0) es)
    long es k within = omega (arith, length-map es (λ e. e.0))

    key_at : {V : Type 0} (es : List (Id × V)) (k : ℕ) (d : Id × V) → k < length es → get_or (map (λ (e : Id × V). e.0) es) k d.0 ≡ (get_or es k d).0
    key_at [] k d within = absurd (omega arith)
    key_at (e ∷ es) zero d within = refl
    key_at (e ∷ es) (suc k) d within = key_at es k d (omega arith)

-- nothing is found where there is nothing
pub lookup_none : {K V : Type 0} (test : K → Bool) (es : List (K × V)) → es ≡ [] → lookup test es ≡ None
lookup_none test es empty = ap (lookup test) empty
