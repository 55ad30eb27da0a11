-- Names in order, taken one behind the other.
use Rattle.std.proofs.Common.{◌≡◌, ℕ, Bool, true, false, cond, List, [], ◌∷◌, refl, sym, ap, subst, ◌∙◌, Some, None}
use Rattle.std.proofs.lemmas.Bool.{false≢true, cond-true, cond-false}
use Rattle.std.specs.Cmp.{tied_itself}
use Rattle.std.specs.Cmp.Lexicographic.{nat_list_cmp_total}
use Rattle.std.specs.List.{AllByRecursion, filter, find}
use Rattle.std.specs.List.Sorted.{IsStrictlySortedBy}
use Rattle.std.specs.Ordering.{is_lt, ordering_reverse}
use Rattle.std.specs.declared.cmp.Ordering.TheVariants.{Less, Equal, Greater}
use Rattle.base_values.specs.ByText.{text_cmp}
use Rattle.base_text_paths.proofs.Names.{AreNames}
use Rattle.base_text.specs.MemoryTree.{first_after}

-- the names behind a name
abbrev pub names_after : List ℕ → List (List ℕ) → List (List ℕ)
names_after name names = filter (λ other. is_lt (text_cmp name other)) names

-- every name is behind the empty text
pub names_after-none : (names : List (List ℕ)) → AreNames names → names_after [] names ≡ names
names_after-none [] all = refl
names_after-none ([] ∷ names) all = absurd (false≢true all.0.counts)
names_after-none ((b ∷ bs) ∷ names) all = ap (λ rest. (b ∷ bs) ∷ rest) (names_after-none names all.1)

-- where none is first, none is
pub names_after-end : (name : List ℕ) (names : List (List ℕ)) → first_after name names ≡ None → names_after name names ≡ []
names_after-end name [] e = refl
names_after-end name (x ∷ xs) e =
    (elim (is_lt (text_cmp name x)) as (λ b. cond b (Some x) (first_after name xs) ≡ None → cond b (x ∷ names_after name xs) (names_after name xs) ≡ []) [
      | true ↦ λ h. cc
      | false ↦ λ h. names_after-end name xs h
    ]) e

-- names that are all behind a name
all_after : (name : List ℕ) (names : List (List ℕ)) → AllByRecursion (λ x. text_cmp name x ≡ Less) names → names_after name names ≡ names
all_after name [] all = refl
all_after name (x ∷ xs) all = cond-true _ _ _ (ap is_lt all.0) ∙ ap (λ rest. x ∷ rest) (all_after name xs all.1)

is_less : (x y : List ℕ) → is_lt (text_cmp x y) ≡ true → text_cmp x y ≡ Less
is_less x y e =
    (elim (text_cmp x y) as (λ r. is_lt r ≡ true → r ≡ Less) [
      | Less ↦ λ h. refl
      | Equal ↦ λ h. absurd (false≢true h)
      | Greater ↦ λ h. absurd (false≢true h)
    ]) e

all_further : (x y : List ℕ) (names : List (List ℕ)) → text_cmp x y ≡ Less → AllByRecursion (λ n. text_cmp y n ≡ Less) names → AllByRecursion (λ n. text_cmp x n ≡ Less) names
all_further x y [] e all = tt
all_further x y (n ∷ names) e all = (nat_list_cmp_total.trans x y n e all.0, all_further x y names e all.1)

-- what a search among names gives is one of them
found_among : (P : List ℕ → Type 0) (p : List ℕ → Bool) (names : List (List ℕ)) (found : List ℕ) → AllByRecursion P names → find p names ≡ Some found → P found
found_among P p [] found all e = cc
found_among P p (x ∷ xs) found all e =
    (elim (p x) as (λ b. cond b (Some x) (find p xs) ≡ Some found → P found) [
      | true ↦ λ h. let same : x ≡ found = cc in subst P same all.0
      | false ↦ λ h. found_among P p xs found all.1 h
    ]) e

-- the first name behind a name comes before the others that are
pub names_after-first : (name next : List ℕ) (names : List (List ℕ)) → IsStrictlySortedBy text_cmp names → first_after name names ≡ Some next → names_after name names ≡ next ∷ names_after next names
unfolding IsStrictlySortedBy
names_after-first name next [] sorted e = cc
names_after-first name next (x ∷ xs) sorted e = by (is_lt (text_cmp name x)) refl e (names_after-first name next xs sorted.1)
  where
    here : is_lt (text_cmp name x) ≡ true → x ∷ names_after name xs ≡ x ∷ names_after x (x ∷ xs)
    here behind =
        ap (λ rest. x ∷ rest) (all_after name xs (all_further name x xs (is_less name x behind) sorted.0)
        ∙ sym (cond-false _ _ _ (ap is_lt (tied_itself nat_list_cmp_total x)) ∙ all_after x xs sorted.0))

    later : first_after name xs ≡ Some next → is_lt (text_cmp next x) ≡ false
    later found =
        let above : text_cmp x next ≡ Less = found_among (λ n. text_cmp x n ≡ Less) _ xs next sorted.0 found in
        ap is_lt (nat_list_cmp_total.antisymm next x ∙ ap ordering_reverse above)

    by : (b : Bool) → is_lt (text_cmp name x) ≡ b → cond b (Some x) (first_after name xs) ≡ Some next
        → (first_after name xs ≡ Some next → names_after name xs ≡ next ∷ names_after next xs)
        → cond b (x ∷ names_after name xs) (names_after name xs) ≡ next ∷ names_after next (x ∷ xs)
    by true behind found rest =
        let same : x ≡ next = cc in
        here behind ∙ ap (λ n. n ∷ names_after n (x ∷ xs)) same
    by false before found rest = rest found ∙ ap (λ names. next ∷ names) (sym (cond-false _ _ _ (later found)))
