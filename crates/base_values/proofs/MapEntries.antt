-- The entries of a finite map from numbers, as a tree holds them, and when two such lists are equal.
use Rattle.std.proofs.Common.{◌≡◌, ℕ, suc, List, [], ◌∷◌, length, Bool, true, false, ◌&&◌, Less, refl, sym, ap, ◌∙◌, nat_eq}
use Rattle.std.proofs.Math.Bool.{and-false}
use Rattle.std.proofs.lemmas.Bool.{eqb-true}
use Rattle.std.specs.Cmp.{nat_cmp_total}
use Rattle.std.specs.Cmp.Lexicographic.{pointwise}
use Rattle.std.specs.FinMap.{empty, entries, entries-insert, from_entries, len-empty, len-entries}
use Rattle.std.specs.FinMap.Entries.{put}
use Rattle.std.specs.List.{AllByRecursion}
use Rattle.std.specs.List.Sorted.{IsStrictlySortedBy}
use Rattle.std.specs.Map.{keys_of}
use Rattle.std.specs.Ordering.{nat_cmp}

-- an entry below all others goes first
put_first : {X : Type 0} (k : ℕ) (v : X) (es : List (ℕ × X)) → AllByRecursion (λ y. nat_cmp k y ≡ Less) (keys_of es)
    → put nat_cmp k v es ≡ (k, v) ∷ es
put_first k v [] below = refl
put_first k v (e ∷ es) below = rw below.0 refl

-- a list of no items is empty
empty_list : {A : Type 0} (xs : List A) → length xs ≡ 0 → xs ≡ []
empty_list [] none = refl
empty_list (x ∷ xs) none = absurd (cc)

-- the empty map has no entries
entries-empty : {X : Type 0} → entries (empty {X = X} {R = nat_cmp}) ≡ []
entries-empty {X} = empty_list _ (sym (len-entries (empty {X = X} {R = nat_cmp})) ∙ len-empty nat_cmp X)

-- the entries of a tree, in ascending order, are those of the map
pub entries-from_entries : {X : Type 0} (es : List (ℕ × X)) → IsStrictlySortedBy nat_cmp (keys_of es)
    → entries (from_entries {R = nat_cmp} es) ≡ es
unfolding IsStrictlySortedBy
entries-from_entries [] ordered = entries-empty
entries-from_entries (e ∷ es) ordered =
    entries-insert nat_cmp_total (from_entries es) e.0 e.1
    ∙ ap (put nat_cmp e.0 e.1) (entries-from_entries es ordered.1)
    ∙ put_first e.0 e.1 es ordered.0

-- lists of different lengths are not equal item by item
pub pointwise-lengths : {A : Type 0} (eq : A → A → Bool) (xs ys : List A) → (length xs ≡ length ys → ⊥)
    → pointwise eq xs ys ≡ false
pointwise-lengths eq [] [] differ = absurd (differ refl)
pointwise-lengths eq [] (y ∷ ys) differ = refl
pointwise-lengths eq (x ∷ xs) [] differ = refl
pointwise-lengths eq (x ∷ xs) (y ∷ ys) differ =
    ap (λ rest. eq x y && rest) (pointwise-lengths eq xs ys (λ same. differ (ap suc same))) ∙ and-false (eq x y)

-- the test of numbers that differ fails
pub nat_eq-differ : (m n : ℕ) → (m ≡ n → ⊥) → nat_eq m n ≡ false
nat_eq-differ m n differ = by (nat_eq m n) refl
  where
    by : (b : Bool) → nat_eq m n ≡ b → nat_eq m n ≡ false
    by true e = absurd (differ (eqb-true m n e))
    by false e = e
