-- A map from numbers that is copied entry by entry, in ascending order.
use Rattle.std.proofs.Common.{◌≡◌, ℕ, List, [], ◌∷◌, ◌++◌, None, Less, refl, sym, ap, subst, ◌∙◌}
use Rattle.std.proofs.Common.{append_assoc}
use Rattle.std.proofs.lemmas.Bool.{cond-false}
use Rattle.std.specs.Cmp.{eq_by_cmp_equiv, nat_cmp_total}
use Rattle.std.specs.FinMap as map
use Rattle.std.specs.FinMap.{FinMap, find, from_entries, from_entries_push, nat_cmp-IsAntisymmetric}
use Rattle.std.specs.List.{AllByRecursion}
use Rattle.std.specs.List.Sorted.{IsStrictlySortedBy}
use Rattle.std.specs.Map.{keys_of}
use Rattle.std.specs.Ordering.{is_eq, nat_cmp}

-- a map is copied up to the entries that are left
pub record IsCopiedUpTo {X : Type 0} (whole copy : FinMap nat_cmp X) (rest : List (ℕ × X)) : Type 0 where
  pub front : List (ℕ × X)
  pub all : from_entries (front ++ rest) ≡ whole
  pub ordered : IsStrictlySortedBy nat_cmp (keys_of (front ++ rest))
  pub done : copy ≡ from_entries front

-- nothing is copied yet
pub copied_none : {X : Type 0} (whole copy : FinMap nat_cmp X) (rest : List (ℕ × X))
    → from_entries rest ≡ whole
    → IsStrictlySortedBy nat_cmp (keys_of rest) → copy ≡ map.empty → IsCopiedUpTo whole copy rest
copied_none whole copy rest all ordered empty =
    record { front = []; all = all; ordered = ordered; done = empty }

below_middle : {X : Type 0} (first : ℕ) (es : List (ℕ × X)) (e : ℕ × X) (more : List (ℕ × X))
    → AllByRecursion (λ y. nat_cmp first y ≡ Less) (keys_of (es ++ e ∷ more)) → nat_cmp first e.0 ≡ Less
below_middle first [] e more h = h.0
below_middle first (x ∷ es) e more h = below_middle first es e more h.1

-- among ascending keys none is found before it stands
none_before : {X : Type 0} (front : List (ℕ × X)) (e : ℕ × X) (rest : List (ℕ × X))
    → IsStrictlySortedBy nat_cmp (keys_of (front ++ e ∷ rest)) → find nat_cmp e.0 front ≡ None
unfolding IsStrictlySortedBy
none_before [] e rest h = refl
none_before (x ∷ front) e rest h =
    cond-false _ _ _
    ((eq_by_cmp_equiv nat_cmp_total).symm e.0 x.0 ∙ ap is_eq (below_middle x.0 front e rest h.0))
    ∙ none_before front e rest h.1

-- one more entry of a copy that is made in order
pub copied_more : {X : Type 0} (whole copy new : FinMap nat_cmp X) (left rest : List (ℕ × X)) (key : ℕ)
    (value copied : X) → IsCopiedUpTo whole copy left → left ≡ (key, value) ∷ rest → copied ≡ value
    → new ≡ map.insert copy key copied
    → IsCopiedUpTo whole new rest
copied_more {X} whole copy new left rest key value copied before step same is =
    let P : List (ℕ × X) → Type 0 = λ es. IsStrictlySortedBy nat_cmp (keys_of (before.front ++ es)) in
    let ordered = subst P step before.ordered in
    let moved = append_assoc before.front ((key, value) ∷ []) rest in
    let Q : List (ℕ × X) → Type 0 = λ es. IsStrictlySortedBy nat_cmp (keys_of es) in
    record {
      front = before.front ++ (key, value) ∷ [];
      all = ap (λ (es : List (ℕ × X)). from_entries {R = nat_cmp} es) moved
          ∙ ap (λ (es : List (ℕ × X)). from_entries {R = nat_cmp} (before.front ++ es)) (sym step)
          ∙ before.all;
      ordered = subst Q (sym moved) ordered;
      done = is ∙ ap (λ (m : FinMap nat_cmp X). map.insert m key copied) before.done
          ∙ ap (λ (x : X). map.insert (from_entries before.front) key x) same
          ∙ sym (from_entries_push nat_cmp_total nat_cmp-IsAntisymmetric before.front key value
          (none_before before.front (key, value) rest ordered));
    }
