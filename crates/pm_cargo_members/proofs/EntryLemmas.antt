-- Entries of lists: what is read after one is set, and what a search and the first items of a list have.
use Rattle.std.proofs.Common.{◌≡◌, ℕ, ◌+◌, ◌<◌, zero, suc, List, [], ◌∷◌, Some, Result, Ok, Err, true, length, get_or, set, take, refl, sym, ap, ◌∙◌, arith, true≢false}
use Rattle.std.specs.List.{Contains, HoldsAt, slice_get}
use Rattle.std.specs.List.Sorted.{IsSearchInRange}
use Rattle.std.specs.Result.{IfOk, is_ok}
use Rattle.std.specs.Ordering.{nat_cmp}
use Rattle.std.specs.FinMap.{nat_cmp-IsAntisymmetric}
use Rattle.std.specs.declared.cmp.Ordering.TheVariants.{Equal}
use Rattle.std.proofs.lemmas.List.{get_or-take, length-take}

module _ {X : Type 0} where
  -- the entry that is set
  pub slice_get-set_same : (xs : List X) (i : ℕ) (v : X) → i < length xs → slice_get (set xs i v) i ≡ Some v
  slice_get-set_same [] i v within = absurd (omega arith)
  slice_get-set_same (x ∷ xs) zero v within = refl
  slice_get-set_same (x ∷ xs) (suc i) v within = slice_get-set_same xs i v (omega arith)

  -- any other is as it was
  pub slice_get-set_other : (xs : List X) (i j : ℕ) (v : X) → (j ≡ i → ⊥) → slice_get (set xs i v) j ≡ slice_get xs j
  slice_get-set_other [] i j v other = refl
  slice_get-set_other (x ∷ xs) zero zero v other = absurd (other refl)
  slice_get-set_other (x ∷ xs) zero (suc j) v other = refl
  slice_get-set_other (x ∷ xs) (suc i) zero v other = refl
  slice_get-set_other (x ∷ xs) (suc i) (suc j) v other = slice_get-set_other xs i j v (λ e. other (ap suc e))

  -- what the first items have, one more has
  pub Contains-take_more : (xs : List X) (i : ℕ) (z : X) → Contains (take i xs) z → Contains (take (i + 1) xs) z
  Contains-take_more xs i z found =
      let k = found.0 in
      let before : k < length (take i xs) = found.1 in
      let below : k < i = omega (arith, length-take i xs) in
      (k, omega (arith, length-take i xs, length-take (i + 1) xs), get_or-take (i + 1) xs k z (omega arith) ∙ sym (get_or-take i xs k z below) ∙ found.2)

  -- and it has the next item
  pub Contains-take_last : (xs : List X) (i : ℕ) (z : X) → i < length xs → z ≡ get_or xs i z → Contains (take (i + 1) xs) z
  Contains-take_last xs i z within is = (i, omega (arith, length-take (i + 1) xs), get_or-take (i + 1) xs i z (omega arith) ∙ sym is)

-- what a search finds is in the list
pub Contains-from_search : (xs : List ℕ) (x : ℕ) (r : Result ℕ ℕ) → IsSearchInRange r (length xs) → IfOk r (HoldsAt (λ y. nat_cmp y x ≡ Equal) xs) → is_ok r ≡ true → Contains xs x
Contains-from_search xs x (Ok i) within held ok = (i, within, nat_cmp-IsAntisymmetric (get_or xs i x) x (held x))
Contains-from_search xs x (Err i) within held ok = absurd (true≢false (sym ok))
