-- What a binary search over sorted texts finds.
use Rattle.std.proofs.Common.{◌≡◌, ℕ, ◌<◌, inl, inr, List, [], ◌∷◌, true, Ok, Err, Result, length, get_or, sym, ap, ◌∙◌, arith}
use Rattle.std.specs.Prelude.{bytes_eq}
use Rattle.std.specs.List.{list_any}
use Rattle.std.specs.List.Sorted.{IsBinarySearchResult, IsSearchInRange, IsSortedBy}
use Rattle.std.specs.Cmp.Lexicographic.{nat_list_cmp_total, slice_cmp, texts_ties}
use Rattle.std.specs.Ordering.{is_eq, is_lt, nat_cmp}
use Rattle.std.specs.Result.{is_ok}
use Rattle.std.proofs.lemmas.Bool.{cases_lt}
use Rattle.std.proofs.lemmas.List.Folds.{list_any_at, list_any_none}
use Rattle.std.proofs.lemmas.List.Sorted.{searchable_from_sorted}

module _ {X : Type 0} (key : X → List ℕ) (id : List ℕ) where
  at_place : (xs : List X) (i : ℕ) → i < length xs → ((d : X) → is_eq (slice_cmp nat_cmp (key (get_or xs i d)) id) ≡ true) → list_any (λ y. bytes_eq (key y) id) xs ≡ true
  at_place [] i within held = absurd (omega arith)
  at_place (x ∷ xs) i within held = list_any_at (λ y. bytes_eq (key y) id) (x ∷ xs) i x within (texts_ties (key (get_or (x ∷ xs) i x)) id ∙ held x)

  -- a text that is found is among those of the list, and one that is not found is not
  pub found_is_there : (xs : List X) (r : Result ℕ ℕ) → IsSearchInRange r (length xs) → IsBinarySearchResult (λ y. slice_cmp nat_cmp (key y) id) xs r
      → IsSortedBy (λ a b. is_lt (slice_cmp nat_cmp (key a) (key b))) xs → is_ok r ≡ list_any (λ y. bytes_eq (key y) id) xs
  found_is_there xs (Ok i) within held sorted = sym (at_place xs i (omega (arith, within)) (λ d. ap is_eq (held d)))
  found_is_there xs (Err i) within split sorted =
      let parts = split (searchable_from_sorted nat_list_cmp_total key xs id sorted) in
      sym (list_any_none (λ y. bytes_eq (key y) id) xs (λ k d below. elim (cases_lt k i) [
        | inl before ↦ texts_ties (key (get_or xs k d)) id ∙ ap is_eq (parts.0 k d (omega arith) before)
        | inr past ↦ texts_ties (key (get_or xs k d)) id ∙ ap is_eq (parts.1 k d (omega arith) below)
      ]))
