-- The features that a workspace has, taken one after another, and the words that name them.
use Rattle.std.proofs.Common.{◌≡◌, ◌==◌, ℕ, ◌+◌, ◌<◌, Bool, true, false, List, [], ◌∷◌, ◌++◌, filter, get_or, length, map, take, add-one, ap, append-nil, codes, refl, rules, sym, ◌∙◌}
use Rattle.std.proofs.Math.Seq.{take-suc}
use Rattle.std.proofs.lemmas.Bool.{cond-false, cond-true}
use Rattle.std.proofs.lemmas.List.{map-append}
use Rattle.std.proofs.lemmas.List.Elements.{filter-append}
use Rattle.cargo_meta.specs.Command.{joined_text}
use Rattle.pm_cargo.specs.Queries.{is_feature}
use Rattle.pm_cargo.specs.Workspace.{Workspace}
use Rattle.pm_tools.specs.Words.{selected_words}

module _ {X : Type 0} (p : X → Bool) (xs : List X) (i : ℕ) (x : X) (within : i < length xs) (here : x ≡ get_or xs i x) where
  one_more : filter p (take (i + 1) xs) ≡ filter p (take i xs) ++ filter p (x ∷ [])
  one_more =
      ap (λ k. filter p (take k xs)) (add-one i) ∙ ap (filter p) (take-suc xs i x within) ∙ filter-append p (take i xs) (get_or xs i x ∷ [])
      ∙ ap (λ y. filter p (take i xs) ++ filter p (y ∷ [])) (sym here)

  -- one more that passes
  filter-kept : p x ≡ true → filter p (take i xs) ++ x ∷ [] ≡ filter p (take (i + 1) xs)
  filter-kept passes = ap (λ l. filter p (take i xs) ++ l) (sym (cond-true _ _ _ passes)) ∙ sym one_more

  -- one more that does not
  pub filter-passed : p x ≡ false → filter p (take i xs) ≡ filter p (take (i + 1) xs)
  filter-passed fails = sym (one_more ∙ ap (λ l. filter p (take i xs) ++ l) (cond-false _ _ _ fails) ∙ append-nil (filter p (take i xs)))

  -- one more that passes, by what shows each
  pub shown-kept : {N : Type 0} (show : N → X) (names pushed : List N) (name : N) → map show names ≡ filter p (take i xs)
      → pushed ≡ names ++ name ∷ [] → show name ≡ x → p x ≡ true → map show pushed ≡ filter p (take (i + 1) xs)
  shown-kept show names pushed name so_far is shows passes =
      ap (map show) is ∙ map-append show names (name ∷ []) ∙ ap (λ l. l ++ show name ∷ []) so_far
      ∙ ap (λ y. filter p (take i xs) ++ y ∷ []) shows ∙ filter-kept passes

-- where some features are selected, their word stands before them
pub selected_words-some : (w : Workspace) (features : List (List ℕ)) → (length features == 0) ≡ false
    → selected_words w features ≡ codes "--features" ∷ joined_text (codes ",") (filter (is_feature w) features) ∷ []
selected_words-some w [] h = search (rules, h)
selected_words-some w (first ∷ others) h = refl
