-- Dashes in names.
use Rattle.std.proofs.Common.{◌≡◌, ℕ, suc, ◌||◌, ◌<◌, List, [], ◌∷◌, ◌++◌, Bool, true, false, length, get_or, refl, sym, ap, ◌∙◌, ◌≢◌, arith, eqb, cond, append_assoc}
use Rattle.std.proofs.lemmas.List.{map-append}
use Rattle.std.proofs.lemmas.Bool.Decides.{nat_tests}
use Rattle.std.proofs.lemmas.List.{get_or_default}
use Rattle.std.proofs.lemmas.Bool.{false≢true}
use Rattle.std.proofs.lemmas.List.Folds.{list_any_none, list_any-from_Any}
use Rattle.crate_graph_values.specs.Names.{has_dash, with_underscores}

other : (b : ℕ) → b ≢ 45 → eqb b 45 ≡ false
other b differs = grind (arith, nat_tests)

-- an answer that is true just where a dash stands is the test
pub dash_found : (text : List ℕ) (answer : Bool) → (answer ≡ true → (k : ℕ) × (k < length text) × (get_or text k 0 ≡ 45)) → ((k : ℕ) → k < length text → get_or text k 0 ≡ 45 → answer ≡ true)
    → answer ≡ has_dash text
dash_found text answer found missed =
    elim answer as (λ a. (a ≡ true → (k : ℕ) × (k < length text) × (get_or text k 0 ≡ 45)) → ((k : ℕ) → k < length text → get_or text k 0 ≡ 45 → a ≡ true) → a ≡ has_dash text) [
      | true ↦ λ found missed. let at = found refl in
          sym (list_any-from_Any (λ b. eqb b 45) text (at.0, 45, at.1, get_or_default text at.0 45 0 at.1 ∙ at.2, refl))
      | false ↦ λ found missed. sym (list_any_none (λ b. eqb b 45) text (λ k d below. other (get_or text k d) (λ is. false≢true (missed k below (get_or_default text k 0 d below ∙ is)))))
    ] found missed

-- a text without a dash stays
pub with_underscores-none : (text : List ℕ) → ((k : ℕ) → k < length text → get_or text k 0 ≢ 45) → with_underscores text ≡ text
with_underscores-none [] none = refl
with_underscores-none (b ∷ text) none =
    λ i. cond (other b (none 0 (omega arith)) i) 95 b ∷ with_underscores-none text (λ k below. none (suc k) (omega arith)) i

never : (b : ℕ) → eqb (cond (eqb b 45) 95 b) 45 ≡ false
never b = elim (eqb b 45) as (λ t. eqb b 45 ≡ t → eqb (cond t 95 b) 45 ≡ false) [ true ↦ λ e. refl | false ↦ λ e. e ] refl

-- no dash is left
pub has_dash-with_underscores : (text : List ℕ) → has_dash (with_underscores text) ≡ false
has_dash-with_underscores [] = refl
has_dash-with_underscores (b ∷ text) =
    ap (λ x. x || has_dash (with_underscores text)) (never b) ∙ has_dash-with_underscores text

-- the text up to the first dash and an underscore, before the rest
pub with_underscores-split : (done rest before after name : List ℕ) → done ++ with_underscores rest ≡ with_underscores name → rest ≡ before ++ 45 ∷ after → ((k : ℕ) → k < length before → get_or before k 0 ≢ 45)
    → ((done ++ before) ++ 95 ∷ []) ++ with_underscores after ≡ with_underscores name
with_underscores-split done rest before after name so_far split none =
    let pieces : with_underscores rest ≡ before ++ 95 ∷ with_underscores after =
    ap with_underscores split ∙ map-append (λ b. cond (eqb b 45) 95 b) before (45 ∷ after) ∙ ap (λ front. front ++ 95 ∷ with_underscores after) (with_underscores-none before none) in
    simp append_assoc (ap (λ rest. done ++ rest) (sym pieces) ∙ so_far)
