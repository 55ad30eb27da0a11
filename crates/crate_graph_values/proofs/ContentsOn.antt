-- Equality of contents, for values that may be missing and for lists of values of which a fact holds.
use Rattle.std.proofs.Common.{◌≡◌, ◌↔◌, List, [], ◌∷◌, Bool, true, ap, refl, Option, Some, None, unwrap_or, get_or, drop}
use Rattle.std.proofs.lemmas.Bool.{false≢true}
use Rattle.std.proofs.lemmas.Bool.Decides.{Decides-and}
use Rattle.std.specs.Cmp.Lexicographic.{pointwise}
use Rattle.std.specs.List.{All}
use Rattle.std.specs.Option.{option_eq}
use Rattle.std.specs.Prelude.{IfSome}
use Rattle.std.proofs.lemmas.List.Elements.{All-head, All-tail}
use Rattle.base_values.specs.Equality.{IsContentEquality}
use Rattle.crate_graph_values.specs.Laws.{IsContentEqualityOn}

-- of values that may be missing
pub options : {A : Type 0} (eq : A → A → Bool) → IsContentEquality eq → IsContentEquality (option_eq eq)
options eq content None None = (λ e. refl, λ e. refl)
options eq content None (Some y) = (λ e. absurd (false≢true e), λ e. absurd (cc))
options eq content (Some x) None = (λ e. absurd (false≢true e), λ e. absurd (cc))
options {A = A} eq content (Some x) (Some y) = (λ e. ap Some ((content x y).0 e), λ e. (content x y).1 (ap (λ (o : Option A). unwrap_or o x) e))

-- of values of which a fact holds, and of options and lists of them
module _ {A : Type 0} (P : A → Type 0) (eq : A → A → Bool) (content : IsContentEqualityOn P eq) where
  pub options_on : (x y : Option A) → IfSome x P → IfSome y P → (option_eq eq x y ≡ true) ↔ (x ≡ y)
  options_on None None p q = (λ e. refl, λ e. refl)
  options_on None (Some y) p q = (λ e. absurd (false≢true e), λ e. absurd (cc))
  options_on (Some x) None p q = (λ e. absurd (false≢true e), λ e. absurd (cc))
  options_on (Some x) (Some y) p q = (λ e. ap Some ((content x y p q).0 e), λ e. (content x y p q).1 (ap (λ (o : Option A). unwrap_or o x) e))

  pub lists_on : (xs ys : List A) → All P xs → All P ys → (pointwise eq xs ys ≡ true) ↔ (xs ≡ ys)
  lists_on [] [] p q = (λ e. refl, λ e. refl)
  lists_on [] (y ∷ ys) p q = (λ e. absurd (false≢true e), λ e. absurd (cc))
  lists_on (x ∷ xs) [] p q = (λ e. absurd (false≢true e), λ e. absurd (cc))
  lists_on (x ∷ xs) (y ∷ ys) p q =
      let both = Decides-and _ _ (content x y (All-head P x xs p) (All-head P y ys q)) (lists_on xs ys (All-tail P x xs p) (All-tail P y ys q)) in (
        λ e. let parts = both.0 e in λ i. parts.0 i ∷ parts.1 i,
        λ e. both.1 (ap (λ l. get_or l 0 x) e, ap (drop 1) e),
      )
