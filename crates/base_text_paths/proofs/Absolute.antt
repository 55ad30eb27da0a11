-- Which texts are absolute: those that begin with a slash; and what is made of them.
use Rattle.std.proofs.Common.{◌≡◌, ℕ, List, true, false, get_or, inl, inr, ap, sym, ◌∙◌}
use Rattle.std.proofs.lemmas.Bool.{cases_eq, eq-eqb, ne_eqb, cond-false, cond-true}
use Rattle.base_text_paths.specs.Paths.{components, if_absolute, is_absolute, path_text}

pub absolute_if : (text : List ℕ) → ((get_or text 0 0 ≡ 47 → ⊥) → ⊥) → is_absolute text ≡ true
absolute_if text h = elim (cases_eq (get_or text 0 0) 47) [ inl is ↦ eq-eqb (get_or text 0 0) 47 is | inr other ↦ absurd (h other) ]

pub relative_if : (text : List ℕ) → (get_or text 0 0 ≡ 47 → ⊥) → is_absolute text ≡ false
relative_if text other = ne_eqb (get_or text 0 0) 47 other

pub if_absolute-is : {A : Type 0} (text path : List ℕ) (made : List ℕ → A) (other : A) → is_absolute text ≡ true → path ≡ path_text (components text)
    → if_absolute text made other ≡ made path
if_absolute-is text path made other absolute is = cond-true _ _ _ absolute ∙ ap made (sym is)

pub if_absolute-other : {A : Type 0} (text : List ℕ) (made : List ℕ → A) (other : A) → is_absolute text ≡ false → if_absolute text made other ≡ other
if_absolute-other text made other relative = cond-false _ _ _ relative
