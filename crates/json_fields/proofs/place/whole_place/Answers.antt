use Rattle.std.proofs.Common.{◌≡◌, ◌==◌, List, ℕ, [], ◌∷◌, length, false, inl, inr, ap, ◌∙◌}
use Rattle.std.proofs.lemmas.Bool.{cases_Bool, false≢true, eqb-true}
use Rattle.json_fields.specs.Outcome.{whole_place_of}
use Rattle.json_fields.proofs.place.whole_place.Goals as goal

-- a place that is not empty and begins with no dot stays as it is
whole_place_of-undotted : (p : List ℕ) → false ≡ (length p == 0) → ((rest : List ℕ) → p ≡ 46 ∷ rest → ⊥) → p ≡ whole_place_of p
whole_place_of-undotted [] e no_dot = absurd (false≢true e)
whole_place_of-undotted (b ∷ p) e no_dot = elim (cases_Bool (b == 46)) [
  | inl dot ↦ absurd (no_dot p (ap (λ x. x ∷ p) (eqb-true b 46 dot)))
  | inr other ↦ rw other
]

pub returns-in-None : goal.returns-in-None
unfolding lib.Utf8.encode
returns-in-None c =
    let same = c.as_str.ensures in
    let no_dot = λ (rest : List ℕ) (e : c.args.place ≡ 46 ∷ rest). c.in-None.ensures.cases rest (c.as_str-2.ensures ∙ e) in
    whole_place_of-undotted c.args.place (rw (← same) c.if-is_empty.ensures) no_dot
