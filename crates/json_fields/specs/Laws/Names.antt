-- a value of a closed table is read again from its name
use Rattle.std.proofs.Common.{◌≡◌, ◌∙◌, ℕ, List, [], ◌∷◌, Bool, true, false, cond, bytes_eq, Ok, refl, sym, ap, subst}
use Rattle.std.proofs.lemmas.Slice.Eq.{bytes_eq-Decides}
use Rattle.std.specs.Result.{IfOk}
use Rattle.json_fields.specs.Laws.ReadAgain.{read-as}
use Rattle.json_fields.specs.Names.{value_named, value_named_or}
use Rattle.json_fields.specs.Outcome.{Reading}

module _ {T : Type 0} (name_of : T → List ℕ) where
  at_name : (same : Bool) (text : List ℕ) (x : T) (later : Reading T) → (same ≡ true → name_of x ≡ text)
      → IfOk later (λ y. name_of y ≡ text)
      → IfOk (cond same (Ok x) later) (λ y. name_of y ≡ text)
  at_name true text x later here rest = here refl
  at_name false text x later here rest = rest

  named_as : (text : List ℕ) (x : T) → bytes_eq text (name_of x) ≡ true → name_of x ≡ text
  named_as text x h = sym ((bytes_eq-Decides text (name_of x)).0 h)

  -- the value that a text names has it as its name
  pub value_named-name : (xs : List T) (text : List ℕ)
      → IfOk (value_named name_of xs text) (λ x. name_of x ≡ text)
  value_named-name [] text = tt
  value_named-name (x ∷ xs) text =
      at_name (bytes_eq text (name_of x)) text x (value_named name_of xs text) (named_as text x)
      (value_named-name xs text)

  -- a value is read again from its name
  pub value_named-again : (xs : List T) (text : List ℕ)
      → IfOk (value_named name_of xs text) (λ x. value_named name_of xs (name_of x) ≡ Ok x)
  value_named-again xs text = read-as (value_named name_of xs text) λ x h.
      let name : name_of x ≡ text =
      subst (λ r. IfOk r (λ y. name_of y ≡ text)) h (value_named-name xs text) in
      ap (value_named name_of xs) name ∙ h

  or_name : (same : Bool) (text : List ℕ) (x later : T) → (same ≡ true → name_of x ≡ text)
      → name_of later ≡ text → name_of (cond same x later) ≡ text
  or_name true text x later here rest = here refl
  or_name false text x later here rest = rest

  -- where an unknown value keeps its text, each value has the text as its name
  pub value_named_or-name : (xs : List T) (unknown : List ℕ → T)
      → ((text : List ℕ) → name_of (unknown text) ≡ text)
      → (text : List ℕ) → name_of (value_named_or name_of xs unknown text) ≡ text
  value_named_or-name [] unknown keeps text = keeps text
  value_named_or-name (x ∷ xs) unknown keeps text =
      or_name (bytes_eq text (name_of x)) text x (value_named_or name_of xs unknown text) (named_as text x)
      (value_named_or-name xs unknown keeps text)

  -- where an unknown value keeps its text, each value is read again from its name
  pub value_named_or-again : (xs : List T) (unknown : List ℕ → T)
      → ((text : List ℕ) → name_of (unknown text) ≡ text)
      → (text : List ℕ)
      → value_named_or name_of xs unknown (name_of (value_named_or name_of xs unknown text))
      ≡ value_named_or name_of xs unknown text
  value_named_or-again xs unknown keeps text =
      ap (value_named_or name_of xs unknown) (value_named_or-name xs unknown keeps text)

  or_same : (of : List ℕ → T) (same : Bool) (text : List ℕ) (x later : T) → (same ≡ true → name_of x ≡ text)
      → (of text ≡ later → of (name_of later) ≡ later) → of text ≡ cond same x later
      → of (name_of (cond same x later)) ≡ cond same x later
  or_same of true text x later here rest h = ap of (here refl) ∙ h
  or_same of false text x later here rest h = rest h

  from_tail : (of : List ℕ → T) (xs : List T) (unknown : T) → of (name_of unknown) ≡ unknown
      → (text : List ℕ) → of text ≡ value_named_or name_of xs (λ _. unknown) text
      → of (name_of (value_named_or name_of xs (λ _. unknown) text))
      ≡ value_named_or name_of xs (λ _. unknown) text
  from_tail of [] unknown keeps text h = keeps
  from_tail of (x ∷ xs) unknown keeps text h =
      or_same of (bytes_eq text (name_of x)) text x (value_named_or name_of xs (λ _. unknown) text)
      (named_as text x) (from_tail of xs unknown keeps text) h

  -- where all other texts are one value, which its own name is read as
  pub value_named_or_one-again : (xs : List T) (unknown : T)
      → value_named_or name_of xs (λ _. unknown) (name_of unknown) ≡ unknown
      → (text : List ℕ)
      → value_named_or name_of xs (λ _. unknown) (name_of (value_named_or name_of xs (λ _. unknown) text))
      ≡ value_named_or name_of xs (λ _. unknown) text
  value_named_or_one-again xs unknown keeps text =
      from_tail (value_named_or name_of xs (λ _. unknown)) xs unknown keeps text refl
