-- closed tables of names: each value has a text of its own, and another text is a miss, or an unknown value
use Rattle.std.specs.Prelude.{if◌then◌else◌, ℕ, List, [], ◌∷◌, bytes_eq, Ok, Err}
use Rattle.json_fields.specs.Outcome.{Reading}

-- the first of the values whose name the text is
abbrev pub value_named : {T : Type 0} → (T → List ℕ) → List T → List ℕ → Reading T
value_named name_of [] text = Err []
value_named name_of (x ∷ xs) text = if bytes_eq text (name_of x) then Ok x else value_named name_of xs text

-- the first of the values whose name the text is, else what `unknown` makes of the text
abbrev pub value_named_or : {T : Type 0} → (T → List ℕ) → List T → (List ℕ → T) → List ℕ → T
value_named_or name_of [] unknown text = unknown text
value_named_or name_of (x ∷ xs) unknown text =
    if bytes_eq text (name_of x) then x else value_named_or name_of xs unknown text
