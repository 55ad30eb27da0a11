-- types whose JSON is a text
use Rattle.std.specs.Prelude.{ℕ, List}
use Rattle.serde_json.specs.Data.{Data, string}
use Rattle.json_fields.specs.Fields.{text_at}
use Rattle.base_values.specs.Outcome.{◌>>=◌}
use Rattle.json_fields.specs.Outcome.{Reading}

-- a text that is of that form
abbrev pub text_form_at : {T : Type 0} → (List ℕ → Reading T) → Data → Reading T
text_form_at of_text d = text_at d >>= of_text

-- a value as its text
abbrev pub text_form_data : {T : Type 0} → (T → List ℕ) → T → Data
text_form_data text_of x = string (text_of x)
