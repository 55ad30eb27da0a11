-- a whole document: `syntax` where its text is no JSON, `float` where it holds a float, else what its table
-- makes of it
use Rattle.std.specs.Prelude.{◌≡◌, if◌then◌else◌, ℕ, List, codes, Ok, Err}
use Rattle.std.specs.Str.{is_utf8}
use Rattle.serde_json.specs.Data.{Data}
use Rattle.serde_json.specs.Read.{read}
use Rattle.serde_json.specs.Written.{compact_text, has_float}
use Rattle.json_fields.specs.Fields.{read_or}
use Rattle.base_values.specs.Outcome.{◌>>=◌}
use Rattle.json_fields.specs.Outcome.{Reading, whole_place_of}

-- the first miss by its whole place
abbrev pub by_whole_place : {T : Type 0} → Reading T → Reading T
by_whole_place (Ok x) = Ok x
by_whole_place (Err place) = Err (whole_place_of place)

-- a document's value
unfoldable pub whole : {T : Type 0} → (Data → Reading T) → Data → Reading T
whole reads d = if has_float d then Err (codes "float") else by_whole_place (reads d)

-- a document's text
unfoldable pub document : {T : Type 0} → (Data → Reading T) → List ℕ → Reading T
document reads text = read_or (Err (codes "syntax")) (whole reads) (read text)

-- a document's bytes, which are no JSON unless they are UTF-8
unfoldable pub bytes_document : {T : Type 0} → (Data → Reading T) → List ℕ → Reading T
bytes_document reads bytes = if is_utf8 bytes then document reads bytes else Err (codes "syntax")

-- a document's text, read and written again: the compact text of what is written of its value
abbrev pub normal_form : {T : Type 0} → (Data → Reading T) → (T → Data) → List ℕ → Reading (List ℕ)
normal_form reads writes text = document reads text >>= λ x. Ok (compact_text (writes x))

-- what is written of the value is read as the value, floats and all
abbrev pub IsWholeAgain : {T : Type 0} → (Data → Reading T) → (T → Data) → T → Type 0
IsWholeAgain reads writes x = whole reads (writes x) ≡ Ok x
