-- The values of a printed configuration, as TOML reads it.
use Rattle.std.specs.Prelude.{ℕ, ◌==◌, if◌then◌else◌, List, [], ◌∷◌, length, Option, Some, None}
use Rattle.std.specs.Option.{option_and_then}
use Rattle.toml.specs.Data.{Data, get, table}
use Rattle.toml.specs.Parse.{parse_document}

-- the value below some keys
abbrev pub below_keys : Data → List (List ℕ) → Option Data
below_keys value [] = Some value
below_keys value (key ∷ keys) = option_and_then (λ next. below_keys next keys) (get key value)

-- the value at some keys, of which there is at least one, where TOML reads the text as a document
unfoldable pub value_at_keys : List ℕ → List (List ℕ) → Option Data
value_at_keys text keys =
    if length keys == 0 then None
    else option_and_then (λ document. below_keys (table document) keys) (parse_document text)
