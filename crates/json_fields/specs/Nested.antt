-- a table that leads back to itself, as a table of one level given how what is inside is read
use Rattle.std.specs.Prelude.{ℕ, zero, suc, List, [], Option, Some, None, option_and_then, Result, Err}
use Rattle.serde_json.specs.Data.{Data, null, boolean, number, string, array, object, Members}
use Rattle.serde_json.specs.Find.{get_member}
use Rattle.json_fields.specs.Outcome.{Gives, Reading}
use Rattle.json_fields.specs.declared.place.ReadError.{ReadError}

-- a table of at most n levels: each is read by `row`, given how what is inside is read; what is deeper is a
-- miss
unfoldable pub within_levels : {T : Type 0} → ((Data → Reading T) → Data → Reading T) → ℕ → Data → Reading T
within_levels row zero d = Err []
within_levels row (suc n) d = row (within_levels row n) d

-- a value, unless it is null
abbrev pub not_null : Data → Option Data
not_null null = None
not_null (boolean b) = Some (boolean b)
not_null (number n) = Some (number n)
not_null (string s) = Some (string s)
not_null (array ds) = Some (array ds)
not_null (object ms) = Some (object ms)

-- the value at a key, unless it is null
abbrev pub present_member : List ℕ → Members → Option Data
present_member key ms = option_and_then not_null (get_member key ms)

-- what a reader returned of the value at a place, where there is one
abbrev pub GivesAt : {T : Type 0} → (Data → Reading T) → Option Data → Option (Result T ReadError) → Type 0
GivesAt reads None None = Unit {0}
GivesAt reads (Some d) (Some answer) = Gives answer (reads d)
GivesAt reads None (Some answer) = ⊥
GivesAt reads (Some d) None = ⊥

-- a written value, or null
abbrev pub or_null : Option Data → Data
or_null None = null
or_null (Some d) = d
