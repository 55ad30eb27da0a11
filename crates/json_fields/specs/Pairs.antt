-- a pair as a list of exactly two
use Rattle.std.specs.Prelude.{[], Ok, Err}
use Rattle.serde_json.specs.Data.{Data, null, boolean, number, string, array, object, Items, no_items, item}
use Rattle.base_values.specs.Outcome.{◌>>=◌}
use Rattle.json_fields.specs.Outcome.{Reading, below_position}

-- the two items of a list of two
abbrev pub two_items : {A B : Type 0} → (Data → Reading A) → (Data → Reading B) → Items → Reading (A × B)
two_items first second no_items = Err []
two_items first second (item d no_items) = Err []
two_items first second (item d (item e no_items)) =
    below_position 0 (first d) >>= λ x. below_position 1 (second e) >>= λ y. Ok (x, y)
two_items first second (item d (item e (item f ds))) = Err []

-- a list of exactly two, whose items are read by position
abbrev pub json_pair_at : {A B : Type 0} → (Data → Reading A) → (Data → Reading B) → Data → Reading (A × B)
json_pair_at first second null = Err []
json_pair_at first second (boolean b) = Err []
json_pair_at first second (number n) = Err []
json_pair_at first second (string s) = Err []
json_pair_at first second (array ds) = two_items first second ds
json_pair_at first second (object ms) = Err []

-- a list of the two
abbrev pub pair_data : {A B : Type 0} → (A → Data) → (B → Data) → A × B → Data
pair_data first second p = array (item (first p.0) (item (second p.1) no_items))
