-- a table that leads back to itself keeps what it is read from, where one level does whose inside is kept
use Rattle.std.specs.Prelude.{◌≡◌, ℕ, zero, suc, refl, Option, Some, None, option_map}
use Rattle.serde_json.specs.Data.{Data}
use Rattle.json_fields.specs.Nested.{within_levels, or_null}
use Rattle.json_fields.specs.Outcome.{Reading}
use Rattle.json_fields.specs.RoundTrip.{RoundTrips}
use Rattle.json_fields.specs.Written.{option_data}

-- a table over itself keeps its values to each depth, where one level keeps those of the level below
pub within_levels-round_trips :
    {T : Type 0} (row : (Data → Reading T) → Data → Reading T) (writes : T → Data) (height : ℕ)
    → ((inner : Data → Reading T) → RoundTrips inner writes height → RoundTrips (row inner) writes height)
    → (n : ℕ) → RoundTrips (within_levels row n) writes height
unfolding within_levels
within_levels-round_trips row writes height level zero = record { keeps = λ d. tt }
within_levels-round_trips row writes height level (suc n) =
    record {
      keeps = (level (within_levels row n) (within_levels-round_trips row writes height level n)).keeps;
    }

-- the parts of a value are written one by one
pub or_null-option_map : {T : Type 0} (writes : T → Data) (o : Option T)
    → or_null (option_map writes o) ≡ option_data writes o
or_null-option_map writes None = refl
or_null-option_map writes (Some x) = refl
