-- whole numbers within the range of a type, as `num` is what 64 bits hold without a sign
use Rattle.std.specs.Prelude.{◌^◌, if◌then◌else◌, ℕ, ℤ, pos, negsuc, Bool, [], nat_lt, Ok, Err}
use Rattle.serde_json.specs.Data.{Data, null, boolean, number, string, array, object, Num, unsigned, negative, float}
use Rattle.serde_json.specs.Find.{of_integer}
use Rattle.json_fields.specs.Fields.{number_at}
use Rattle.base_values.specs.Outcome.{◌>>=◌}
use Rattle.json_fields.specs.Outcome.{Reading}

-- a number from 0 to 2^32 - 1
abbrev pub u32_at : Data → Reading ℕ
u32_at d = number_at d >>= λ n. if nat_lt n (2 ^ 32) then Ok n else Err []

-- whether a number is from -2^63 to 2^63 - 1
abbrev pub fits_i64 : ℤ → Bool
fits_i64 (pos n) = nat_lt n (2 ^ 63)
fits_i64 (negsuc n) = nat_lt n (2 ^ 63)

-- the whole number that a number is
abbrev pub integer_of : Num → Reading ℤ
integer_of (unsigned n) = Ok (pos n)
integer_of (negative z) = Ok z
integer_of (float x) = Err []

-- a whole number, with its sign
abbrev pub integer_at : Data → Reading ℤ
integer_at null = Err []
integer_at (boolean b) = Err []
integer_at (number n) = integer_of n
integer_at (string s) = Err []
integer_at (array ds) = Err []
integer_at (object ms) = Err []

-- a number from -2^63 to 2^63 - 1
abbrev pub i64_at : Data → Reading ℤ
i64_at d = integer_at d >>= λ z. if fits_i64 z then Ok z else Err []

-- a number as it is written
abbrev pub i64_data : ℤ → Data
i64_data z = number (of_integer z)
