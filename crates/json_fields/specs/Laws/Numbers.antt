-- whole numbers within the range of a type are kept
use Rattle.std.proofs.Common.{◌≡◌, ◌^◌, ℕ, ℤ, pos, negsuc, max, arith, [], Bool, true, false, cond, nat_lt, Ok, Err, refl}
use Rattle.std.specs.Result.{IfOk}
use Rattle.serde_json.specs.Data.{Data, null, boolean, number, string, array, object, unsigned, negative, float, depth}
use Rattle.serde_json.specs.Written.{has_float}
use Rattle.json_fields.specs.Numbers.{fits_i64, i64_at, i64_data, integer_at, u32_at}
use Rattle.json_fields.specs.Outcome.{Reading}
use Rattle.json_fields.specs.RoundTrip.{IsKept, RoundTrips}
use Rattle.json_fields.specs.Written.{is_null}

u32-kept : (n : ℕ) (fits : Bool) → nat_lt n (2 ^ 32) ≡ fits → (may_float : Bool) (deep : ℕ)
    → IfOk (cond {A = Reading ℕ} fits (Ok n) (Err []))
    (IsKept u32_at (λ n. number (unsigned n)) may_float deep)
u32-kept n true h may_float deep = record { again = rw h refl; clean = λ _. refl; nests = omega arith }
u32-kept n false h may_float deep = tt

u32-keeps : (d : Data)
    → IfOk (u32_at d) (IsKept u32_at (λ n. number (unsigned n)) (has_float d) (max 0 (depth d)))
u32-keeps null = tt
u32-keeps (boolean b) = tt
u32-keeps (number (unsigned n)) = u32-kept n (nat_lt n (2 ^ 32)) refl _ _
u32-keeps (number (negative z)) = tt
u32-keeps (number (float x)) = tt
u32-keeps (string s) = tt
u32-keeps (array ds) = tt
u32-keeps (object ms) = tt

-- numbers below 2 ^ 32
pub u32-round_trips : RoundTrips u32_at (λ n. number (unsigned n)) 0
u32-round_trips = record { keeps = u32-keeps }

integer-again : (z : ℤ) → integer_at (i64_data z) ≡ Ok z
integer-again (pos n) = refl
integer-again (negsuc n) = refl

integer-clean : (z : ℤ) → has_float (i64_data z) ≡ false
integer-clean (pos n) = refl
integer-clean (negsuc n) = refl

i64-kept : (z : ℤ) (fits : Bool) → fits_i64 z ≡ fits → (may_float : Bool) (deep : ℕ)
    → IfOk (cond {A = Reading ℤ} fits (Ok z) (Err [])) (IsKept i64_at i64_data may_float deep)
i64-kept z true h may_float deep = record {
  again = rw (integer-again z, h) refl;
  clean = λ _. integer-clean z;
  nests = omega arith;
}
i64-kept z false h may_float deep = tt

i64-keeps : (d : Data) → IfOk (i64_at d) (IsKept i64_at i64_data (has_float d) (max 0 (depth d)))
i64-keeps null = tt
i64-keeps (boolean b) = tt
i64-keeps (number (unsigned n)) = i64-kept (pos n) (fits_i64 (pos n)) refl _ _
i64-keeps (number (negative z)) = i64-kept z (fits_i64 z) refl _ _
i64-keeps (number (float x)) = tt
i64-keeps (string s) = tt
i64-keeps (array ds) = tt
i64-keeps (object ms) = tt

-- signed numbers of 64 bits
pub i64-round_trips : RoundTrips i64_at i64_data 0
i64-round_trips = record { keeps = i64-keeps }

-- a signed number is not written as null
pub i64-present : (z : ℤ) → is_null (i64_data z) ≡ false
i64-present z = refl
