-- what is read of a text is kept where it is read again from its own text
use Rattle.std.proofs.Common.{◌≡◌, ℕ, max, arith, List, Ok, refl}
use Rattle.std.specs.Result.{IfOk}
use Rattle.serde_json.specs.Data.{Data, null, boolean, number, string, array, object, depth}
use Rattle.serde_json.specs.Written.{has_float}
use Rattle.json_fields.specs.Laws.RoundTrips.{weaker}
use Rattle.json_fields.specs.Outcome.{Reading}
use Rattle.json_fields.specs.RoundTrip.{IsKept, RoundTrips}
use Rattle.json_fields.specs.TextJson.{text_form_at, text_form_data}
use Rattle.json_fields.specs.Laws.ReadAgain.{bare_of-again, requirement_of-again, version_of-again}
use Rattle.json_fields.specs.Versions.{bare_at, bare_of, requirement_at, requirement_data, requirement_of, version_at, version_data, version_of, version_text}

module _ {T : Type 0} (of_text : List ℕ → Reading T) (text_of : T → List ℕ)
    (again : (text : List ℕ) → IfOk (of_text text) (λ x. of_text (text_of x) ≡ Ok x)) where
  text_form-kept : (d : Data)
      → IfOk (text_form_at of_text d)
      (IsKept (text_form_at of_text) (text_form_data text_of) (has_float d) (max 0 (depth d)))
  text_form-kept null = tt
  text_form-kept (boolean b) = tt
  text_form-kept (number n) = tt
  text_form-kept (string s) =
      (weaker {r = of_text s} (λ x h. record { again = h; clean = λ _. refl; nests = omega arith }) (record {
        holds = again s;
      })).holds
  text_form-kept (array ds) = tt
  text_form-kept (object ms) = tt

  -- a type whose JSON is a text
  pub text_form-round_trips : RoundTrips (text_form_at of_text) (text_form_data text_of) 0
  text_form-round_trips = record { keeps = text_form-kept }

-- versions
pub version-round_trips : RoundTrips version_at version_data 0
version-round_trips = text_form-round_trips version_of version_text version_of-again

-- version requirements
pub requirement-round_trips : RoundTrips requirement_at requirement_data 0
requirement-round_trips = text_form-round_trips requirement_of (λ text. text) requirement_of-again

-- bare versions
pub bare-round_trips : RoundTrips bare_at version_data 0
bare-round_trips = text_form-round_trips bare_of version_text bare_of-again
