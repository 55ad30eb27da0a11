-- What is made of a reading.
use Rattle.std.proofs.Common.{◌≡◌, Ok, Err, refl}
use Rattle.base_values.specs.Outcome.{◌>>=◌}
use Rattle.pm_cargo_reading.specs.Reading.{Reading}

-- what is made of a reading's value
unfoldable pub made_of_reading : {A B : Type 0} → (A → B) → Reading A → Reading B
made_of_reading f (Ok x) = Ok (f x)
made_of_reading f (Err e) = Err e

-- it is read of the value in a second step
pub bind_made : {A B : Type 0} (f : A → B) (part : Reading A) → (part >>= λ x. Ok (f x)) ≡ made_of_reading f part
unfolding made_of_reading
bind_made f (Ok x) = refl
bind_made f (Err e) = refl
