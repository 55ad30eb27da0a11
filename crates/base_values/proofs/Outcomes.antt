-- A part that gives a value goes on with it, and a whole that gives one has a first part that does; and what holds of each value that is given.
use Rattle.std.proofs.Common.{◌≡◌, Result, Ok, Err, ap, refl, subst}
use Rattle.base_values.specs.Outcome.{◌>>=◌}

pub ok_bind : {E A B : Type 0} (part : Result A E) (rest : A → Result B E) (x : A) → part ≡ Ok x → (part >>= rest) ≡ rest x
ok_bind part rest x is = ap (λ r. r >>= rest) is

-- where the whole gives a value, so does its first part
pub ok_from_bind : {E A B : Type 0} (part : Result A E) (rest : A → Result B E) (y : B) → (part >>= rest) ≡ Ok y → (x : A) × (part ≡ Ok x) × (rest x ≡ Ok y)
ok_from_bind (Ok x) rest y is = (x, refl, is)
ok_from_bind (Err e) rest y is = cc

-- what is given is so
abbrev pub Keeps : {E T : Type 0} → (T → Type 0) → Result T E → Type 0
Keeps {E} {T} P r = (x : T) → r ≡ Ok x → P x

pub keeps_ok : {E T : Type 0} (P : T → Type 0) (y : T) → P y → Keeps {E = E} P (Ok y)
keeps_ok P y h x is = subst P (let same : y ≡ x = cc in same) h

pub keeps_bind : {E A B : Type 0} (P : B → Type 0) (part : Result A E) (rest : A → Result B E) → ((x : A) → part ≡ Ok x → Keeps P (rest x)) → Keeps P (part >>= rest)
keeps_bind P (Ok x) rest more y is = more x refl y is
keeps_bind P (Err e) rest more y is = absurd (cc)
