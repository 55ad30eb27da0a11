-- a table's rows are read one after another, from what each reads
use Rattle.std.proofs.Common.{◌≡◌, sym, subst, Result, Ok, Err}
use Rattle.std.specs.Result.{IsErrAnd}
use Rattle.json_fields.specs.Laws.Rows.{Gives-then}
use Rattle.base_values.specs.Outcome.{◌>>=◌}
use Rattle.json_fields.specs.Outcome.{Gives, Reading}
use Rattle.json_fields.specs.declared.place.ReadError.{ReadError}

-- a call returns what the reading gives
pub record Returns {A : Type 0} (answer : Result A ReadError) (r : Reading A) : Type 0 where
  pub gives : Gives answer r

pub returns_rows : {A : Type 0} (answer : Result A ReadError) (r : Reading A) → Returns answer r → Gives answer r
returns_rows answer r h = h.gives

-- where a row is read, it returns what the rows after it give
pub returns_on : {A B : Type 0} {r : Reading A} (f : A → Reading B) {x : A} {answer : Result B ReadError} → r ≡ Ok x → Returns answer (f x) → Returns answer (r >>= f)
returns_on f {answer = answer} h k = record { gives = subst (λ s. Gives answer (s >>= f)) (sym h) k.gives }

same_answer : {A B : Type 0} (answer : Result B ReadError) (e : ReadError) (r : Reading A) (f : A → Reading B) → IsErrAnd answer (λ d. d ≡ e) → Gives (Err e) r → Gives answer (r >>= f)
same_answer (Ok x) e r f is h = absurd is
same_answer (Err d) e r f is h = subst (λ d. Gives (Err d) (r >>= f)) (sym is) (Gives-then e r f h)

-- where a row misses, it returns the row's error
pub returns_miss : {A B : Type 0} (r : Reading A) (f : A → Reading B) (answer : Result B ReadError) (e : ReadError) → IsErrAnd answer (λ d. d ≡ e) → Gives (Err e) r → Returns answer (r >>= f)
returns_miss r f answer e is h = record { gives = same_answer answer e r f is h }
