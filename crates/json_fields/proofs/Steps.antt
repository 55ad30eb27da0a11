-- A table's rows are read one after another, from what each reads.
use Rattle.std.proofs.Common.{◌≡◌, ◌∙◌, ap, Ok}
use Rattle.base_values.specs.Outcome.{◌>>=◌}
use Rattle.json_fields.specs.Outcome.{Reading}

-- that is read
pub record IsRead {A : Type 0} (r : Reading A) (x : A) : Type 0 where
  pub is : r ≡ Ok x

pub read_rows : {A : Type 0} (r : Reading A) (x : A) → IsRead r x → r ≡ Ok x
read_rows r x h = h.is

pub read_on : {A B : Type 0} {r : Reading A} (f : A → Reading B) {x : A} {z : B} → r ≡ Ok x → IsRead (f x) z → IsRead (r >>= f) z
read_on f h k = record { is = ap (λ s. s >>= f) h ∙ k.is }
