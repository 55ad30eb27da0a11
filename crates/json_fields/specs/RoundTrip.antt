-- what a type keeps of the documents that it was read from: what is written of it is read again, and is no
-- worse than the document
use Rattle.std.specs.Prelude.{◌≡◌, ◌≤◌, ℕ, zero, suc, max, Bool, false, IfOk}
use Rattle.serde_json.specs.Data.{Data, depth}
use Rattle.serde_json.specs.Written.{has_float}
use Rattle.json_fields.specs.Outcome.{Reading, HasNoFloat, IsReadAgain}

-- x is read again from what is written of it, which holds a float only where that flag is set, and nests to
-- at most n levels
pub record IsKept {T : Type 0} (reads : Data → Reading T) (writes : T → Data) (may_float : Bool) (n : ℕ)
    (x : T) : Type 0 where
  pub again : IsReadAgain reads writes x
  pub clean : may_float ≡ false → HasNoFloat writes x
  pub nests : depth (writes x) ≤ n

-- whatever is read of a document is kept: it holds a float where the document does, and nests as deep as the
-- document, or as its defaults
pub record RoundTrips {T : Type 0} (reads : Data → Reading T) (writes : T → Data) (height : ℕ) : Type 0 where
  pub keeps : (d : Data) → IfOk (reads d) (IsKept reads writes (has_float d) (max height (depth d)))

-- how deep the defaults nest in a list or a map of values whose defaults nest to so many levels
abbrev pub outer_height : ℕ → ℕ
outer_height zero = zero
outer_height (suc h) = suc (suc h)
