-- What a call says of the lines that it gave a progress: all of them, or after it ran out of memory a front
-- of them.
use Rattle.std.specs.Prelude.{◌≡◌, ℕ, List, Option}
use Rattle.base_text.specs.Progress.{TakesFront, with_lines}

-- a call gave these lines, one after another, and no other; only where it gave up may the last of them be
-- missing
pub record TakesLines (gave_up : Type 0) (old new : Option (List (List ℕ))) (lines : List (List ℕ))
    : Type 0 where
  pub all : ¬ gave_up → new ≡ with_lines lines old
  pub front : TakesFront old new lines
