-- What a reader of lines holds, and what it gave of the bytes that it took from a source.
use Rattle.std.specs.Prelude.{◌≡◌, ℕ, ◌+◌, ◌<◌, ◌≤◌, Bool, true, false, List, [], ◌∷◌, ◌++◌, Option, Some, None, Result, Ok, Err, Vec, is_err, length, take}
use Rattle.std.specs.Io.KnownBytes.{Consumes}
use Rattle.base_text_outside.specs.Causes.{Rose}
use Rattle.base_text.specs.Lines.{has_newline, lines_of, whole_lines}
use Rattle.base_text.specs.Reader.{IsCut}
use Rattle.live_page.specs.declared.lines.LineError.{LineError}
use Rattle.live_page.specs.declared.lines.LineError.TheVariants.{ReadFault, TooMany, OutOfMemory, Ended}

-- of the bytes within the limit those that wait to be given, and how many more there is room for; whether a
-- byte past the limit was taken, whether the source reported its end, and whether a call was refused
pub record ScriptReader : Type 0 where
  pub waiting : List ℕ
  pub room : ℕ
  pub is_past : Bool
  pub is_done : Bool
  pub has_ended : Bool

-- nothing was read yet
abbrev pub fresh : ℕ → ScriptReader
fresh limit = record { waiting = []; room = limit; is_past = false; is_done = false; has_ended = false }

-- one byte past the limit was taken, or none
abbrev pub IsPast : Bool → ℕ → List ℕ → Type 0
IsPast false room beyond = beyond ≡ []
IsPast true room beyond = (length beyond ≡ 1) × (room ≡ 0)

-- a reader gave these lines of a source, which had `first` to read and has `left` now: the bytes that were
-- taken are those of the lines, those that wait, and at most one past the limit
pub record GaveScriptLines (limit : ℕ) (first left : Option (List ℕ)) (given : List (List ℕ))
    (reader : ScriptReader) : Type 0 where
  pub front : List ℕ
  pub beyond : List ℕ
  pub taken : Consumes first left (front ++ (reader.waiting ++ beyond))
  pub lines : lines_of front ≡ given
  pub within : length front + length reader.waiting + reader.room ≡ limit
  pub past : IsPast reader.is_past reader.room beyond
  pub cut : IsCut reader.is_done front (reader.waiting ++ beyond) left

-- the lines after an answer: one more where it has one
abbrev pub script_lines_after : {Z : Type 0} → List (List ℕ) → Result (Option (Vec ℕ Z)) LineError
    → List (List ℕ)
script_lines_after given (Ok (Some line)) = given ++ line.items ∷ []
script_lines_after given (Ok None) = given
script_lines_after given (Err error) = given

-- the bytes within the limit that were not given yet
abbrev pub bytes_ahead : ScriptReader → ℕ
bytes_ahead reader = length reader.waiting + reader.room

-- of these bytes there are more than the limit, and no line ends within it but those that were given
pub record IsPastLimit (limit : ℕ) (given : List (List ℕ)) (all : List ℕ) : Type 0 where
  pub past : limit < length all
  pub lines : whole_lines (take limit all) ≡ given

-- too many is answered exactly where this holds, unless another error comes
abbrev pub TooManyExactly : {Z : Type 0} → Result (Option (Vec ℕ Z)) LineError → Type 0 → Type 0
TooManyExactly (Ok line) Spent = Spent → ⊥
TooManyExactly (Err ReadFault) Spent = Unit {0}
TooManyExactly (Err TooMany) Spent = Spent
TooManyExactly (Err OutOfMemory) Spent = Unit {0}
TooManyExactly (Err Ended) Spent = Unit {0}

-- a read failed: what was taken of the source is the lines that were given, and bytes with no newline
pub record BreaksScript (new : ScriptReader) (before now : ℕ) : Type 0 where
  pub rose : Rose before now
  pub not_done : new.is_done ≡ false
  pub not_past : new.is_past ≡ false
  pub uncut : has_newline new.waiting ≡ false

-- what an answer means: a line is one step on, no line is the end, and an error has its cause
abbrev pub TellsScriptLine : {Z : Type 0} → Result (Option (Vec ℕ Z)) LineError → ScriptReader → ScriptReader
    → ℕ → ℕ → Type 0
TellsScriptLine (Ok (Some line)) old new before now = bytes_ahead new < bytes_ahead old
TellsScriptLine (Ok None) old new before now = new.is_done ≡ true
TellsScriptLine (Err ReadFault) old new before now = BreaksScript new before now
TellsScriptLine (Err TooMany) old new before now = (new.is_past ≡ true) × (has_newline new.waiting ≡ false)
TellsScriptLine (Err OutOfMemory) old new before now = Unit {0}
TellsScriptLine (Err Ended) old new before now = old.has_ended ≡ true

-- what a call answers: what it means, whether it was refused, and that no fault is forgotten
pub record AnswersScriptLine {Z : Type 0} (result : Result (Option (Vec ℕ Z)) LineError)
    (old new : ScriptReader) (before now : ℕ) : Type 0 where
  pub told : TellsScriptLine result old new before now
  pub refused : new.has_ended ≡ is_err result
  pub later : before ≤ now
