-- What a reader of lines holds, and what it gave of the bytes that it took from a source.
use Rattle.std.specs.Prelude.{◌≡◌, ℕ, ◌+◌, ◌^◌, ◌-◌, ◌≤◌, ◌⊎◌, Bool, true, false, List, [], ◌∷◌, ◌++◌, Option, Some, None, Result, Ok, Err, codes, length, map}
use Rattle.std.specs.Io.KnownBytes.{Consumes, IsAtEnd}
use Rattle.base_text_outside.specs.Causes.{Rose}
use Rattle.base_text.specs.declared.lines.Line.{Line}
use Rattle.base_text.specs.declared.lines.LineError.{LineError}
use Rattle.base_text.specs.declared.lines.LineError.TheVariants.{ReadFault, OutOfMemory}
use Rattle.base_text.specs.Lines.{has_newline, lines_of, partial_line}
use Rattle.base_text.specs.Part.{IsHeld, Part, line_bytes, item_of, no_part}

-- what is held of the line that is read, the bytes behind it that were read and not looked at, how many more
-- may be read, and whether the source reported its end
pub record Reader : Type 0 where
  pub part : Part
  pub piece : List ℕ
  pub room : ℕ
  pub is_done : Bool

-- nothing was read yet
abbrev pub new_reader : ℕ → Reader
new_reader max = record { part = no_part max; piece = []; room = 2 ^ 64 - 1; is_done = false }

-- the lines that were given end in a newline each, or nothing follows them
abbrev pub IsCut : Bool → List ℕ → List ℕ → Option (List ℕ) → Type 0
IsCut false front rest left = partial_line front ≡ []
IsCut true front rest left = (rest ≡ []) × IsAtEnd left

-- a reader gave this of the lines of a source, which had `first` to read and has `left` now: the bytes that
-- were taken are those of the lines that were given, those of the line that is read, and those that were not
-- looked at
pub record GaveLines (first left : Option (List ℕ)) (given : List (Option (List ℕ))) (reader : Reader)
    : Type 0 where
  pub front : List ℕ
  pub line : List ℕ
  pub taken : Consumes first left (front ++ (line ++ reader.piece))
  pub items : map (item_of reader.part.max_line) (lines_of front) ≡ given
  pub held : IsHeld line reader.part
  pub uncut : has_newline line ≡ false
  pub within : length front + length line + length reader.piece + reader.room ≡ 2 ^ 64 - 1
  pub cut : IsCut reader.is_done front (line ++ reader.piece) left

-- these are the first of those
pub record IsFrontOf {T : Type 0} (first all : List T) : Type 0 where
  pub rest : List T
  pub is : all ≡ first ++ rest

-- what was given after an answer: one more where it has a line
abbrev pub lines_after : List (Option (List ℕ)) → Result (Option Line) LineError → List (Option (List ℕ))
lines_after given (Ok (Some line)) = given ++ line_bytes line ∷ []
lines_after given (Ok None) = given
lines_after given (Err error) = given

-- no line is left: the source reported its end, or no more may be read of it and no newline waits
abbrev pub IsSpent : Reader → Type 0
IsSpent reader = (reader.is_done ≡ true) ⊎ ((reader.room ≡ 0) × (reader.piece ≡ []))

-- an error prints its name
abbrev pub line_error_text : LineError → List ℕ
line_error_text ReadFault = codes "ReadFault"
line_error_text OutOfMemory = codes "OutOfMemory"

-- a read failed: nothing of a further line is left to give, and the reader may be asked again
pub record BreaksLines (new : Reader) (before now : ℕ) : Type 0 where
  pub rose : Rose before now
  pub not_done : new.is_done ≡ false
  pub uncut : has_newline new.piece ≡ false

-- what an answer means: none is the end, and an error has its cause
abbrev pub TellsBoundedLine : Result (Option Line) LineError → Reader → Reader → ℕ → ℕ → Type 0
TellsBoundedLine (Ok (Some line)) old new before now = Unit {0}
TellsBoundedLine (Ok None) old new before now = IsSpent new
TellsBoundedLine (Err ReadFault) old new before now = BreaksLines new before now
TellsBoundedLine (Err OutOfMemory) old new before now = Unit {0}

-- no more is held than a line within the bound and one piece
pub record HoldsFew (reader : Reader) : Type 0 where
  pub line : length reader.part.bytes ≤ reader.part.max_line
  pub piece : length reader.piece ≤ 65536
