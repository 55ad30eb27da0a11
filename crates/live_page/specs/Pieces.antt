-- What one read gives, and how a line is taken from it.
use Rattle.std.specs.Prelude.{◌≡◌, ℕ, ◌+◌, ◌≤◌, Bool, true, false, List, [], ◌++◌, Option, Some, None, Result, Ok, Err, length, take}
use Rattle.std.specs.Io.KnownBytes.{Consumes, IsAtEnd}
use Rattle.base_text_outside.specs.Causes.{Rose}
use Rattle.base_text.specs.Lines.{has_newline}
use Rattle.base_text.specs.Pieces.{rest_of}
use Rattle.base_text.specs.declared.lines.LineError.{LineError as ReadError}
use Rattle.base_text.specs.declared.lines.LineError.TheVariants as read
use Rattle.live_page.specs.declared.lines.LineError.{LineError}
use Rattle.live_page.specs.declared.lines.LineError.TheVariants.{ReadFault, TooMany, OutOfMemory, Ended}

-- the part of a piece up to its first newline, or all of it, was put behind a line
pub record MovesToLine (found : Bool) (piece piece' line line' : List ℕ) : Type 0 where
  pub part : List ℕ
  pub uncut : has_newline part ≡ false
  pub piece_is : piece ≡ part ++ rest_of found piece'
  pub line_is : line' ≡ line ++ part
  pub whole : found ≡ false → piece' ≡ []

-- one read: of its bytes those within the room are the piece
pub record ReadsWithin (room count : ℕ) (left left' : Option (List ℕ)) (piece : List ℕ) : Type 0 where
  pub bytes : List ℕ
  pub read : Consumes left left' bytes
  pub many : length bytes ≡ count
  pub most : count ≤ room + 1
  pub piece_is : piece ≡ take room bytes
  pub end : count ≡ 0 → IsAtEnd left'

-- what a call does to its source: it is read once, and not at all where there was no memory; of what it gave
-- those within the room are the piece
abbrev pub ReadsOnceWithin : {S : Type 0} → (S → Option (List ℕ) → S → Type 0) → ℕ → Result ℕ LineError
    → List ℕ → S → S → Type 0
ReadsOnceWithin gives room (Ok count) piece old new =
    (bytes : List ℕ) × gives old (Some bytes) new × (length bytes ≡ count) × (piece ≡ take room bytes)
ReadsOnceWithin gives room (Err ReadFault) piece old new = gives old None new
ReadsOnceWithin gives room (Err TooMany) piece old new = ⊥
ReadsOnceWithin gives room (Err OutOfMemory) piece old new = new ≡ old
ReadsOnceWithin gives room (Err Ended) piece old new = ⊥

-- an error of a read has its cause
abbrev pub HasScriptCauseOf : LineError → ℕ → ℕ → Type 0
HasScriptCauseOf ReadFault before now = Rose before now
HasScriptCauseOf TooMany before now = ⊥
HasScriptCauseOf OutOfMemory before now = Unit {0}
HasScriptCauseOf Ended before now = ⊥

-- an error of a read is that of the call
abbrev pub of_piece_error : ReadError → LineError
of_piece_error read.ReadFault = ReadFault
of_piece_error read.OutOfMemory = OutOfMemory

-- whether an answer reports a fault of the source
abbrev pub is_script_fault : {T : Type 0} → Result T LineError → Bool
is_script_fault (Ok line) = false
is_script_fault (Err ReadFault) = true
is_script_fault (Err TooMany) = false
is_script_fault (Err OutOfMemory) = false
is_script_fault (Err Ended) = false
