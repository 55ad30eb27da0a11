-- What one read gives, and how a line is taken from it.
use Rattle.std.specs.Prelude.{◌≡◌, ℕ, ◌<◌, ◌≤◌, Bool, true, false, List, [], ◌∷◌, ◌++◌, Option, Some, None, Result, Ok, Err, length, take, slice_index}
use Rattle.std.specs.Io.KnownBytes.{Consumes, IsAtEnd}
use Rattle.base_text_outside.specs.Causes.{Rose}
use Rattle.base_text.specs.declared.lines.LineError.{LineError}
use Rattle.base_text.specs.declared.lines.LineError.TheVariants.{ReadFault, OutOfMemory}
use Rattle.base_text.specs.Lines.{has_newline, newline}
use Rattle.base_text.specs.Part.{IsHeld, Part}

-- the first newline of some bytes stands here
pub record IsFirstNewline (bytes : List ℕ) (at : ℕ) : Type 0 where
  pub within : at < length bytes
  pub before : has_newline (take at bytes) ≡ false
  pub here : slice_index bytes at ≡ newline

-- what was left of a piece of which a part without newline was taken
abbrev pub rest_of : Bool → List ℕ → List ℕ
rest_of true rest = newline ∷ rest
rest_of false rest = rest

-- the part of a piece up to its first newline, or all of it, was added to a line
pub record Moves (found : Bool) (piece piece' : List ℕ) (held held' : Part) : Type 0 where
  pub part : List ℕ
  pub uncut : has_newline part ≡ false
  pub piece_is : piece ≡ part ++ rest_of found piece'
  pub adds : (line : List ℕ) → IsHeld line held → IsHeld (line ++ part) held'
  pub bound : held'.max_line ≡ held.max_line
  pub few : length held'.bytes ≤ held'.max_line
  pub whole : found ≡ false → piece' ≡ []

-- one read: its bytes are the piece
pub record Reads (bound count : ℕ) (left left' : Option (List ℕ)) (piece : List ℕ) : Type 0 where
  pub read : Consumes left left' piece
  pub many : length piece ≡ count
  pub most : count ≤ bound
  pub few : count ≤ 65536
  pub end : count ≡ 0 → IsAtEnd left'

-- what a call does to its source: it is read once, and not at all where there was no memory
abbrev pub ReadsOnce : {S : Type 0} → (S → Option (List ℕ) → S → Type 0) → Result ℕ LineError → List ℕ → S → S
    → Type 0
ReadsOnce gives (Ok count) piece old new = gives old (Some piece) new
ReadsOnce gives (Err ReadFault) piece old new = gives old None new
ReadsOnce gives (Err OutOfMemory) piece old new = new ≡ old

-- an error of a read has its cause
abbrev pub HasCauseOf : LineError → ℕ → ℕ → Type 0
HasCauseOf ReadFault before now = Rose before now
HasCauseOf OutOfMemory before now = Unit {0}
