-- Which reads a call makes of its source, so that a line is given as soon as it is whole and a fault is
-- reported at once.
use Rattle.std.specs.Prelude.{◌≡◌, ℕ, Bool, true, false, List, [], ◌++◌, Option, Some, None, Result, Ok, Err}
use Rattle.base_text.specs.Lines.{has_newline}
use Rattle.base_text.specs.declared.lines.LineError.{LineError}
use Rattle.base_text.specs.declared.lines.LineError.TheVariants.{ReadFault, OutOfMemory}

-- reads one after the other, the bytes that they gave, and the source after them: none of them failed, and
-- each was made where no newline was among the bytes that waited at first and those that were given since
pub data ReadsOnNeed {S : Type 0} (gives : S → Option (List ℕ) → S → Type 0) (waiting : List ℕ) (first : S)
    : List ℕ → S → Type 0 where
  none : ReadsOnNeed gives waiting first [] first
  next : {bytes more : List ℕ} {before now : S} → ReadsOnNeed gives waiting first bytes before
      → has_newline (waiting ++ bytes) ≡ false
      → gives before (Some more) now → ReadsOnNeed gives waiting first (bytes ++ more) now

-- the reads of a call of which none failed
pub record ReadsWell {S : Type 0} (gives : S → Option (List ℕ) → S → Type 0) (waiting : List ℕ)
    (first now : S) : Type 0 where
  pub bytes : List ℕ
  pub reads : ReadsOnNeed gives waiting first bytes now

-- the reads of a call of which the last failed
pub record FailsLast {S : Type 0} (gives : S → Option (List ℕ) → S → Type 0) (waiting : List ℕ)
    (first now : S) : Type 0 where
  pub bytes : List ℕ
  pub before : S
  pub reads : ReadsOnNeed gives waiting first bytes before
  pub uncut : has_newline (waiting ++ bytes) ≡ false
  pub last : gives before None now

-- the reads of a call: the last failed where it reports a fault, and else none did
abbrev pub ReadsAtOnce : {S : Type 0} → (S → Option (List ℕ) → S → Type 0) → Bool → List ℕ → S → S → Type 0
ReadsAtOnce gives false waiting first now = ReadsWell gives waiting first now
ReadsAtOnce gives true waiting first now = FailsLast gives waiting first now

-- whether an answer reports a fault of the source
abbrev pub is_read_fault : {T : Type 0} → Result T LineError → Bool
is_read_fault (Ok line) = false
is_read_fault (Err ReadFault) = true
is_read_fault (Err OutOfMemory) = false
