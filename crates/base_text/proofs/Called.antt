-- The reads that a call makes one after the other, and what it looked at of their bytes.
use Rattle.std.proofs.Common.{◌≡◌, ℕ, Bool, true, false, true≢false, ◌||◌, ◌==◌, List, [], ◌++◌, Option, Some, None, refl, sym, ap, ◌∙◌, append_assoc, append-nil}
use Rattle.std.proofs.lemmas.List.Folds.{list_any-append}
use Rattle.base_text.specs.Calls.{FailsLast, ReadsAtOnce, ReadsOnNeed, ReadsWell, none, next}
use Rattle.base_text.specs.Lines.{has_newline, newline}
use Rattle.base_text.specs.Part.{Part}
use Rattle.base_text.specs.Pieces.{Moves}
use Rattle.base_text.proofs.LineEnds.{uncut-append}

-- what a call read so far: of the bytes that waited at first and those that were read the last are not looked at yet, and the
-- others hold no newline
pub record Called {S : Type 0} (gives : S → Option (List ℕ) → S → Type 0) (waiting piece : List ℕ) (first now : S) : Type 0 where
  pub bytes : List ℕ
  pub looked : List ℕ
  pub reads : ReadsOnNeed gives waiting first bytes now
  pub split : waiting ++ bytes ≡ looked ++ piece
  pub uncut : has_newline looked ≡ false

newline_stays : (waiting bytes : List ℕ) → has_newline waiting ≡ true → has_newline (waiting ++ bytes) ≡ false → ⊥
newline_stays waiting bytes waits uncut = true≢false (sym (list_any-append (λ b. b == newline) waiting bytes ∙ ap (λ v. v || has_newline bytes) waits) ∙ uncut)

-- nothing was read yet
pub Called-fresh : {S : Type 0} (gives : S → Option (List ℕ) → S → Type 0) (looked piece : List ℕ) (first : S) → has_newline looked ≡ false
    → Called gives (looked ++ piece) piece first first
Called-fresh gives looked piece first uncut = record { bytes = []; looked = looked; reads = none; split = append-nil (looked ++ piece); uncut = uncut }

module _ {S : Type 0} (gives : S → Option (List ℕ) → S → Type 0) (waiting piece : List ℕ) (first now : S) (called : Called gives waiting piece first now) where
  -- none of the reads so far failed
  pub Called-well : ReadsWell gives waiting first now
  Called-well = record { bytes = called.bytes; reads = called.reads }

  module _ (uncut : has_newline piece ≡ false) where
    whole_uncut : has_newline (waiting ++ called.bytes) ≡ false
    whole_uncut = ap has_newline called.split ∙ uncut-append called.looked piece called.uncut uncut

    -- one more read, where no newline was found
    pub Called-read : (more : List ℕ) (now' : S) → gives now (Some more) now' → Called gives waiting more first now'
    Called-read more now' read = record {
      bytes = called.bytes ++ more;
      looked = waiting ++ called.bytes;
      reads = next called.reads whole_uncut read;
      split = sym (append_assoc waiting called.bytes more);
      uncut = whole_uncut;
    }

    -- a read that failed
    pub Called-fault : (now' : S) → gives now None now' → FailsLast gives waiting first now'
    Called-fault now' fault = record { bytes = called.bytes; before = now; reads = called.reads; uncut = whole_uncut; last = fault }

-- a piece of which no line was taken has no newline
pub moved_uncut : {piece piece' : List ℕ} {part part' : Part} → Moves false piece piece' part part' → has_newline piece ≡ false
moved_uncut {piece' = piece'} moves = ap has_newline (moves.piece_is ∙ ap (λ p. moves.part ++ p) (moves.whole refl) ∙ append-nil moves.part) ∙ moves.uncut

-- while a newline waits nothing is read
reads_waiting : {S : Type 0} (gives : S → Option (List ℕ) → S → Type 0) (waiting : List ℕ) (first : S) (bytes : List ℕ) (now : S) → ReadsOnNeed gives waiting first bytes now
    → has_newline waiting ≡ true → now ≡ first
reads_waiting gives waiting first bytes now none waits = refl
reads_waiting gives waiting first bytes now (next {bytes = before} reads uncut read) waits = absurd (newline_stays waiting before waits uncut)

pub at_once : {S : Type 0} (gives : S → Option (List ℕ) → S → Type 0) (fault : Bool) (waiting : List ℕ) (first now : S) → ReadsAtOnce gives fault waiting first now
    → has_newline waiting ≡ true → now ≡ first
at_once gives false waiting first now call waits = reads_waiting gives waiting first call.bytes now call.reads waits
at_once gives true waiting first now call waits = absurd (newline_stays waiting call.bytes waits call.uncut)
