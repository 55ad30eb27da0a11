-- The reads that a call makes one after the other, of which the last may have taken a byte past the limit.
use Rattle.std.proofs.Common.{◌≡◌, ℕ, ◌<◌, ◌≤◌, Bool, true, false, List, ◌++◌, Option, Some, length, take, take_all, nat_lt, sym, subst, ◌∙◌, arith}
use Rattle.std.proofs.lemmas.Bool.Decides.{nat_tests}
use Rattle.base_text.specs.Calls.{ReadsWell}
use Rattle.base_text.specs.Lines.{has_newline}
use Rattle.base_text.proofs.Called.{Called, Called-fresh, Called-read, Called-well}

-- what a call read so far: none of it failed, and where no byte past the limit was taken all of it was kept
pub record CalledWithin {S : Type 0} (gives : S → Option (List ℕ) → S → Type 0) (past : Bool) (waiting piece : List ℕ) (first now : S) : Type 0 where
  pub well : ReadsWell gives waiting first now
  pub kept : past ≡ false → Called gives waiting piece first now

-- nothing was read yet
pub Within-fresh : {S : Type 0} (gives : S → Option (List ℕ) → S → Type 0) (past : Bool) (line piece : List ℕ) (first : S) → has_newline line ≡ false
    → CalledWithin gives past (line ++ piece) piece first first
Within-fresh gives past line piece first uncut =
    let called = Called-fresh gives line piece first uncut in
    record { well = Called-well gives (line ++ piece) piece first first called; kept = λ within. called }

module _ {S : Type 0} (gives : S → Option (List ℕ) → S → Type 0) (past : Bool) (waiting piece : List ℕ) (first now : S) (not_past : past ≡ false) (uncut : has_newline piece ≡ false)
    (called : CalledWithin gives past waiting piece first now) where
  -- one more read, where no newline was found
  pub Within-read : (room count : ℕ) (piece' : List ℕ) (now' : S) → (bytes : List ℕ) × gives now (Some bytes) now' × (length bytes ≡ count) × (piece' ≡ take room bytes)
      → CalledWithin gives (nat_lt room count) waiting piece' first now'
  Within-read room count piece' now' read =
      let called' = Called-read gives waiting piece first now (called.kept not_past) uncut read.0 now' read.1 in
      record {
        well = Called-well gives waiting read.0 first now' called';
        kept = λ within.
            let few : length read.0 ≤ room = let many : length read.0 ≡ count = read.2 in grind (arith, nat_tests) in
            let whole : read.0 ≡ piece' = sym (read.3 ∙ take_all room read.0 few) in
            subst (λ p. Called gives waiting p first now') whole called';
      }
