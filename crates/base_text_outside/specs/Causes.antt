-- When a source or a sink may fail: its count of faults rises with every failure, and stops at the greatest
-- u64.
use Rattle.std.specs.Prelude.{◌≡◌, ℕ, zero, suc, ◌+◌, ◌-◌, ◌^◌, ◌<◌, ◌≤◌, min, List, length, Result, Ok, OnErr, IsErrOf}
use Rattle.std.proofs.Common.{arith}
use Rattle.base_text_outside.specs.declared.sink.SinkError.{SinkError}
use Rattle.base_text_outside.specs.declared.sink.SinkError.TheVariants.{Failed}

-- one more, but never past the greatest u64
abbrev pub next_count : ℕ → ℕ
next_count n = min (n + 1) (2 ^ 64 - 1)

-- a count after so many steps
abbrev pub raised_by : ℕ → ℕ → ℕ
raised_by zero count = count
raised_by (suc steps) count = next_count (raised_by steps count)

-- the count rose, or stands at its end
abbrev pub Rose : ℕ → ℕ → Type 0
Rose before now = next_count before ≤ now

-- the count of faults does not fall, and each error has its fault
pub record HasCause {T E : Type 0} (before now : ℕ) (result : Result T E) : Type 0 where
  pub later : before ≤ now
  pub failed : OnErr result (Rose before now)

-- the same for the write of a piece: out of memory is no fault, and a write that takes nothing is one
pub record WriteHasCause (before now : ℕ) (result : Result ℕ SinkError) (piece : List ℕ) : Type 0 where
  pub later : before ≤ now
  pub failed : IsErrOf result Failed → Rose before now
  pub nothing : result ≡ Ok 0 → 0 < length piece → Rose before now

-- the same for many writes in a row
pub record WritesHaveCause {T : Type 0} (before now : ℕ) (result : Result T SinkError) : Type 0 where
  pub later : before ≤ now
  pub failed : IsErrOf result Failed → Rose before now

-- a rise in a later part of a call is a rise in the call
pub Rose-after : (a b c : ℕ) → a ≤ b → Rose b c → Rose a c
Rose-after a b c later rose = omega arith

-- and so is a rise in an earlier part
pub Rose-before : (a b c : ℕ) → Rose a b → b ≤ c → Rose a c
Rose-before a b c rose later = omega arith
