-- Sources and sinks in memory of which chosen calls fail: the calls are numbered from 0, and the failing
-- numbers listed.
use Rattle.std.specs.Prelude.{◌≡◌, ℕ, ◌==◌, ◌++◌, Bool, List, Option, Some, None, if◌then◌else◌}
use Rattle.std.specs.List.{list_any}
use Rattle.base_text_outside.specs.Causes.{next_count}

-- what a source has left or a sink holds, the failing numbers, the calls so far, and those that failed
pub record FaultyStream : Type 0 where
  pub bytes : List ℕ
  pub failing : List ℕ
  pub calls : ℕ
  pub faults : ℕ

-- the number of the next call is listed
abbrev pub fails_next : FaultyStream → Bool
fails_next s = list_any (λ n. n == s.calls) s.failing

-- after a call that failed
abbrev pub after_fault : FaultyStream → FaultyStream
after_fault s = record s { calls = next_count s.calls; faults = next_count s.faults }

-- after a call that did not fail and left these bytes
abbrev pub after_service : FaultyStream → List ℕ → FaultyStream
after_service s bytes = record s { bytes = bytes; calls = next_count s.calls }

-- what one read does: it gives the front of what is left, or fails, and is counted
abbrev pub GivesOnce : FaultyStream → Option (List ℕ) → FaultyStream → Type 0
GivesOnce old (Some bytes) new = (old.bytes ≡ bytes ++ new.bytes) × (new ≡ after_service old new.bytes)
GivesOnce old None new = new ≡ after_fault old

-- the failing numbers, the calls so far, and those that failed
pub record FaultCounts : Type 0 where
  pub failing : List ℕ
  pub calls : ℕ
  pub faults : ℕ

-- the number of the next call is listed
abbrev pub is_failing_call : FaultCounts → Bool
is_failing_call s = list_any (λ n. n == s.calls) s.failing

-- after a call, which counts as a fault where its number is listed
abbrev pub after_call : FaultCounts → FaultCounts
after_call s = record s {
  calls = next_count s.calls;
  faults = if is_failing_call s then next_count s.faults else s.faults;
}
