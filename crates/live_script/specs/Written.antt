-- What a sink took of the texts of a session, all of them or a front, and whether faults were counted.
use Rattle.std.specs.Prelude.{ℕ, ◌≤◌, List, [], ◌∷◌, ◌++◌, Option, Result, IfErr, IsErrOf, OnErr, OnOk, length, take}
use Rattle.std.specs.List.{concat}
use Rattle.std.specs.Io.KnownBytes.{Appends}
use Rattle.base_text_outside.specs.Causes.{Rose, WritesHaveCause}
use Rattle.base_text_outside.specs.Sink.{AppendsPart}
use Rattle.base_text_outside.specs.declared.limits.Limit.TheVariants.{Bytes}
use Rattle.base_text_outside.specs.declared.sink.SinkError.{SinkError}
use Rattle.live_script.specs.declared.fault.LiveError.{LiveError}
use Rattle.live_script.specs.declared.fault.LiveError.TheVariants.{TooMany, WriteFault}
use Rattle.live_script.specs.Fault.{IsOneOf, status_of}

-- the bytes that a stream shows before a call, and after it: those left to read, or those written
abbrev pub StreamBytes : Type 0
StreamBytes = Option (List ℕ) × Option (List ℕ)

-- how many faults a stream counted before a call, and after it
abbrev pub Counts : Type 0
Counts = ℕ × ℕ

-- the sink took these texts, whole and in order, and nothing else
abbrev pub AppendsTexts : StreamBytes → List (List ℕ) → Type 0
AppendsTexts held texts = Appends held.0 held.1 (concat texts)

-- the sink took a front of these texts
pub record AppendsFront (held : StreamBytes) (texts : List (List ℕ)) : Type 0 where
  pub count : ℕ
  pub within : count ≤ length (concat texts)
  pub front : Appends held.0 held.1 (take count (concat texts))

-- an error has one of these statuses, the limit of bytes is none that it names, and the sink's count of
-- faults, which does not fall, rose where it is a write fault
pub record HasWriteCause {T : Type 0} (result : Result T LiveError) (statuses : List ℕ) (writes : Counts)
    : Type 0 where
  pub later : writes.0 ≤ writes.1
  pub only : IfErr result (λ error. IsOneOf statuses (status_of error))
  pub write : IsErrOf result WriteFault → Rose writes.0 writes.1
  pub limits : IsErrOf result (TooMany Bytes) → ⊥

-- what became of a line of text on an output: all of it was written, with its newline; or a front of it,
-- where memory ran out, or a write failed, whose fault was counted
pub record TellsLine (answer : Result (Unit {0}) SinkError) (text : List ℕ) (held : StreamBytes)
    (faults : Counts) : Type 0 where
  pub whole : OnOk answer (Appends held.0 held.1 (text ++ 10 ∷ []))
  pub cut : OnErr answer (AppendsPart held.0 held.1 (text ++ 10 ∷ []))
  pub cause : WritesHaveCause faults.0 faults.1 answer
