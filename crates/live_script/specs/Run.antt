-- What a run over a source and a sink did: the session of the bytes that it took, held and written.
use Rattle.std.specs.Prelude.{◌≡◌, ℕ, ◌+◌, ◌≤◌, ◌⊎◌, List, [], ◌++◌, Option, Some, None, Result, Ok, Err, length}
use Rattle.std.specs.Io.KnownBytes.{Consumes, IsAtEnd}
use Rattle.std.specs.List.{concat}
use Rattle.std.specs.Option.{option_and_then, option_to_list}
use Rattle.base_text_outside.specs.Causes.{Rose}
use Rattle.base_text_outside.specs.Sink.{AppendsPart}
use Rattle.base_text.specs.Lines.{whole_lines}
use Rattle.base_text.specs.Reader.{IsFrontOf}
use Rattle.live_page.specs.Event.{event}
use Rattle.live_script.specs.declared.fault.LiveError.{LiveError}
use Rattle.live_script.specs.declared.fault.LiveError.TheVariants.{OutOfMemory, ReadFault, WriteFault}
use Rattle.live_script.specs.Fault.{IsOneOf, IsRefusal}
use Rattle.live_script.specs.Session.{Outcome, Rules, lines_within, may_leave_line, session_by, texts_by, turn_of, turns_by}
use Rattle.live_script.specs.Written.{AppendsFront, AppendsTexts, Counts, StreamBytes}

-- these lines were taken, all of them or up to this refusal: the state after them is held, and their texts
-- were appended
pub record Ran {P : Type 0} (r : Rules P) (o : Outcome r.State r.Flush) (refusal : Option LiveError)
    (before : List r.Flush) (p : P) (held : StreamBytes) : Type 0 where
  pub refused : o.refusal ≡ refusal
  pub holds : r.holds p (before ++ o.flushes) o.state
  pub appended : AppendsTexts held (texts_by r.text before o.flushes)

-- the texts of the line that comes after these, and none where no line does
abbrev pub next_texts : {P : Type 0} → (r : Rules P) → List r.Flush → Outcome r.State r.Flush
    → Option (List ℕ) → List (List ℕ)
next_texts r before o None = []
next_texts r before o (Some line) =
    texts_by r.text (before ++ o.flushes) (turn_of r.turn o.state (o.lines + 1) (event line)).flushes

-- what a run leaves that failed with no refusal of its session: it took some first lines of the script whole,
-- and the next one may have failed. A state is held that the failed line may leave after these lines; their
-- texts were appended, and then a front of those of the failed line, not all of them after a write fault. A
-- read fault comes between two lines, after all that were whole in the bytes taken
pub record LeavesRun {P : Type 0} (r : Rules P) (limit : ℕ) (s : r.State) (before : List r.Flush)
    (all : List ℕ) (error : LiveError) (p : P) (left held : StreamBytes) : Type 0 where
  pub taken : List (List ℕ)
  pub next : Option (List ℕ)
  pub first : IsFrontOf (taken ++ option_to_list next) (lines_within limit all)
  pub accepted : (turns_by r.turn s taken).refusal ≡ None
  pub state : r.State
  pub left_by : may_leave_line r (turns_by r.turn s taken).state (option_and_then event next) state
  pub holds : r.holds p (before ++ (turns_by r.turn s taken).flushes) state
  -- what the sink held after the lines taken
  pub between : Option (List ℕ)
  pub appended : AppendsTexts (held.0, between) (texts_by r.text before (turns_by r.turn s taken).flushes)
  pub written : AppendsFront (between, held.1) (next_texts r before (turns_by r.turn s taken) next)
  pub cut : error ≡ WriteFault
      → AppendsPart between held.1 (concat (next_texts r before (turns_by r.turn s taken) next))
  pub read : error ≡ ReadFault
      → (next ≡ None) × ((bytes : List ℕ) × Consumes left.0 left.1 bytes × (whole_lines bytes ≡ taken))

-- an error ends the run of these bytes: a front of the texts of their session was appended, a refusal is the
-- session's own, and where it is none this is what the run leaves
pub record EndsRun {P : Type 0} (r : Rules P) (limit : ℕ) (s : r.State) (before : List r.Flush) (all : List ℕ)
    (error : LiveError) (p : P) (left held : StreamBytes) : Type 0 where
  pub written : AppendsFront held (texts_by r.text before (session_by limit r.turn s all).flushes)
  pub refused : IsRefusal error → Ran r (session_by limit r.turn s all) (Some error) before p held
  pub leaves : ¬ IsRefusal error → LeavesRun r limit s before all error p left held

-- the same of the bytes that a source has left, where it shows them
abbrev pub EndsFrom : {P : Type 0} → (r : Rules P) → ℕ → r.State → List r.Flush → LiveError → P → StreamBytes
    → StreamBytes → Type 0
EndsFrom r limit s before error p left held =
    (all : List ℕ) → left.0 ≡ Some all → EndsRun r limit s before all error p left held

-- the source was read to its end, and the session of its bytes was run
pub record Finishes {P : Type 0} (r : Rules P) (limit : ℕ) (s : r.State) (before : List r.Flush) (p : P)
    (left held : StreamBytes) : Type 0 where
  pub bytes : List ℕ
  pub read : Consumes left.0 left.1 bytes
  pub at_end : IsAtEnd left.1
  pub ran : Ran r (session_by limit r.turn s bytes) None before p held

-- a source gave at most so many of its bytes
pub record TakesAtMost (most : ℕ) (left : StreamBytes) : Type 0 where
  pub bytes : List ℕ
  pub read : Consumes left.0 left.1 bytes
  pub few : length bytes ≤ most

-- a status is one of these, and a fault rose in the source or the sink where it reports one
pub record HasStatusCause (statuses : List ℕ) (status : ℕ) (reads writes : Counts) : Type 0 where
  pub only : IsOneOf statuses status
  pub read : status ≡ 3 → Rose reads.0 reads.1
  pub write : status ≡ 4 → Rose writes.0 writes.1

-- a source and a sink, of which neither failed
pub record IsFaultless (reads writes : Counts) : Type 0 where
  pub read : ¬ Rose reads.0 reads.1
  pub written : ¬ Rose writes.0 writes.1

-- what a run answers where neither a source nor a sink failed: success where the session has no refusal, else
-- that refusal, unless memory ran out
abbrev pub Completes : Option LiveError → Result (Unit {0}) LiveError → Type 0
Completes refusal (Ok done) = refusal ≡ None
Completes refusal (Err error) = (error ≡ OutOfMemory) ⊎ (refusal ≡ Some error)
