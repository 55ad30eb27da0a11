-- What one event, or one line, does to a value that holds a state, and to a sink.
use Rattle.std.specs.Prelude.{◌≡◌, ℕ, ◌⊎◌, List, [], ◌++◌, Some, None, Result, OnOk}
use Rattle.std.specs.Io.KnownBytes.{Appends}
use Rattle.std.specs.List.{concat}
use Rattle.base_text_outside.specs.Sink.{AppendsPart}
use Rattle.live_page.specs.Event.{event}
use Rattle.live_script.specs.declared.fault.LiveError.{LiveError}
use Rattle.live_script.specs.declared.fault.LiveError.TheVariants.{OutOfMemory, WriteFault}
use Rattle.live_script.specs.Fault.{IsRefusal}
use Rattle.live_script.specs.Session.{Rules, Turn, may_leave_line, texts_by, turn_of}
use Rattle.live_script.specs.Written.{AppendsFront, AppendsTexts, StreamBytes}

-- a turn that is not refused was taken: the state after it is held, and its texts were appended
pub record TakesTurn {P : Type 0} (r : Rules P) (t : Turn r.State r.Flush) (before : List r.Flush) (p : P)
    (held : StreamBytes) : Type 0 where
  pub accepted : t.refusal ≡ None
  pub holds : r.holds p (before ++ t.flushes) t.state
  pub appended : AppendsTexts held (texts_by r.text before t.flushes)

-- a turn that is refused with this error: the state after it is held, and its texts were appended
pub record RefusesTurn {P : Type 0} (r : Rules P) (t : Turn r.State r.Flush) (error : LiveError)
    (before : List r.Flush) (p : P) (held : StreamBytes) : Type 0 where
  pub refused : t.refusal ≡ Some error
  pub holds : r.holds p (before ++ t.flushes) t.state
  pub appended : AppendsTexts held (texts_by r.text before t.flushes)

-- an error ends a turn: a front of its texts was appended, not all of them after a write fault, a refusal is
-- the turn's own, and one of the states that the failure may leave is held
pub record EndsTurn {P : Type 0} (r : Rules P) (t : Turn r.State r.Flush) (May : r.State → Type 0)
    (error : LiveError) (before : List r.Flush) (p : P) (held : StreamBytes) : Type 0 where
  pub written : AppendsFront held (texts_by r.text before t.flushes)
  pub cut : error ≡ WriteFault → AppendsPart held.0 held.1 (concat (texts_by r.text before t.flushes))
  pub refused : IsRefusal error → RefusesTurn r t error before p held
  pub state : r.State
  pub left : May state
  pub holds : r.holds p before state

-- memory ran out before a line was read as an event: the state is as it was, and nothing was written
pub record MissesLine {P : Type 0} (r : Rules P) (s : r.State) (error : LiveError) (before : List r.Flush)
    (p : P) (held : StreamBytes) : Type 0 where
  pub memory : error ≡ OutOfMemory
  pub holds : r.holds p before s
  pub nothing : Appends held.0 held.1 []

-- an error ends the line of this number: its turn, or the line was not read
abbrev pub EndsLine : {P : Type 0} → (r : Rules P) → r.State → ℕ → List ℕ → LiveError → List r.Flush → P
    → StreamBytes → Type 0
EndsLine r s number line error before p held =
    EndsTurn r (turn_of r.turn s number (event line)) (may_leave_line r s (event line)) error before p held
    ⊎ MissesLine r s error before p held

-- what a call leaves as it was, by its result, and that events are taken still after success
pub record StaysOn {P : Type 0} (HasEnded : P → Type 0) (Keeps : Result (Unit {0}) LiveError → P → P → Type 0)
    (result : Result (Unit {0}) LiveError) (old new : P) : Type 0 where
  pub kept : Keeps result old new
  pub going : OnOk result (¬ HasEnded new)
