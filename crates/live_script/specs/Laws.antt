-- What sessions promise of every script: the session of a text and of one that follows it.
use Rattle.std.specs.Prelude.{◌≡◌, ℕ, ◌≤◌, ◌+◌, List, [], ◌++◌, Some, None, length}
use Rattle.std.specs.Option.{option_map}
use Rattle.base_text.specs.Lines.{partial_line}
use Rattle.live_page.specs.declared.event.Event.{Event}
use Rattle.live_script.specs.declared.fault.LiveError.{LiveError}
use Rattle.live_script.specs.declared.fault.LiveError.TheVariants.{Script}
use Rattle.live_script.specs.Session.{Outcome, Turn, session_by}

-- a refusal of a text that follows so many lines: their numbers are counted on
abbrev pub counted_on : ℕ → LiveError → LiveError
counted_on lines (Script line) = Script (lines + line)
counted_on lines error = error

-- an outcome is that of a first text and then of a second: the flushes of both, and the state and the refusal
-- of the second
pub record IsJoined {S F : Type 0} (first second both : Outcome S F) : Type 0 where
  pub flushes : both.flushes ≡ first.flushes ++ second.flushes
  pub state : both.state ≡ second.state
  pub refusal : both.refusal ≡ option_map (counted_on first.lines) second.refusal

-- where the first of two texts is empty or ends in a newline and its session has no refusal, and both are
-- within the byte limit
pub record AreJoinable {S F : Type 0} (turn : S → Event → Turn S F) (limit : ℕ) (s : S)
    (first second : List ℕ) : Type 0 where
  pub whole : partial_line first ≡ []
  pub accepted : (session_by limit turn s first).refusal ≡ None
  pub within : length (first ++ second) ≤ limit

-- the refusal of an event names no line
abbrev pub NamesNoLine : {S F : Type 0} → (S → Event → Turn S F) → Type 0
NamesNoLine {S = S} turn = (s : S) (e : Event) (line : ℕ) → ¬ ((turn s e).refusal ≡ Some (Script line))

-- the session of both is that of the first, and then that of the second from the first's state
abbrev pub ScriptsJoin : {S F : Type 0} → (S → Event → Turn S F) → Type 0
ScriptsJoin {S = S} turn =
    NamesNoLine turn → (limit : ℕ) (s : S) (first second : List ℕ) → AreJoinable turn limit s first second
    → IsJoined (session_by limit turn s first)
    (session_by limit turn (session_by limit turn s first).state second)
    (session_by limit turn s (first ++ second))
