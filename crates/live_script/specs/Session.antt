-- A session of any state: what a script does to it line by line, which flushes it makes, and what it refuses.
-- From the rule that a script is taken line by line up to its first refusal.
use Rattle.std.specs.Prelude.{◌≡◌, ℕ, List, [], ◌∷◌, ◌++◌, Option, Some, None, length, take, unwrap_or, nat_le, ◌+◌, if◌then◌else◌}
use Rattle.std.specs.List.{fold}
use Rattle.base_text_outside.specs.declared.limits.Limit.TheVariants.{Bytes}
use Rattle.base_text.specs.Lines.{lines_of, whole_lines}
use Rattle.live_page.specs.Event.{event}
use Rattle.live_page.specs.declared.event.Event.{Event}
use Rattle.live_script.specs.declared.fault.LiveError.{LiveError}
use Rattle.live_script.specs.declared.fault.LiveError.TheVariants.{Script, TooMany}

-- ---- lines

-- what one event makes: the state after it, the flushes that it does, and its refusal
pub record Turn (S F : Type 0) : Type 0 where
  pub state : S
  pub flushes : List F
  pub refusal : Option LiveError

-- an event that is taken
abbrev pub takes : {S F : Type 0} → S → List F → Turn S F
takes s flushes = record { state = s; flushes = flushes; refusal = None }

-- an event that is refused leaves this state, and does no flush
abbrev pub refuses : {S F : Type 0} → S → LiveError → Turn S F
refuses s error = record { state = s; flushes = []; refusal = Some error }

-- the line of this number: its event's turn, and a line that is no event is refused
abbrev pub turn_of : {S F : Type 0} → (S → Event → Turn S F) → S → ℕ → Option Event → Turn S F
turn_of turn s number None = refuses s (Script number)
turn_of turn s number (Some e) = turn s e

-- what the lines so far made: the state, the flushes in order, how many lines there were, the first refusal
pub record Outcome (S F : Type 0) : Type 0 where
  pub state : S
  pub flushes : List F
  pub lines : ℕ
  pub refusal : Option LiveError

-- before the first line
abbrev pub start : {S F : Type 0} → S → Outcome S F
start s = record { state = s; flushes = []; lines = 0; refusal = None }

-- one turn after these lines
abbrev pub then_turn : {S F : Type 0} → Outcome S F → Turn S F → Outcome S F
then_turn o t = record {
  state = t.state;
  flushes = o.flushes ++ t.flushes;
  lines = o.lines + 1;
  refusal = t.refusal;
}

-- one more line; none is taken after a refusal
abbrev pub take_line_after : {S F : Type 0} → (S → Event → Turn S F) → Option LiveError → Outcome S F → List ℕ
    → Outcome S F
take_line_after turn None o line = then_turn o (turn_of turn o.state (o.lines + 1) (event line))
take_line_after turn (Some error) o line = o

-- one more line
abbrev pub take_line : {S F : Type 0} → (S → Event → Turn S F) → Outcome S F → List ℕ → Outcome S F
take_line turn o line = take_line_after turn o.refusal o line

-- these lines in order, up to the first refusal
unfoldable pub turns_by : {S F : Type 0} → (S → Event → Turn S F) → S → List (List ℕ) → Outcome S F
turns_by turn s lines = fold (take_line turn) (start s) lines

-- ---- scripts

-- the outcome with a refusal that comes behind all lines
abbrev pub refused_by : {S F : Type 0} → Outcome S F → LiveError → Outcome S F
refused_by o error = record o { refusal = Some (unwrap_or o.refusal error) }

-- the session of a state and the bytes of a script
unfoldable pub session_by : {S F : Type 0} → ℕ → (S → Event → Turn S F) → S → List ℕ → Outcome S F
session_by limit turn s bytes =
    if nat_le (length bytes) limit then turns_by turn s (lines_of bytes)
    else refused_by (turns_by turn s (whole_lines (take limit bytes))) (TooMany Bytes)

-- the lines of a script within a limit of bytes: of a longer one those whose newline is within it
unfoldable pub lines_within : ℕ → List ℕ → List (List ℕ)
lines_within limit bytes =
    if nat_le (length bytes) limit then lines_of bytes else whole_lines (take limit bytes)

-- the texts of flushes in a row, each of which may look at all flushes before it: those before the run, and
-- those of the run
abbrev pub texts_by : {F : Type 0} → (List F → F → List ℕ) → List F → List F → List (List ℕ)
texts_by text before [] = []
texts_by text before (f ∷ fs) = text before f ∷ texts_by text (before ++ f ∷ []) fs

-- ---- rules

-- what a session is for a value of the program: its states, its flushes, and when the value holds a state
pub record Rules (P : Type 0) : Type 1 where
  -- what a session knows
  pub State : Type 0
  -- what a flush brought
  pub Flush : Type 0
  -- what one event makes
  pub turn : State → Event → Turn State Flush
  -- an event that failed may leave this state
  pub may_leave : State → Event → State → Type 0
  -- what is written at a flush, after these flushes
  pub text : List Flush → Flush → List ℕ
  -- the value holds a state, after these flushes
  pub holds : P → List Flush → State → Type 0

-- the states that a line may leave where it failed: one that is no event leaves it as it was
abbrev pub may_leave_line : {P : Type 0} → (r : Rules P) → r.State → Option Event → r.State → Type 0
may_leave_line r s None left = left ≡ s
may_leave_line r s (Some e) left = r.may_leave s e left
