-- When a `Live` holds a state, and what one step does to both: the state's parts, one clause each.
use Rattle.std.specs.Prelude.{◌≡◌, ◌≤◌, Bool, true, false, List, [], length, Option, Some, None, Result, Ok, Err}
use Rattle.std.specs.Option.{IfSome}
use Rattle.std.specs.Str.{is_utf8}
use Rattle.std.specs.Io.KnownBytes.{Appends}
use Rattle.vfs_core.specs.Texts.{BringsTo, all_pass}
use Rattle.vfs_core.specs.Files.{KeepsNumbers, existing_files, paths_of}
use Rattle.vfs_core.specs.VfsPath.{PathContent}
use Rattle.vfs_sets.specs.Probes.{RaisesAtMost, most_probes}
use Rattle.live_page.specs.Refresh.{KeepsDatabaseCrates, KeepsIdentities}
use Rattle.live_page.specs.Shape.{base_image, base_shape, image, texts_known}
use Rattle.live_config.specs.Config.{first_config}
use Rattle.live_page.specs.declared.event.Event.{Event}
use Rattle.live_page.specs.declared.event.Event.TheVariants.{Flush as FlushEvent}
use Rattle.live_script.specs.declared.fault.LiveError.{LiveError}
use Rattle.live_script.specs.declared.fault.StepError.{StepError}
use Rattle.live_script.specs.declared.fault.StepError.TheVariants.{Refused, Ended}
use Rattle.live.specs.declared.last_flush.LastFlush.{LastFlush}
use Rattle.live.specs.declared.session.Live.{Live}
use Rattle.live.specs.Crates.{ListsInOrder, ShowsCrates}
use Rattle.live_script.specs.Fault.{turn_statuses}
use Rattle.live_script.specs.Session.{Rules, Turn}
use Rattle.live_script.specs.Turn as script
use Rattle.live.specs.Image.{shape_of_flush}
use Rattle.live_project.specs.LiveTexts.{HoldsSaid, files_kept}
use Rattle.live.specs.Page.{Flushed, numbers_of_flush, page, paths_of_flush, roots_by}
use Rattle.live.specs.Session.{State, flush_of, state_after_failure, turn}
use Rattle.live_script.specs.Written.{Counts, HasWriteCause, StreamBytes}

-- ---- a state that is held

-- the database of a session shows the base of the last flush, if there was one, and the changes of files
-- since then bring its texts to those that live, each of which is a text. It lists no crates as long as no
-- project was loaded
pub record IsCurrent (live : Live) (s : State) : Type 0 where
  pub brings : BringsTo live.recorded.files (texts_known live.db) s.said.marks
  pub valid : all_pass is_utf8 live.recorded.files.batch ≡ true
  pub shown :
      IfSome s.flushed
      (λ done. base_image live.db ≡ base_shape (roots_by done.flush.project) (paths_of_flush done.flush))
  pub crates : live.project ≡ None → live.db.listed ≡ []

-- what is kept of a flush is its files, by the paths of the table, which only grow, and its project
pub record IsLast (paths : List PathContent) (last : LastFlush) (done : Flushed) : Type 0 where
  pub within : length last.texts ≤ length paths
  pub files : files_kept 0 paths last.texts ≡ done.flush.files
  pub project : last.project ≡ done.flush.project

-- the last flush is kept, where there was one
abbrev pub KeepsFlush : List PathContent → Option LastFlush → Option Flushed → Type 0
KeepsFlush paths None None = Unit {0}
KeepsFlush paths None (Some done) = ⊥
KeepsFlush paths (Some last) None = ⊥
KeepsFlush paths (Some last) (Some done) = IsLast paths last done

-- a session holds a state: it holds what was said, has the project and the last flush, and until it ends its
-- database is current
pub record Holds (live : Live) (s : State) : Type 0 where
  pub said : HoldsSaid live.recorded s.said
  pub project : live.project ≡ s.project
  pub flushed : KeepsFlush (paths_of live.recorded.files) live.flushed s.flushed
  pub ended : live.ended ≡ s.ended
  pub database : s.ended ≡ false → IsCurrent live s

-- a flush was refused, or its page was not written whole
abbrev pub HasEnded : Live → Type 0
HasEnded live = live.ended ≡ true

-- before the first event: the configuration is that of no words
abbrev pub first_state : State
first_state = record {
  said = record { config = first_config; marks = []; answers = [] };
  project = None;
  flushed = None;
  ended = false;
}

-- ---- the rules of a session

-- names stay: each path that had a number has it still, and each identity its crate, unless memory ran out at
-- a flush, which ends the session
pub record KeepsNames (Memory : Type 0) (old new : Live) : Type 0 where
  pub paths : KeepsNumbers old.recorded.files new.recorded.files
  pub crates : (HasEnded new → ¬ Memory) → KeepsIdentities old.db.crates new.db.crates

-- a session as a run of scripts takes it: each flush writes its page, whatever flushes came before
abbrev pub live_rules : Rules Live
live_rules = record {
  State = State;
  Flush = Flushed;
  turn = turn;
  may_leave = λ s event left. left ≡ state_after_failure s event;
  text = λ before done. page done;
  holds = λ live before s. Holds live s;
}

-- ---- one step

-- a turn that is not refused was taken: the state after it is held, and the pages of its flushes were
-- appended
abbrev pub TakesLiveTurn : Turn State Flushed → Live → StreamBytes → Type 0
TakesLiveTurn t live held = script.TakesTurn live_rules t [] live held

-- an error ends a turn: a front of its pages was appended, not all of them after a write fault, a refusal is
-- the turn's own, and this state is held
abbrev pub EndsLiveTurn : Turn State Flushed → State → LiveError → Live → StreamBytes → Type 0
EndsLiveTurn t state error live held = script.EndsTurn live_rules t (λ left. left ≡ state) error [] live held

-- an error of a step: the turn failed with it, or the session had ended and nothing was done
abbrev pub FailsStep : State → Event → StepError → Live → StreamBytes → Type 0
FailsStep s event (Refused error) live held =
    EndsLiveTurn (turn s event) (state_after_failure s event) error live held
FailsStep s event Ended live held = Holds live s × Appends held.0 held.1 []

-- the result of a step as that of its turn
abbrev pub HasStepCause : Result (Unit {0}) StepError → Counts → Type 0
HasStepCause (Ok done) writes = HasWriteCause (Ok done) turn_statuses writes
HasStepCause (Err (Refused error)) writes = HasWriteCause {T = Unit {0}} (Err error) turn_statuses writes
HasStepCause (Err Ended) writes = writes.0 ≤ writes.1

-- for each file that exists a flush takes at most one probe more than the text by which it is placed has
-- bytes, and at most one more than twice its slashes
abbrev pub CountsFlush : Live → Live → Type 0
CountsFlush old new =
    RaisesAtMost (most_probes (existing_files old.recorded.files)) old.probes.ledger new.probes.ledger

-- what a step leaves as it was: the configuration, and names; the database and the count of probes, unless it
-- is a flush; the crates of the database, where it succeeds and no project was loaded; all, where it fails
-- and is no flush; and whether the session has ended, where it succeeds. A flush that fails ends the session,
-- and each flush counts its probes
pub record LeavesAsWas (event : Event) (failed : Bool) (Memory : Type 0) (old new : Live) : Type 0 where
  pub names : KeepsNames Memory old new
  pub config : new.recorded.config ≡ old.recorded.config
  pub database : (event ≡ FlushEvent → ⊥) → new.db ≡ old.db
  pub all : failed ≡ true → (event ≡ FlushEvent → ⊥) → new ≡ old
  pub crates : failed ≡ false → old.project ≡ None → KeepsDatabaseCrates old.db new.db
  pub probes : (event ≡ FlushEvent → ⊥) → new.probes ≡ old.probes
  pub counts : event ≡ FlushEvent → CountsFlush old new
  pub going : failed ≡ false → new.ended ≡ old.ended
  pub ends : failed ≡ true → event ≡ FlushEvent → HasEnded new

-- after a flush the database shows the shape of the files that live, by the roots of the project; its list
-- names each crate once and after its dependencies, and its crates are those of the project
pub record ShowsShape (live : Live) (s : State) : Type 0 where
  pub shows : image live.db live.recorded.files ≡ shape_of_flush (flush_of s)
  pub order : ListsInOrder live.db
  pub crates : ShowsCrates live.db s.project (numbers_of_flush (flush_of s))
