-- What the whole program answers: a status, by what its words ask and by the session of the script that they
-- run.
use Rattle.std.specs.Prelude.{◌≡◌, ℕ, List, [], ◌+◌, ◌⊎◌, Option, Some, None, Result, Ok, Err, String, codes, map, string_bytes}
use Rattle.std.specs.Option.{option_map, option_map_or, option_or}
use Rattle.std.specs.declared.alloc.Global.{Global}
use Rattle.base_text_outside.specs.declared.sink.SinkError.{SinkError}
use Rattle.live_config.specs.Config.{command_of}
use Rattle.live_config.specs.declared.config.Command.{Command}
use Rattle.live_config.specs.declared.config.Command.TheVariants.{Run}
use Rattle.live_config.specs.declared.config.LiveConfig.{LiveConfig}
use Rattle.live_script.specs.declared.fault.LiveError.{LiveError}
use Rattle.live_script.specs.declared.fault.LiveError.TheVariants.{OutOfMemory}
use Rattle.live_script.specs.Fault.{status_of, live_error_text}
use Rattle.live_script.specs.Run.{EndsFrom, Finishes, TakesAtMost}
use Rattle.live_script.specs.Written.{Counts, StreamBytes, TellsLine}
use Rattle.live.specs.declared.session.Live.{Live}
use Rattle.live.specs.Page.{Flushed, page}
use Rattle.live.specs.Session.{State, session, with_config}
use Rattle.live.specs.Turn.{Holds, KeepsNames, live_rules}

-- ---- what words ask

-- what a command does: with this configuration it runs a script of its own, or else what the source gives,
-- and at each flush it writes this text
pub record Work : Type 0 where
  pub config : LiveConfig
  pub script : Option (List ℕ)
  pub text : List Flushed → Flushed → List ℕ

-- what words ask of a program: a work, where they are a command of it, and the text that says which words are
pub record Asked : Type 0 where
  pub work : Option Work
  pub usage : List ℕ

-- the work of a command: a run writes the page of each flush
abbrev pub work_of : Command → Work
work_of (Run config) = record { config = config; script = None; text = λ before done. page done }

-- the usage text
abbrev pub usage_text : List ℕ
usage_text = codes "usage: live [options] or live generate N"

-- what the words of the program ask
abbrev pub asked_by : List (String Global) → Asked
asked_by words = record {
  work = option_map work_of (command_of (map string_bytes words));
  usage = usage_text;
}

-- what the run of a work read: its own script, and then nothing of the source, or else the source
abbrev pub ReadsFor : Option (List ℕ) → StreamBytes → StreamBytes → Type 0
ReadsFor None left read = read ≡ left
ReadsFor (Some script) left read = (read.0 ≡ Some script) × (left.1 ≡ left.0)

-- ---- what the program did

-- the run of what is asked finished, from a state
pub record FinishesAs (asked : Asked) (s : State) (live : Live) (left held : StreamBytes) : Type 0 where
  pub work : Work
  pub given : asked.work ≡ Some work
  pub read : StreamBytes
  pub from : ReadsFor work.script left read
  pub finishes :
      Finishes (record live_rules { text = work.text }) work.config.limits.bytes
      (with_config s work.config) [] live read held

-- an error ended the run of a work, from a state
pub record EndsWork (work : Work) (s : State) (error : LiveError) (live : Live) (left held : StreamBytes)
    : Type 0 where
  pub read : StreamBytes
  pub from : ReadsFor work.script left read
  pub ends :
      EndsFrom (record live_rules { text = work.text }) work.config.limits.bytes
      (with_config s work.config) [] error live read held

-- memory ran out before a run: nothing was read or written
pub record MissesRun (error : LiveError) (left held : StreamBytes) : Type 0 where
  pub memory : error ≡ OutOfMemory
  pub unread : left.1 ≡ left.0
  pub unwritten : held.1 ≡ held.0

-- an error ended the run of what is asked, or memory ran out before it and the session is as it was
abbrev pub FailsFor : Asked → State → LiveError → Live × Live → StreamBytes → StreamBytes → Type 0
FailsFor asked s error lives left held = (work : Work) → asked.work ≡ Some work
    → EndsWork work s error lives.1 left held ⊎ (MissesRun error left held × (lives.1 ≡ lives.0))

-- it fails with an error of this status, from each state that the session held before, and the error's text
-- was told on the second output: all of it, unless its faults rose or memory ran out
pub record FailsAs (asked : Asked) (status : ℕ) (lives : Live × Live) (left : StreamBytes)
    (outputs : StreamBytes × StreamBytes) (faults : Counts) : Type 0 where
  pub error : LiveError
  pub reports : status_of error ≡ status
  pub answer : Result (Unit {0}) SinkError
  pub told : TellsLine answer (live_error_text asked.usage error) outputs.1 faults
  pub fails : (s : State) → Holds lives.0 s → FailsFor asked s error lives left outputs.0

-- what was read for what is asked is at most one byte more than its limit
abbrev pub TakesFor : Asked → StreamBytes → Type 0
TakesFor asked left = (work : Work) → asked.work ≡ Some work
    → (read : StreamBytes) × ReadsFor work.script left read × TakesAtMost (work.config.limits.bytes + 1) read

-- what a program does whatever its session held: what was read is at most one byte more than the limit, and
-- names stay
pub record KeepsAlways (asked : Asked) (status : ℕ) (lives : Live × Live) (left : StreamBytes) : Type 0 where
  pub taken : TakesFor asked left
  pub names : KeepsNames (status ≡ 1) lives.0 lives.1

-- wrong words: status 2 only and always where the words ask nothing, unless memory ran out, and then all is
-- as it was
pub record UsageExactly (work : Option Work) (status : ℕ) (Untouched : Type 0) : Type 0 where
  pub only : status ≡ 2 → work ≡ None
  pub always : work ≡ None → (status ≡ 2) ⊎ (status ≡ 1)
  pub untouched : work ≡ None → Untouched

-- ---- its status

-- the status of the result of a run
abbrev pub status_for : Result (Unit {0}) LiveError → ℕ
status_for (Ok done) = 0
status_for (Err error) = status_of error

-- what is answered to what is asked where neither the source nor the sink failed: the status of the session
-- of its script, which is what the source has left unless it has one of its own. That is 0 where it has no
-- refusal, else that refusal's, or out of memory
abbrev pub CompletesAs : Asked → State → Option (List ℕ) → ℕ → Type 0
CompletesAs asked s left status =
    (work : Work) → asked.work ≡ Some work → (all : List ℕ) → option_or work.script left ≡ Some all
    → (status ≡ option_map_or status_of (session (with_config s work.config) all).refusal 0) ⊎ (status ≡ 1)
