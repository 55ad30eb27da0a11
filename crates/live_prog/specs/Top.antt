-- What the program did, from the state of a new session.
use Rattle.std.specs.Prelude.{◌≡◌, ◌⊎◌, ℕ, Some, Result}
use Rattle.base_text_outside.specs.declared.sink.SinkError.{SinkError}
use Rattle.live_script.specs.declared.fault.LiveError.{LiveError}
use Rattle.live_script.specs.Fault.{status_of, live_error_text}
use Rattle.live_script.specs.Written.{Counts, StreamBytes, TellsLine}
use Rattle.live.specs.declared.session.Live.{Live}
use Rattle.live.specs.Cli.{Asked, EndsWork, MissesRun, Work}
use Rattle.live.specs.Turn.{first_state}

-- the program failed with an error of this status, whose text was told on the second output: all of it,
-- unless its faults rose or memory ran out. The error ended the run of what is asked by some session, or
-- memory ran out before it
pub record FailsTop (asked : Asked) (status : ℕ) (left : StreamBytes) (outputs : StreamBytes × StreamBytes)
    (faults : Counts) : Type 0 where
  pub error : LiveError
  pub reports : status_of error ≡ status
  pub answer : Result (Unit {0}) SinkError
  pub told : TellsLine answer (live_error_text asked.usage error) outputs.1 faults
  pub fails : (work : Work) → asked.work ≡ Some work
      → ((live : Live) × EndsWork work first_state error live left outputs.0) ⊎ MissesRun error left outputs.0
