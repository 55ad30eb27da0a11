-- What a call on a new session does, and what stands where there was no memory for one.
use Rattle.std.proofs.Common.{◌≡◌, ℕ, ◌<◌, List, [], ◌∷◌, ◌++◌, Option, Err, inl, inr, ◌⊎◌, length, length-append, refl, sym, arith}
use Rattle.base_text_outside.specs.Sink.{Appends-nil}
use Rattle.base_text_outside.specs.declared.sink.SinkError.TheVariants.{OutOfMemory as MemoryOfSink}
use Rattle.live_script.specs.declared.fault.LiveError.{LiveError}
use Rattle.live_script.specs.declared.fault.LiveError.TheVariants.{OutOfMemory}
use Rattle.live_script.specs.Fault.{live_error_text}
use Rattle.live.specs.declared.session.Live.{Live}
use Rattle.live.specs.Cli.{Asked, EndsWork, FailsAs, MissesRun, Work}
use Rattle.live_prog.specs.Top.{FailsTop}
use Rattle.live.specs.Turn.{Holds, first_state}

-- what ended the run of a session, or came before it
ended_by : (asked : Asked) (work : Work) (error : LiveError) (lives : Live × Live) (left held : Option (List ℕ) × Option (List ℕ))
    → EndsWork work first_state error lives.1 left held ⊎ (MissesRun error left held × (lives.1 ≡ lives.0))
    → ((live : Live) × EndsWork work first_state error live left held) ⊎ MissesRun error left held
ended_by asked work error lives left held (inl ends) = inl (lives.1, ends)
ended_by asked work error lives left held (inr misses) = inr misses.0

-- a call on a session that holds the first state
pub fails_new : (asked : Asked) (status : ℕ) (live live' : Live) (left left' old new told told' : Option (List ℕ)) (faults faults' : ℕ) → Holds live first_state
    → FailsAs asked status (live, live') (left, left') ((old, new), (told, told')) (faults, faults')
    → FailsTop asked status (left, left') ((old, new), (told, told')) (faults, faults')
fails_new asked status live live' left left' old new told told' faults faults' h fails = record {
  error = fails.error;
  reports = fails.reports;
  answer = fails.answer;
  told = fails.told;
  fails = λ work given. ended_by asked work fails.error (live, live') (left, left') (old, new) (fails.fails first_state h work given);
}

-- a line has its newline at least
some_line : (text : List ℕ) → 0 < length (text ++ 10 ∷ [])
some_line text = omega (arith, length-append text (10 ∷ []))

-- no memory for a session: nothing was touched
pub memory_top : (asked : Asked) (status : ℕ) (left held told : Option (List ℕ)) (faults : ℕ) → status ≡ 1
    → FailsTop asked status (left, left) ((held, held), (told, told)) (faults, faults)
memory_top asked status left held told faults is = record {
  error = OutOfMemory;
  reports = sym is;
  answer = Err MemoryOfSink;
  told = record {
    whole = tt;
    cut = record { count = 0; short = some_line (live_error_text asked.usage OutOfMemory); front = Appends-nil told };
    cause = record { later = omega arith; failed = λ e. absurd (cc) };
  };
  fails = λ work given. inr (record { memory = refl; unread = refl; unwritten = refl });
}
