-- What a run keeps between two lines, and what follows from it at each of its ends.
use Rattle.std.proofs.Common.{◌≡◌, ℕ, ◌+◌, ◌<◌, ◌≤◌, Bool, true, false, List, [], ◌∷◌, ◌++◌, Option, Some, None, Err, length, refl, sym, ap, subst, ◌∙◌, append_assoc, append-nil, length-append, inl, inr, arith}
use Rattle.std.specs.Io.KnownBytes.{Appends, Consumes}
use Rattle.base_text_outside.specs.Sink.{Appends-nil}
use Rattle.base_text_outside.specs.declared.limits.Limit.TheVariants.{Bytes}
use Rattle.base_text.specs.Lines.{whole_lines}
use Rattle.base_text.specs.Reader.{IsCut, IsFrontOf}
use Rattle.base_text.proofs.LineEnds.{lines_of-whole, whole_lines-uncut}
use Rattle.live_page.specs.Event.{event}
use Rattle.live_page.specs.Reader.{BreaksScript, GaveScriptLines, IsPast, IsPastLimit, ScriptReader, TellsScriptLine, TooManyExactly, bytes_ahead, fresh}
use Rattle.live_page.specs.declared.lines.LineError.{LineError}
use Rattle.live_page.specs.declared.lines.LineError.TheVariants.{ReadFault as ReadFault', TooMany as TooMany', OutOfMemory as OutOfMemory', Ended}
use Rattle.live_page.proofs.Gaves.{Gave-fresh}
use Rattle.live_script.specs.declared.fault.LiveError.{LiveError}
use Rattle.live_script.specs.declared.fault.LiveError.TheVariants.{OutOfMemory, ReadFault, WriteFault, TooMany}
use Rattle.live_script.specs.Fault.{IsOneOf, IsRefusal, fault_of, line_statuses, status_of}
use Rattle.live_script.specs.Run.{EndsRun, Finishes, LeavesRun, Ran, TakesAtMost}
use Rattle.live_script.specs.Session.{Rules, lines_within, may_leave_line, session_by, turn_of, turns_by}
use Rattle.live_script.specs.Turn.{EndsLine, EndsTurn, TakesTurn}
use Rattle.live_script.proofs.Causes.{no_read}
use Rattle.live_script.proofs.Outcomes.{Front-line, Ran-line, Stops-line, turns-next, turns-nil}
use Rattle.live_script.proofs.Scripts.{Front-script, Gave-first, Ran-within, Stops-past, Stops-script, within-past}
use Rattle.live_script.proofs.Texts.{AppendsFront-all, AppendsFront-nil, AppendsFront-none}

-- between two lines: these lines were given, and their turns were taken
pub record Running {P : Type 0} (r : Rules P) (HasEnded : P → Type 0) (limit : ℕ) (ps : P × P) (left held : Option (List ℕ) × Option (List ℕ)) (lines : ScriptReader × ℕ) : Type 0 where
  pub given : List (List ℕ)
  pub gave : GaveScriptLines limit left.0 left.1 given lines.0
  pub ran : (s : r.State) (before : List r.Flush) → r.holds ps.0 before s → Ran r (turns_by r.turn s given) None before ps.1 held
  pub numbered : (s : r.State) (before : List r.Flush) → r.holds ps.0 before s → lines.1 ≡ (turns_by r.turn s given).lines
  pub few : lines.1 + bytes_ahead lines.0 ≤ limit
  pub not_ended : lines.0.has_ended ≡ false
  pub going : HasEnded ps.1 → ⊥

-- before the first line
pub Running-start : {P : Type 0} (r : Rules P) (HasEnded : P → Type 0) (limit : ℕ) (p : P) (left held : Option (List ℕ)) → (HasEnded p → ⊥) → Running r HasEnded limit (p, p) (left, left) (held, held) (fresh limit, 0)
Running-start r HasEnded limit p left held going = record {
  given = [];
  gave = Gave-fresh limit left;
  ran = λ s before h. subst (λ o. Ran r o None before p (held, held)) (sym (turns-nil r.turn s)) (record {
    refused = refl;
    holds = subst (λ b. r.holds p b s) (sym (append-nil before)) h;
    appended = Appends-nil held;
  });
  numbered = λ s before h. sym (ap (λ o. o.lines) (turns-nil r.turn s));
  few = omega arith;
  not_ended = refl;
  going = going;
}

module _ (limit : ℕ) (left₀ left : Option (List ℕ)) (given : List (List ℕ)) (reader : ScriptReader) (gave : GaveScriptLines limit left₀ left given reader) where
  -- at most one byte past the limit was taken
  beyond_few : (past : Bool) → IsPast past reader.room gave.beyond → length gave.beyond ≤ 1
  beyond_few false none = omega (arith, ap length none)
  beyond_few true one = omega (arith, one.0)

  pub Takes-gave : TakesAtMost (limit + 1) (left₀, left)
  Takes-gave = record {
    bytes = gave.front ++ (reader.waiting ++ gave.beyond);
    read = gave.taken;
    few = omega (arith, gave.within, beyond_few reader.is_past gave.past, length-append gave.front (reader.waiting ++ gave.beyond), length-append reader.waiting gave.beyond);
  }

  -- where a read failed, the lines that were given are those that were whole in the bytes taken
  Whole-gave : (before now : ℕ) → BreaksScript reader before now → (bytes : List ℕ) × Consumes left₀ left bytes × (whole_lines bytes ≡ given)
  Whole-gave before now breaks =
      let cut : IsCut false gave.front (reader.waiting ++ gave.beyond) left = subst (λ d. IsCut d gave.front (reader.waiting ++ gave.beyond) left) breaks.not_done gave.cut in
      let none : IsPast false reader.room gave.beyond = subst (λ p. IsPast p reader.room gave.beyond) breaks.not_past gave.past in
      let waits : reader.waiting ++ gave.beyond ≡ reader.waiting = ap (λ b. reader.waiting ++ b) none ∙ append-nil reader.waiting in (
        gave.front ++ (reader.waiting ++ gave.beyond),
        gave.taken,
        ap (λ b. whole_lines (gave.front ++ b)) waits ∙ whole_lines-uncut gave.front reader.waiting breaks.uncut ∙ sym (lines_of-whole gave.front cut) ∙ gave.lines,
      )

-- a front of lines of which the last is left out
shorter-front : (given : List (List ℕ)) (line : List ℕ) (all : List (List ℕ)) → IsFrontOf (given ++ line ∷ []) all → IsFrontOf (given ++ []) all
shorter-front given line all first = record {
  rest = line ∷ first.rest;
  is = first.is ∙ append_assoc given (line ∷ []) first.rest ∙ ap (λ l. l ++ line ∷ first.rest) (sym (append-nil given));
}

-- a read fault is that of a read that failed
broken : (Z : Type 0) (fault : LineError) (error : LiveError) (old new : ScriptReader) (before now : ℕ) → fault_of fault ≡ Some error → TellsScriptLine {Z = Z} (Err fault) old new before now
    → error ≡ ReadFault → BreaksScript new before now
broken Z ReadFault' error old new before now is told e = told
broken Z TooMany' error old new before now is told e = let both : Some (TooMany Bytes) ≡ Some ReadFault = is ∙ ap Some e in cc
broken Z OutOfMemory' error old new before now is told e = let both : Some OutOfMemory ≡ Some ReadFault = is ∙ ap Some e in cc
broken Z Ended error old new before now is told e = let none : None ≡ Some ReadFault = is ∙ ap Some e in cc

-- a line that was not given is no fault of the sink
no_write_next : (fault : LineError) (error : LiveError) → fault_of fault ≡ Some error → error ≡ WriteFault → ⊥
no_write_next ReadFault' error is e = let both : Some ReadFault ≡ Some WriteFault = is ∙ ap Some e in cc
no_write_next TooMany' error is e = let both : Some (TooMany Bytes) ≡ Some WriteFault = is ∙ ap Some e in cc
no_write_next OutOfMemory' error is e = let both : Some OutOfMemory ≡ Some WriteFault = is ∙ ap Some e in cc
no_write_next Ended error is e = let none : None ≡ Some WriteFault = is ∙ ap Some e in cc

-- the one refusal of a reader is that of too many bytes
refusal_of : (Q : LiveError → Type 0) (Z : Type 0) (fault : LineError) (error : LiveError) (Spent : Type 0) → fault_of fault ≡ Some error
    → TooManyExactly {Z = Z} (Err fault) Spent → (Spent → Q (TooMany Bytes)) → IsRefusal error → Q error
refusal_of Q Z ReadFault' error Spent is many past refusal =
    let same : ReadFault ≡ error = cc in let r : IsRefusal ReadFault = subst IsRefusal (sym same) refusal in absurd (omega (arith, r))
refusal_of Q Z TooMany' error Spent is many past refusal = let same : TooMany Bytes ≡ error = cc in subst Q same (past many)
refusal_of Q Z OutOfMemory' error Spent is many past refusal =
    let same : OutOfMemory ≡ error = cc in let r : IsRefusal OutOfMemory = subst IsRefusal (sym same) refusal in absurd (omega (arith, r))
refusal_of Q Z Ended error Spent is many past refusal = let none : None ≡ Some error = is in absurd (cc)

module _ {P : Type 0} (r : Rules P) (HasEnded : P → Type 0) (limit : ℕ) (p₀ p : P) (left₀ left held₀ held : Option (List ℕ)) (reader : ScriptReader) (number : ℕ) (run : Running r HasEnded limit (p₀, p) (left₀, left) (held₀, held) (reader, number)) where
  -- ---- the end of the source, or a line that was not given
  module _ (left' : Option (List ℕ)) (reader' : ScriptReader) (gave' : GaveScriptLines limit left₀ left' run.given reader') where
    pub Finishes-end : reader'.is_done ≡ true → (s : r.State) (before : List r.Flush) → r.holds p₀ before s → Finishes r limit s before p (left₀, left') (held₀, held)
    Finishes-end done s before h =
        let cut : IsCut true gave'.front (reader'.waiting ++ gave'.beyond) left' = subst (λ d. IsCut d gave'.front (reader'.waiting ++ gave'.beyond) left') done gave'.cut in
        record {
          bytes = gave'.front;
          read = subst (Consumes left₀ left') (ap (λ b. gave'.front ++ b) cut.0 ∙ append-nil gave'.front) gave'.taken;
          at_end = cut.1;
          ran = Ran-within r limit s before run.given gave'.front p held₀ held (omega (arith, gave'.within)) gave'.lines (run.ran s before h);
        }

    -- the lines before it are the first of the script
    first_lines : (all : List ℕ) → left₀ ≡ Some all → IsFrontOf (run.given ++ []) (lines_within limit all)
    first_lines all known = subst (λ l. IsFrontOf l (lines_within limit all)) (sym (append-nil run.given)) (Gave-first limit left₀ left' run.given reader' gave' all known)

    -- and their state is held
    Leaves-next : (error : LiveError) → (error ≡ WriteFault → ⊥) → (error ≡ ReadFault → (bytes : List ℕ) × Consumes left₀ left' bytes × (whole_lines bytes ≡ run.given)) → (s : r.State) (before : List r.Flush) → r.holds p₀ before s
        → (all : List ℕ) → left₀ ≡ Some all → LeavesRun r limit s before all error p (left₀, left') (held₀, held)
    Leaves-next error other whole s before h all known =
        let ran = run.ran s before h in record {
          taken = run.given;
          next = None;
          first = first_lines all known;
          accepted = ran.refused;
          state = (turns_by r.turn s run.given).state;
          left_by = refl;
          holds = ran.holds;
          between = held;
          appended = ran.appended;
          written = AppendsFront-nil held [];
          cut = λ e. absurd (other e);
          read = λ e. (refl, whole e);
        }

    pub Ends-next : (Z : Type 0) (fault : LineError) (error : LiveError) (counted now : ℕ) → fault_of fault ≡ Some error → TellsScriptLine {Z = Z} (Err fault) reader reader' counted now
        → ((all : List ℕ) → GaveScriptLines limit (Some all) left run.given reader → TooManyExactly {Z = Z} (Err fault) (IsPastLimit limit run.given all))
        → (s : r.State) (before : List r.Flush) → r.holds p₀ before s → (all : List ℕ) → left₀ ≡ Some all → EndsRun r limit s before all error p (left₀, left') (held₀, held)
    Ends-next Z fault error counted now is told many s before h all known =
        let ran = run.ran s before h in
        let here = many all (subst (λ l. GaveScriptLines limit l left run.given reader) known run.gave) in
        let past : IsPastLimit limit run.given all → Ran r (session_by limit r.turn s all) (Some (TooMany Bytes)) before p (held₀, held) =
        λ spent. Stops-past r limit s before run.given all p held₀ held spent.past (within-past limit all spent.past ∙ spent.lines) ran in
        record {
          written = Front-script r limit s before run.given all p held₀ held (Gave-first limit left₀ left' run.given reader' gave' all known) (AppendsFront-all held₀ held _ ran.appended);
          refused = refusal_of (λ e. Ran r (session_by limit r.turn s all) (Some e) before p (held₀, held)) Z fault error (IsPastLimit limit run.given all) is here past;
          leaves = λ _. Leaves-next error (no_write_next fault error is)
              (λ e. Whole-gave limit left₀ left' run.given reader' gave' counted now (broken Z fault error reader reader' counted now is told e)) s before h all known;
        }

  -- ---- a line that was given
  module _ (left' : Option (List ℕ)) (reader' : ScriptReader) (line : List ℕ) (gave' : GaveScriptLines limit left₀ left' (run.given ++ line ∷ []) reader') where
    -- its number, as the outcome so far has it
    number_is : (s : r.State) (before : List r.Flush) → r.holds p₀ before s → number + 1 ≡ (turns_by r.turn s run.given).lines + 1
    number_is s before h = ap (λ n. n + 1) (run.numbered s before h)

    -- its turn was taken
    pub Running-line : (p' : P) (held' : Option (List ℕ))
        → ((t : r.State) (before : List r.Flush) → r.holds p before t → TakesTurn r (turn_of r.turn t (number + 1) (event line)) before p' (held, held'))
        → (HasEnded p' → ⊥) → bytes_ahead reader' < bytes_ahead reader → reader'.has_ended ≡ false → Running r HasEnded limit (p₀, p') (left₀, left') (held₀, held') (reader', number + 1)
    Running-line p' held' takes going less unended = record {
      given = run.given ++ line ∷ [];
      gave = gave';
      ran = λ s before h.
          let ran = run.ran s before h in
          Ran-line r s before run.given line p p' held₀ held held' ran
          (subst (λ n. TakesTurn r (turn_of r.turn (turns_by r.turn s run.given).state n (event line)) (before ++ (turns_by r.turn s run.given).flushes) p' (held, held')) (number_is s before h) (takes _ _ ran.holds));
      numbered = λ s before h. number_is s before h ∙ sym (ap (λ o. o.lines) (turns-next r.turn s run.given line (run.ran s before h).refused));
      few = omega (arith, run.few);
      not_ended = unended;
      going = going;
    }

    -- its turn ended in an error
    Ends-begun : (error : LiveError) (p' : P) (held' : Option (List ℕ)) → IsOneOf line_statuses (status_of error) → (s : r.State) (before : List r.Flush) → Ran r (turns_by r.turn s run.given) None before p (held₀, held)
        → (all : List ℕ) → left₀ ≡ Some all
        → EndsTurn r (turn_of r.turn (turns_by r.turn s run.given).state ((turns_by r.turn s run.given).lines + 1) (event line)) (may_leave_line r (turns_by r.turn s run.given).state (event line)) error
        (before ++ (turns_by r.turn s run.given).flushes) p' (held, held')
        → EndsRun r limit s before all error p' (left₀, left') (held₀, held')
    Ends-begun error p' held' only s before ran all known ended =
        let first = Gave-first limit left₀ left' (run.given ++ line ∷ []) reader' gave' all known in
        record {
          written = Front-script r limit s before (run.given ++ line ∷ []) all p' held₀ held' first (Front-line r s before run.given line p p' held₀ held held' ran ended.written);
          refused = λ refusal. Stops-script r limit s before (run.given ++ line ∷ []) all p' held₀ held' error first
              (Stops-line r s before run.given line p p' held₀ held held' ran error (ended.refused refusal));
          leaves = λ _. record {
            taken = run.given;
            next = Some line;
            first = first;
            accepted = ran.refused;
            state = ended.state;
            left_by = ended.left;
            holds = ended.holds;
            between = held;
            appended = ran.appended;
            written = ended.written;
            cut = ended.cut;
            read = λ e. absurd (no_read error only e);
          };
        }

    -- or it was not read
    Ends-missed : (error : LiveError) (p' : P) (held' : Option (List ℕ)) → (s : r.State) (before : List r.Flush) → Ran r (turns_by r.turn s run.given) None before p (held₀, held)
        → (all : List ℕ) → left₀ ≡ Some all → error ≡ OutOfMemory → r.holds p' (before ++ (turns_by r.turn s run.given).flushes) (turns_by r.turn s run.given).state
        → Appends held held' [] → EndsRun r limit s before all error p' (left₀, left') (held₀, held')
    Ends-missed error p' held' s before ran all known memory holds nothing =
        let first = Gave-first limit left₀ left' (run.given ++ line ∷ []) reader' gave' all known in
        record {
          written = Front-script r limit s before (run.given ++ line ∷ []) all p' held₀ held' first
              (Front-line r s before run.given line p p' held₀ held held' ran (AppendsFront-none held held' _ nothing));
          refused = λ refusal. absurd (let o : IsRefusal OutOfMemory = subst IsRefusal memory refusal in omega (arith, o));
          leaves = λ _. record {
            taken = run.given;
            next = None;
            first = shorter-front run.given line _ first;
            accepted = ran.refused;
            state = (turns_by r.turn s run.given).state;
            left_by = refl;
            holds = holds;
            between = held;
            appended = ran.appended;
            written = AppendsFront-none held held' [] nothing;
            cut = λ e. absurd (let both : OutOfMemory ≡ WriteFault = sym memory ∙ e in cc);
            read = λ e. absurd (let both : OutOfMemory ≡ ReadFault = sym memory ∙ e in cc);
          };
        }

    pub Ends-line : (error : LiveError) (p' : P) (held' : Option (List ℕ)) → IsOneOf line_statuses (status_of error)
        → ((t : r.State) (before : List r.Flush) → r.holds p before t → EndsLine r t (number + 1) line error before p' (held, held'))
        → (s : r.State) (before : List r.Flush) → r.holds p₀ before s → (all : List ℕ) → left₀ ≡ Some all → EndsRun r limit s before all error p' (left₀, left') (held₀, held')
    Ends-line error p' held' only ends s before h all known =
        let ran = run.ran s before h in
        let here = subst (λ n. EndsLine r (turns_by r.turn s run.given).state n line error (before ++ (turns_by r.turn s run.given).flushes) p' (held, held')) (number_is s before h) (ends _ _ ran.holds) in
        elim here [
          | inl ended ↦ Ends-begun error p' held' only s before ran all known ended
          | inr missed ↦ Ends-missed error p' held' s before ran all known missed.memory missed.holds missed.nothing
        ]
