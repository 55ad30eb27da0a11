-- How the turn of an event is that of its line.
use Rattle.std.proofs.Common.{◌≡◌, ℕ, List, [], Option, Some, None, Result, Ok, Err, inl, inr, refl, sym, subst, append-nil}
use Rattle.std.specs.Prelude.{IfErr}
use Rattle.base_text_outside.specs.Sink.{Appends-nil}
use Rattle.live_page.specs.Event.{event}
use Rattle.live_page.specs.declared.event.Event.{Event}
use Rattle.live_script.specs.declared.fault.LiveError.{LiveError}
use Rattle.live_script.specs.declared.fault.LiveError.TheVariants.{OutOfMemory, Script}
use Rattle.live_script.specs.Session.{Rules, may_leave_line, turn_of}
use Rattle.live_script.specs.Turn.{EndsLine, EndsTurn}
use Rattle.live_script.proofs.Texts.{AppendsFront-nil}

-- an error of an event's turn ends its line
pub line_ends : {P : Type 0} (r : Rules P) (result : Result (Unit {0}) LiveError) (line : List ℕ) (number : ℕ) (e : Event) (p p' : P) (old new : Option (List ℕ)) → event line ≡ Some e
    → IfErr result (λ error. (s : r.State) (before : List r.Flush) → r.holds p before s → EndsTurn r (r.turn s e) (r.may_leave s e) error before p' (old, new))
    → IfErr result (λ error. (s : r.State) (before : List r.Flush) → r.holds p before s → EndsLine r s number line error before p' (old, new))
line_ends r (Ok done) line number e p p' old new is ends = tt
line_ends r (Err error) line number e p p' old new is ends = λ s before h.
    inl (subst (λ l. EndsTurn r (turn_of r.turn s number l) (may_leave_line r s l) error before p' (old, new)) (sym is) (ends s before h))

-- a line that is no event
pub line_refused : {P : Type 0} (r : Rules P) (line : List ℕ) (number : ℕ) (p : P) (held : Option (List ℕ)) (s : r.State) (before : List r.Flush) → event line ≡ None → r.holds p before s
    → EndsLine r s number line (Script number) before p (held, held)
line_refused r line number p held s before none h =
    inl (subst (λ l. EndsTurn r (turn_of r.turn s number l) (may_leave_line r s l) (Script number) before p (held, held)) (sym none) (record {
      written = AppendsFront-nil held [];
      cut = λ e. absurd (cc);
      refused = λ _. record { refused = refl; holds = subst (λ b. r.holds p b s) (sym (append-nil before)) h; appended = Appends-nil held };
      state = s;
      left = refl;
      holds = h;
    }))

-- one that was not read
pub line_missed : {P : Type 0} (r : Rules P) (line : List ℕ) (number : ℕ) (p : P) (held : Option (List ℕ)) (s : r.State) (before : List r.Flush) → r.holds p before s
    → EndsLine r s number line OutOfMemory before p (held, held)
line_missed r line number p held s before h = inr (record { memory = refl; holds = h; nothing = Appends-nil held })
