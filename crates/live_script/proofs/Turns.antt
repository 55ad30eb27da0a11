-- The turns of a stepper, by what its event did: nothing to the sink, or one flush.
use Rattle.std.proofs.Common.{◌≡◌, ℕ, List, [], ◌∷◌, ◌++◌, Option, Some, None, sym, ap, subst, ◌∙◌, append-nil}
use Rattle.std.specs.Io.KnownBytes.{Appends}
use Rattle.std.specs.List.{concat}
use Rattle.base_text_outside.specs.Sink.{Appends-nil, AppendsPart}
use Rattle.live_script.specs.declared.fault.LiveError.{LiveError}
use Rattle.live_script.specs.declared.fault.LiveError.TheVariants.{WriteFault}
use Rattle.live_script.specs.Fault.{IsRefusal}
use Rattle.live_script.specs.Session.{Rules, Turn, texts_by}
use Rattle.live_script.specs.Turn.{EndsTurn, TakesTurn}
use Rattle.live_script.specs.Written.{AppendsFront, AppendsTexts}
use Rattle.live_script.proofs.Texts.{AppendsFront-nil}

-- a text is all that one flush writes
one_text : (text : List ℕ) → concat (text ∷ []) ≡ text
one_text text = append-nil text

module _ {P : Type 0} (r : Rules P) (before : List r.Flush) (p : P) where
  -- an event with no flush
  holds_quietly : (flushes : List r.Flush) (s : r.State) → flushes ≡ [] → r.holds p before s → r.holds p (before ++ flushes) s
  holds_quietly flushes s none h = subst (λ b. r.holds p b s) (sym (ap (λ fs. before ++ fs) none ∙ append-nil before)) h

  writes_quietly : (flushes : List r.Flush) (held : Option (List ℕ)) → flushes ≡ [] → AppendsTexts (held, held) (texts_by r.text before flushes)
  writes_quietly flushes held none = subst (λ fs. AppendsTexts (held, held) (texts_by r.text before fs)) (sym none) (Appends-nil held)

  -- that is taken
  pub takes_quietly : (t : Turn r.State r.Flush) (held : Option (List ℕ)) → t.refusal ≡ None → t.flushes ≡ [] → r.holds p before t.state → TakesTurn r t before p (held, held)
  takes_quietly t held accepted none h = record { accepted = accepted; holds = holds_quietly t.flushes t.state none h; appended = writes_quietly t.flushes held none }

  -- that is refused
  pub refuses_quietly : (t : Turn r.State r.Flush) (May : r.State → Type 0) (error : LiveError) (held : Option (List ℕ)) → t.refusal ≡ Some error → (error ≡ WriteFault → ⊥) → t.flushes ≡ []
      → May t.state → r.holds p before t.state → EndsTurn r t May error before p (held, held)
  refuses_quietly t May error held refused other none may h = record {
    written = AppendsFront-nil held (texts_by r.text before t.flushes);
    cut = λ e. absurd (other e);
    refused = λ _. record { refused = refused; holds = holds_quietly t.flushes t.state none h; appended = writes_quietly t.flushes held none };
    state = t.state;
    left = may;
    holds = h;
  }

  -- that failed before anything was written
  pub leaves_quietly : (t : Turn r.State r.Flush) (May : r.State → Type 0) (error : LiveError) (held : Option (List ℕ)) (s : r.State) → (IsRefusal error → ⊥) → (error ≡ WriteFault → ⊥) → May s → r.holds p before s
      → EndsTurn r t May error before p (held, held)
  leaves_quietly t May error held s failure other may h = record {
    written = AppendsFront-nil held (texts_by r.text before t.flushes);
    cut = λ e. absurd (other e);
    refused = λ is. absurd (failure is);
    state = s;
    left = may;
    holds = h;
  }

  -- a flush whose text was written
  pub takes_flush : (t : Turn r.State r.Flush) (f : r.Flush) (old new : Option (List ℕ)) → t.refusal ≡ None → t.flushes ≡ f ∷ [] → r.holds p (before ++ f ∷ []) t.state → Appends old new (r.text before f)
      → TakesTurn r t before p (old, new)
  takes_flush t f old new accepted one h written = record {
    accepted = accepted;
    holds = subst (λ fs. r.holds p (before ++ fs) t.state) (sym one) h;
    appended = subst (λ fs. AppendsTexts (old, new) (texts_by r.text before fs)) (sym one) (subst (Appends old new) (sym (one_text (r.text before f))) written);
  }

  -- and one whose text was not, or not whole
  pub leaves_flush : (t : Turn r.State r.Flush) (May : r.State → Type 0) (error : LiveError) (f : r.Flush) (old new : Option (List ℕ)) (s : r.State) → (IsRefusal error → ⊥) → t.flushes ≡ f ∷ [] → May s → r.holds p before s
      → AppendsFront (old, new) (r.text before f ∷ []) → (error ≡ WriteFault → AppendsPart old new (r.text before f)) → EndsTurn r t May error before p (old, new)
  leaves_flush t May error f old new s failure one may h front cut = record {
    written = subst (λ fs. AppendsFront (old, new) (texts_by r.text before fs)) (sym one) front;
    cut = λ e. subst (λ fs. AppendsPart old new (concat (texts_by r.text before fs))) (sym one) (subst (AppendsPart old new) (sym (one_text (r.text before f))) (cut e));
    refused = λ is. absurd (failure is);
    state = s;
    left = may;
    holds = h;
  }
