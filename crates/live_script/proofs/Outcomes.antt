-- What one more line, and more lines, make of an outcome.
use Rattle.std.proofs.Common.{◌≡◌, ℕ, ◌+◌, List, [], ◌∷◌, ◌++◌, Option, Some, None, refl, sym, ap, subst, ◌∙◌, append_assoc, append-nil}
use Rattle.std.specs.List.{fold}
use Rattle.std.proofs.lemmas.List.Sums.{fold-append}
use Rattle.live_page.specs.declared.event.Event.{Event}
use Rattle.live_page.specs.Event.{event}
use Rattle.live_script.specs.declared.fault.LiveError.{LiveError}
use Rattle.live_script.specs.Run.{Ran}
use Rattle.base_text.specs.Reader.{IsFrontOf}
use Rattle.live_script.specs.Session.{Outcome, Rules, Turn, start, take_line, take_line_after, texts_by, then_turn, turn_of, turns_by}
use Rattle.live_script.specs.Turn.{RefusesTurn, TakesTurn}
use Rattle.live_script.specs.Written.{AppendsFront}
use Rattle.live_script.proofs.Texts.{AppendsFront-more, AppendsTexts-more}

-- no line
pub turns-nil : {S F : Type 0} (turn : S → Event → Turn S F) (s : S) → turns_by turn s [] ≡ start s
unfolding turns_by
turns-nil turn s = refl

-- one more line
turns-snoc : {S F : Type 0} (turn : S → Event → Turn S F) (s : S) (ls : List (List ℕ)) (line : List ℕ) → turns_by turn s (ls ++ line ∷ []) ≡ take_line turn (turns_by turn s ls) line
unfolding turns_by
turns-snoc turn s ls line = fold-append (take_line turn) (start s) ls (line ∷ [])

-- a line after lines that were all taken
taken-line : {S F : Type 0} (turn : S → Event → Turn S F) (o : Outcome S F) (line : List ℕ) → o.refusal ≡ None
    → take_line turn o line ≡ then_turn o (turn_of turn o.state (o.lines + 1) (event line))
taken-line turn o line accepted = rw accepted refl

-- lines after a refusal
passed-lines : {S F : Type 0} (turn : S → Event → Turn S F) (o : Outcome S F) (more : List (List ℕ)) (error : LiveError) → o.refusal ≡ Some error → fold (take_line turn) o more ≡ o
passed-lines turn o [] error refused = refl
passed-lines turn o (line ∷ more) error refused =
    let here : take_line turn o line ≡ o = rw refused refl in
    ap (λ p. fold (take_line turn) p more) here ∙ passed-lines turn o more error refused

-- lines behind a refusal change nothing
pub turns-refused : {S F : Type 0} (turn : S → Event → Turn S F) (s : S) (ls more : List (List ℕ)) (error : LiveError) → (turns_by turn s ls).refusal ≡ Some error → turns_by turn s (ls ++ more) ≡ turns_by turn s ls
unfolding turns_by
turns-refused turn s ls more error refused = fold-append (take_line turn) (start s) ls more ∙ passed-lines turn (fold (take_line turn) (start s) ls) more error refused

longer-line : {S F : Type 0} (turn : S → Event → Turn S F) (o : Outcome S F) (line : List ℕ) (r : Option LiveError) → IsFrontOf o.flushes (take_line_after turn r o line).flushes
longer-line turn o line None = record { rest = (turn_of turn o.state (o.lines + 1) (event line)).flushes; is = refl }
longer-line turn o line (Some error) = record { rest = []; is = sym (append-nil o.flushes) }

IsFrontOf-trans : {T : Type 0} (a b c : List T) → IsFrontOf a b → IsFrontOf b c → IsFrontOf a c
IsFrontOf-trans a b c first second = record { rest = first.rest ++ second.rest; is = second.is ∙ ap (λ l. l ++ second.rest) first.is ∙ append_assoc a first.rest second.rest }

longer-lines : {S F : Type 0} (turn : S → Event → Turn S F) (o : Outcome S F) (more : List (List ℕ)) → IsFrontOf o.flushes (fold (take_line turn) o more).flushes
longer-lines turn o [] = record { rest = []; is = sym (append-nil o.flushes) }
longer-lines turn o (line ∷ more) =
    IsFrontOf-trans o.flushes (take_line turn o line).flushes _ (longer-line turn o line o.refusal) (longer-lines turn (take_line turn o line) more)

-- more lines only add flushes
pub flushes-append : {S F : Type 0} (turn : S → Event → Turn S F) (s : S) (ls more : List (List ℕ)) → IsFrontOf (turns_by turn s ls).flushes (turns_by turn s (ls ++ more)).flushes
unfolding turns_by
flushes-append {S = S} {F = F} turn s ls more =
    let both = fold-append (take_line turn) (start s) ls more in
    subst (λ (o : Outcome S F). IsFrontOf (fold (take_line turn) (start s) ls).flushes o.flushes) (sym both) (longer-lines turn (fold (take_line turn) (start s) ls) more)

-- the outcome after the next line
pub turns-next : {S F : Type 0} (turn : S → Event → Turn S F) (s : S) (ls : List (List ℕ)) (line : List ℕ) → (turns_by turn s ls).refusal ≡ None
    → turns_by turn s (ls ++ line ∷ []) ≡ then_turn (turns_by turn s ls) (turn_of turn (turns_by turn s ls).state ((turns_by turn s ls).lines + 1) (event line))
turns-next turn s ls line accepted = turns-snoc turn s ls line ∙ taken-line turn (turns_by turn s ls) line accepted

module _ {P : Type 0} (r : Rules P) (s : r.State) (before : List r.Flush) (ls : List (List ℕ)) (line : List ℕ) (p p' : P) (old mid new : Option (List ℕ)) (ran : Ran r (turns_by r.turn s ls) None before p (old, mid)) where
  so_far : Outcome r.State r.Flush
  so_far = turns_by r.turn s ls

  next : Turn r.State r.Flush
  next = turn_of r.turn (turns_by r.turn s ls).state ((turns_by r.turn s ls).lines + 1) (event line)

  -- a line that is taken
  pub Ran-line : TakesTurn r (turn_of r.turn (turns_by r.turn s ls).state ((turns_by r.turn s ls).lines + 1) (event line)) (before ++ (turns_by r.turn s ls).flushes) p' (mid, new)
      → Ran r (turns_by r.turn s (ls ++ line ∷ [])) None before p' (old, new)
  unfolding so_far next
  Ran-line takes = subst (λ o. Ran r o None before p' (old, new)) (sym (turns-next r.turn s ls line ran.refused)) (record {
    refused = takes.accepted;
    holds = subst (λ b. r.holds p' b next.state) (append_assoc before so_far.flushes next.flushes) takes.holds;
    appended = AppendsTexts-more r.text before so_far.flushes next.flushes old mid new ran.appended takes.appended;
  })

  -- a line that is refused
  pub Stops-line : (error : LiveError) → RefusesTurn r (turn_of r.turn (turns_by r.turn s ls).state ((turns_by r.turn s ls).lines + 1) (event line)) error (before ++ (turns_by r.turn s ls).flushes) p' (mid, new)
      → Ran r (turns_by r.turn s (ls ++ line ∷ [])) (Some error) before p' (old, new)
  unfolding so_far next
  Stops-line error refuses = subst (λ o. Ran r o (Some error) before p' (old, new)) (sym (turns-next r.turn s ls line ran.refused)) (record {
    refused = refuses.refused;
    holds = subst (λ b. r.holds p' b next.state) (append_assoc before so_far.flushes next.flushes) refuses.holds;
    appended = AppendsTexts-more r.text before so_far.flushes next.flushes old mid new ran.appended refuses.appended;
  })

  -- a line that ends in an error
  pub Front-line : AppendsFront (mid, new) (texts_by r.text (before ++ (turns_by r.turn s ls).flushes) (turn_of r.turn (turns_by r.turn s ls).state ((turns_by r.turn s ls).lines + 1) (event line)).flushes)
      → AppendsFront (old, new) (texts_by r.text before (turns_by r.turn s (ls ++ line ∷ [])).flushes)
  unfolding so_far next
  Front-line front = subst (λ (o : Outcome r.State r.Flush). AppendsFront (old, new) (texts_by r.text before o.flushes)) (sym (turns-next r.turn s ls line ran.refused))
      (AppendsFront-more r.text before so_far.flushes next.flushes old mid new ran.appended front)
