-- The session of a text that another follows: its lines are those of both, and the outcome of more lines stands on that of the first.
use Rattle.std.proofs.Common.{◌≡◌, ℕ, ◌+◌, ◌≤◌, true, false, cond, List, [], ◌∷◌, ◌++◌, ◌==◌, Option, Some, None, length, refl, sym, ap, subst, ◌∙◌, append_assoc, append-nil, length-append, add-zero, arith}
use Rattle.std.specs.List.{fold, onto_first}
use Rattle.std.specs.Option.{option_map}
use Rattle.std.proofs.lemmas.List.Sums.{fold-append}
use Rattle.base_text.proofs.Cuts.{parts_of}
use Rattle.base_text.specs.Lines.{final, front, last_line, lines_of, newline, partial_line, pieces, whole_lines}
use Rattle.live_page.specs.Event.{event}
use Rattle.live_page.specs.declared.event.Event.{Event}
use Rattle.live_script.specs.declared.fault.LiveError.{LiveError}
use Rattle.live_script.specs.declared.fault.LiveError.TheVariants.{OutOfMemory, Usage, ReadFault, WriteFault, Script, BadManifest, NoSuchFile, Io, CargoMetadata, NoJson, Json, NotAbsolute, UnknownPackage, BadCrateName, NoParent, NoCargoProject, TooMany}
use Rattle.live_script.specs.Laws.{IsJoined, NamesNoLine, ScriptsJoin, counted_on}
use Rattle.live_script.specs.Session.{Outcome, Turn, session_by, start, take_line, take_line_after, turn_of, turns_by}
use Rattle.live_script.proofs.Scripts.{session-fits, within-fits}

-- the pieces of a text, the first of which goes on a piece before it
abbrev onto_piece : List ℕ → List (List ℕ) → List (List ℕ)
onto_piece piece [] = piece ∷ []
onto_piece piece (first ∷ others) = (piece ++ first) ∷ others

-- one more byte on the first piece
more-split : (byte : ℕ) (first : List ℕ) (others : List (List ℕ)) (second : List ℕ)
    → onto_first byte (front (first ∷ others) ++ onto_piece (final (first ∷ others)) (pieces second))
    ≡ front (onto_first byte (first ∷ others)) ++ onto_piece (final (onto_first byte (first ∷ others))) (pieces second)
more-split byte first [] second = let r = parts_of (λ b. b == newline) second in rw r.is refl
more-split byte first (other ∷ others) second = refl

pieces-append : (first second : List ℕ) → pieces (first ++ second) ≡ front (pieces first) ++ onto_piece (final (pieces first)) (pieces second)
pieces-append [] second = let r = parts_of (λ b. b == newline) second in rw r.is refl
pieces-append (byte ∷ first) second =
    let r = parts_of (λ b. b == newline) first in
    rw (pieces-append first second)
    (elim (byte == newline) as (λ v. cond v ([] ∷ (front (pieces first) ++ onto_piece (final (pieces first)) (pieces second))) (onto_first byte (front (pieces first) ++ onto_piece (final (pieces first)) (pieces second)))
    ≡ front (cond v ([] ∷ pieces first) (onto_first byte (pieces first))) ++ onto_piece (final (cond v ([] ∷ pieces first) (onto_first byte (pieces first)))) (pieces second)) [
      | true ↦ rw r.is refl
      | false ↦ rw r.is (more-split byte r.first r.others second)
    ])

front-behind : (ps : List (List ℕ)) (first : List ℕ) (others : List (List ℕ)) → front (ps ++ first ∷ others) ≡ ps ++ front (first ∷ others)
front-behind [] first others = refl
front-behind (p ∷ []) first others = refl
front-behind (p ∷ q ∷ ps) first others = ap (λ l. p ∷ l) (front-behind (q ∷ ps) first others)

final-behind : (ps : List (List ℕ)) (first : List ℕ) (others : List (List ℕ)) → final (ps ++ first ∷ others) ≡ final (first ∷ others)
final-behind [] first others = refl
final-behind (p ∷ []) first others = refl
final-behind (p ∷ q ∷ ps) first others = final-behind (q ∷ ps) first others

-- a text that ends in a newline and one that follows it have the lines of both
module _ (first second : List ℕ) (whole : partial_line first ≡ []) where
  pieces-both : pieces (first ++ second) ≡ front (pieces first) ++ pieces second
  unfolding partial_line
  pieces-both =
      let r = parts_of (λ b. b == newline) second in
      pieces-append first second ∙ ap (λ p. front (pieces first) ++ onto_piece p (pieces second)) whole
      ∙ ap (λ ps. front (pieces first) ++ onto_piece [] ps) r.is ∙ ap (λ ps. front (pieces first) ++ ps) (sym r.is)

  lines_of-append : lines_of (first ++ second) ≡ lines_of first ++ lines_of second
  unfolding lines_of whole_lines partial_line
  lines_of-append =
      let r = parts_of (λ b. b == newline) second in
      let fronts : front (pieces (first ++ second)) ≡ front (pieces first) ++ front (pieces second) =
      ap front (pieces-both ∙ ap (λ ps. front (pieces first) ++ ps) r.is) ∙ front-behind (front (pieces first)) r.first r.others ∙ ap (λ ps. front (pieces first) ++ front ps) (sym r.is) in
      let finals : final (pieces (first ++ second)) ≡ final (pieces second) =
      ap final (pieces-both ∙ ap (λ ps. front (pieces first) ++ ps) r.is) ∙ final-behind (front (pieces first)) r.first r.others ∙ ap final (sym r.is) in
      let own : front (pieces first) ++ last_line (final (pieces first)) ≡ front (pieces first) =
      ap (λ p. front (pieces first) ++ last_line p) whole ∙ append-nil (front (pieces first)) in
      ap (λ ls. ls ++ last_line (final (pieces (first ++ second)))) fronts ∙ ap (λ p. (front (pieces first) ++ front (pieces second)) ++ last_line p) finals
      ∙ append_assoc (front (pieces first)) (front (pieces second)) (last_line (final (pieces second)))
      ∙ ap (λ ls. ls ++ (front (pieces second) ++ last_line (final (pieces second)))) (sym own)

-- an outcome that stands on another: the lines of both, the flushes of both, and the state and the refusal of the second
abbrev behind : {S F : Type 0} → Outcome S F → Outcome S F → Outcome S F
behind o q = record { state = q.state; flushes = o.flushes ++ q.flushes; lines = o.lines + q.lines; refusal = option_map (counted_on o.lines) q.refusal }

-- a refusal that names no line is counted on as itself
counted-error : (lines : ℕ) (error : LiveError) → ((line : ℕ) → error ≡ Script line → ⊥) → counted_on lines error ≡ error
counted-error lines OutOfMemory other = refl
counted-error lines Usage other = refl
counted-error lines ReadFault other = refl
counted-error lines WriteFault other = refl
counted-error lines (Script line) other = absurd (other line refl)
counted-error lines (BadManifest path) other = refl
counted-error lines (NoSuchFile path) other = refl
counted-error lines (Io line) other = refl
counted-error lines (CargoMetadata stderr) other = refl
counted-error lines NoJson other = refl
counted-error lines (Json field) other = refl
counted-error lines (NotAbsolute text) other = refl
counted-error lines (UnknownPackage id) other = refl
counted-error lines (BadCrateName name) other = refl
counted-error lines (NoParent text) other = refl
counted-error lines NoCargoProject other = refl
counted-error lines (TooMany limit) other = refl

counted-refusal : (lines : ℕ) (refusal : Option LiveError) → ((line : ℕ) → refusal ≡ Some (Script line) → ⊥) → option_map (counted_on lines) refusal ≡ refusal
counted-refusal lines None other = refl
counted-refusal lines (Some error) other = ap Some (counted-error lines error (λ line e. other line (ap Some e)))

module _ {S F : Type 0} (turn : S → Event → Turn S F) (unnamed : NamesNoLine turn) where
  -- a line's turn by another number
  turn_of-counted : (s : S) (e : Option Event) (lines number : ℕ) → (turn_of turn s (lines + number) e).refusal ≡ option_map (counted_on lines) (turn_of turn s number e).refusal
  turn_of-counted s None lines number = refl
  turn_of-counted s (Some e) lines number = sym (counted-refusal lines (turn s e).refusal (unnamed s e))

  turn_of-state : (s : S) (e : Option Event) (number other : ℕ) → (turn_of turn s number e).state ≡ (turn_of turn s other e).state
  turn_of-state s None number other = refl
  turn_of-state s (Some e) number other = refl

  turn_of-flushes : (s : S) (e : Option Event) (number other : ℕ) → (turn_of turn s number e).flushes ≡ (turn_of turn s other e).flushes
  turn_of-flushes s None number other = refl
  turn_of-flushes s (Some e) number other = refl

  behind-split : (o q : Outcome S F) (line : List ℕ) (r : Option LiveError) → q.refusal ≡ r
      → take_line_after turn (option_map (counted_on o.lines) r) (behind o q) line ≡ behind o (take_line_after turn r q line)
  behind-split o q line (Some error) is = refl
  behind-split o q line None is =
      let number : (o.lines + q.lines) + 1 ≡ o.lines + (q.lines + 1) = omega arith in
      λ i. record {
        state = turn_of-state q.state (event line) ((o.lines + q.lines) + 1) (q.lines + 1) i;
        flushes = (ap (λ fs. (o.flushes ++ q.flushes) ++ fs) (turn_of-flushes q.state (event line) ((o.lines + q.lines) + 1) (q.lines + 1))
            ∙ append_assoc o.flushes q.flushes (turn_of turn q.state (q.lines + 1) (event line)).flushes) i;
        lines = number i;
        refusal = (ap (λ n. (turn_of turn q.state n (event line)).refusal) number ∙ turn_of-counted q.state (event line) o.lines (q.lines + 1)) i;
      }

  take_line-behind : (o q : Outcome S F) (line : List ℕ) → take_line turn (behind o q) line ≡ behind o (take_line turn q line)
  take_line-behind o q line = behind-split o q line q.refusal refl

  lines-behind : (o q : Outcome S F) (ls : List (List ℕ)) → fold (take_line turn) (behind o q) ls ≡ behind o (fold (take_line turn) q ls)
  lines-behind o q [] = refl
  lines-behind o q (line ∷ ls) = ap (λ p. fold (take_line turn) p ls) (take_line-behind o q line) ∙ lines-behind o (take_line turn q line) ls

  start-behind : (o : Outcome S F) → o.refusal ≡ None → o ≡ behind o (start o.state)
  start-behind o accepted = λ i. record {
    state = o.state;
    flushes = sym (append-nil o.flushes) i;
    lines = sym (add-zero o.lines) i;
    refusal = accepted i;
  }

  turns-behind : (s : S) (ls more : List (List ℕ)) → (turns_by turn s ls).refusal ≡ None → turns_by turn s (ls ++ more) ≡ behind (turns_by turn s ls) (turns_by turn (turns_by turn s ls).state more)
  unfolding turns_by
  turns-behind s ls more accepted =
      let o = fold (take_line turn) (start s) ls in
      fold-append (take_line turn) (start s) ls more ∙ ap (λ p. fold (take_line turn) p more) (start-behind o accepted) ∙ lines-behind o (start o.state) more

  -- a session within its limit is that of its lines
  session-lines : (limit : ℕ) (s : S) (bytes : List ℕ) → length bytes ≤ limit → session_by limit turn s bytes ≡ turns_by turn s (lines_of bytes)
  session-lines limit s bytes fits = session-fits limit turn s bytes fits ∙ ap (turns_by turn s) (within-fits limit bytes fits)

pub sessions_join : {S F : Type 0} (turn : S → Event → Turn S F) → ScriptsJoin turn
sessions_join {S = S} {F = F} turn unnamed limit s first second h =
    let long : length (first ++ second) ≡ length first + length second = length-append first second in
    let own : session_by limit turn s first ≡ turns_by turn s (lines_of first) = session-lines turn unnamed limit s first (omega (arith, h.within, long)) in
    let o = turns_by turn s (lines_of first) in
    let accepted : o.refusal ≡ None = ap (λ (p : Outcome S F). p.refusal) (sym own) ∙ h.accepted in
    let next : session_by limit turn o.state second ≡ turns_by turn o.state (lines_of second) = session-lines turn unnamed limit o.state second (omega (arith, h.within, long)) in
    let both : session_by limit turn s (first ++ second) ≡ behind o (session_by limit turn o.state second) =
    session-lines turn unnamed limit s (first ++ second) h.within ∙ ap (turns_by turn s) (lines_of-append first second h.whole)
    ∙ turns-behind turn unnamed s (lines_of first) (lines_of second) accepted ∙ ap (behind o) (sym next) in
    let joined : IsJoined o (session_by limit turn o.state second) (session_by limit turn s (first ++ second)) = record {
      flushes = ap (λ (p : Outcome S F). p.flushes) both;
      state = ap (λ (p : Outcome S F). p.state) both;
      refusal = ap (λ (p : Outcome S F). p.refusal) both;
    } in
    subst (λ (p : Outcome S F). IsJoined p (session_by limit turn p.state second) (session_by limit turn s (first ++ second))) (sym own) joined
