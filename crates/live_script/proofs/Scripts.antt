-- Which lines decide a session: what its first lines refuse stays refused, and bytes past the limit refuse it.
use Rattle.std.proofs.Common.{◌≡◌, ℕ, ◌+◌, ◌-◌, ◌<◌, ◌≤◌, true, false, List, [], ◌++◌, Option, Some, length, take, nat_le, refl, sym, ap, subst, ◌∙◌, append-nil, append_assoc, arith, unwrap_or, None}
use Rattle.std.proofs.lemmas.Bool.Decides.{nat_tests}
use Rattle.std.proofs.Math.Seq.{take-append-add}
use Rattle.std.specs.Io.KnownBytes.{Consumes}
use Rattle.base_text_outside.specs.Source.{SourceShows-after, SourceShows-all}
use Rattle.base_text_outside.specs.declared.limits.Limit.TheVariants.{Bytes}
use Rattle.base_text.specs.Lines.{last_line, lines_of, partial_line, whole_lines}
use Rattle.base_text.specs.Reader.{IsCut, IsFrontOf}
use Rattle.base_text.proofs.Cuts.{whole_lines-append}
use Rattle.base_text.proofs.LineEnds.{lines_of-whole}
use Rattle.live_page.specs.Reader.{GaveScriptLines, ScriptReader}
use Rattle.live_page.specs.declared.event.Event.{Event}
use Rattle.live_script.specs.declared.fault.LiveError.{LiveError}
use Rattle.live_script.specs.declared.fault.LiveError.TheVariants.{TooMany}
use Rattle.live_script.specs.Run.{Ran}
use Rattle.live_script.specs.Session.{Outcome, Rules, Turn, lines_within, refused_by, session_by, texts_by, turns_by}
use Rattle.live_script.specs.Written.{AppendsFront}
use Rattle.live_script.proofs.Outcomes.{flushes-append, turns-refused}
use Rattle.live_script.proofs.Texts.{AppendsFront-longer, texts-first}

-- the lines of a script within its limit, and of a longer one
pub within-fits : (limit : ℕ) (bytes : List ℕ) → length bytes ≤ limit → lines_within limit bytes ≡ lines_of bytes
unfolding lines_within
within-fits limit bytes h = let test : nat_le (length bytes) limit ≡ true = grind (arith, nat_tests) in rw test refl

pub within-past : (limit : ℕ) (bytes : List ℕ) → limit < length bytes → lines_within limit bytes ≡ whole_lines (take limit bytes)
unfolding lines_within
within-past limit bytes h = let test : nat_le (length bytes) limit ≡ false = grind (arith, nat_tests) in rw test refl

-- the session of a script within its limit, and of a longer one
pub session-fits : {S F : Type 0} (limit : ℕ) (turn : S → Event → Turn S F) (s : S) (bytes : List ℕ) → length bytes ≤ limit → session_by limit turn s bytes ≡ turns_by turn s (lines_within limit bytes)
unfolding session_by
session-fits limit turn s bytes h = let test : nat_le (length bytes) limit ≡ true = grind (arith, nat_tests) in rw (test, within-fits limit bytes h) refl

session-past : {S F : Type 0} (limit : ℕ) (turn : S → Event → Turn S F) (s : S) (bytes : List ℕ) → limit < length bytes
    → session_by limit turn s bytes ≡ refused_by (turns_by turn s (lines_within limit bytes)) (TooMany Bytes)
unfolding session_by
session-past limit turn s bytes h = let test : nat_le (length bytes) limit ≡ false = grind (arith, nat_tests) in rw (test, within-past limit bytes h) refl

-- lines that end within a front of a script are the first of its lines
first-of : (limit : ℕ) (front behind : List ℕ) → length front ≤ limit → IsFrontOf (whole_lines front) (lines_within limit (front ++ behind))
unfolding lines_of
first-of limit front behind small =
    elim (nat_le (length (front ++ behind)) limit) as (λ v. nat_le (length (front ++ behind)) limit ≡ v → IsFrontOf (whole_lines front) (lines_within limit (front ++ behind))) [
      | true ↦ λ e.
          let fits : length (front ++ behind) ≤ limit = grind (arith, nat_tests) in
          let more = whole_lines-append front behind in
          let last = last_line (partial_line (front ++ behind)) in
          record {
            rest = more.rest ++ last;
            is = within-fits limit (front ++ behind) fits ∙ ap (λ ls. ls ++ last) more.is ∙ append_assoc (whole_lines front) more.rest last;
          }
      | false ↦ λ e.
          let past : limit < length (front ++ behind) = grind (arith, nat_tests) in
          let more = whole_lines-append front (take (limit - length front) behind) in
          let split : limit ≡ length front + (limit - length front) = omega arith in
          let cut : take limit (front ++ behind) ≡ front ++ take (limit - length front) behind = ap (λ n. take n (front ++ behind)) split ∙ take-append-add front behind (limit - length front) in
          record {
            rest = more.rest;
            is = within-past limit (front ++ behind) past ∙ ap whole_lines cut ∙ more.is;
          }
    ] refl

-- the lines that a reader gave are the first of the script
pub Gave-first : (limit : ℕ) (left₀ left : Option (List ℕ)) (given : List (List ℕ)) (reader : ScriptReader) → GaveScriptLines limit left₀ left given reader → (all : List ℕ) → left₀ ≡ Some all
    → IsFrontOf given (lines_within limit all)
Gave-first limit left₀ left given reader gave all known =
    let small : length gave.front ≤ limit = omega (arith, gave.within) in
    elim reader.is_done as (λ d. IsCut d gave.front (reader.waiting ++ gave.beyond) left → IsFrontOf given (lines_within limit all)) [
      | true ↦ λ cut.
          let whole : Consumes left₀ left gave.front = subst (Consumes left₀ left) (ap (λ r. gave.front ++ r) cut.0 ∙ append-nil gave.front) gave.taken in
          let ends : all ≡ gave.front = SourceShows-all left₀ left all gave.front known whole cut.1 in
          record { rest = []; is = ap (lines_within limit) ends ∙ within-fits limit gave.front small ∙ gave.lines ∙ sym (append-nil given) }
      | false ↦ λ cut.
          let after = SourceShows-after left₀ left all _ known gave.taken in
          let behind = (reader.waiting ++ gave.beyond) ++ after.0 in
          let split : all ≡ gave.front ++ behind = after.1 ∙ append_assoc gave.front (reader.waiting ++ gave.beyond) after.0 in
          let lines : whole_lines gave.front ≡ given = sym (lines_of-whole gave.front cut) ∙ gave.lines in
          subst (λ ls. IsFrontOf ls (lines_within limit all)) lines (subst (λ bs. IsFrontOf (whole_lines gave.front) (lines_within limit bs)) (sym split) (first-of limit gave.front behind small))
    ] gave.cut

module _ {P : Type 0} (r : Rules P) (limit : ℕ) (s : r.State) (before : List r.Flush) (ls : List (List ℕ)) (all : List ℕ) (p : P) (old new : Option (List ℕ)) where
  -- a refusal of the first lines decides the session
  pub Stops-script : (error : LiveError) → IsFrontOf ls (lines_within limit all) → Ran r (turns_by r.turn s ls) (Some error) before p (old, new) → Ran r (session_by limit r.turn s all) (Some error) before p (old, new)
  Stops-script error first stops =
      let whole : turns_by r.turn s (lines_within limit all) ≡ turns_by r.turn s ls = ap (turns_by r.turn s) first.is ∙ turns-refused r.turn s ls first.rest error stops.refused in
      elim (nat_le (length all) limit) as (λ v. nat_le (length all) limit ≡ v → Ran r (session_by limit r.turn s all) (Some error) before p (old, new)) [
        | true ↦ λ e.
            let fits : length all ≤ limit = grind (arith, nat_tests) in
            subst (λ o. Ran r o (Some error) before p (old, new)) (sym (session-fits limit r.turn s all fits ∙ whole)) stops
        | false ↦ λ e.
            let past : limit < length all = grind (arith, nat_tests) in
            subst (λ o. Ran r o (Some error) before p (old, new)) (sym (session-past limit r.turn s all past ∙ ap (λ (o : Outcome r.State r.Flush). refused_by o (TooMany Bytes)) whole)) (record {
              refused = ap (λ (e : Option LiveError). Some (unwrap_or e (TooMany Bytes))) stops.refused;
              holds = stops.holds;
              appended = stops.appended;
            })
      ] refl

  -- bytes past the limit refuse a session whose lines within it were all taken
  pub Stops-past : limit < length all → lines_within limit all ≡ ls → Ran r (turns_by r.turn s ls) None before p (old, new) → Ran r (session_by limit r.turn s all) (Some (TooMany Bytes)) before p (old, new)
  Stops-past past lines ran =
      subst (λ o. Ran r o (Some (TooMany Bytes)) before p (old, new)) (sym (session-past limit r.turn s all past ∙ ap (λ l. refused_by (turns_by r.turn s l) (TooMany Bytes)) lines)) (record {
        refused = ap (λ (e : Option LiveError). Some (unwrap_or e (TooMany Bytes))) ran.refused;
        holds = ran.holds;
        appended = ran.appended;
      })

  -- the lines of bytes within the limit are the session's
  pub Ran-within : length all ≤ limit → lines_of all ≡ ls → Ran r (turns_by r.turn s ls) None before p (old, new) → Ran r (session_by limit r.turn s all) None before p (old, new)
  Ran-within fits lines ran =
      subst (λ o. Ran r o None before p (old, new)) (sym (session-fits limit r.turn s all fits ∙ ap (turns_by r.turn s) (within-fits limit all fits ∙ lines))) ran

  -- what the first lines wrote is a front of what the session writes
  pub Front-script : IsFrontOf ls (lines_within limit all) → AppendsFront (old, new) (texts_by r.text before (turns_by r.turn s ls).flushes)
      → AppendsFront (old, new) (texts_by r.text before (session_by limit r.turn s all).flushes)
  Front-script first front =
      let more : AppendsFront (old, new) (texts_by r.text before (turns_by r.turn s (lines_within limit all)).flushes) =
      subst (λ l. AppendsFront (old, new) (texts_by r.text before (turns_by r.turn s l).flushes)) (sym first.is)
      (AppendsFront-longer old new _ _ (texts-first r.text before _ _ (flushes-append r.turn s ls first.rest)) front) in
      elim (nat_le (length all) limit) as (λ v. nat_le (length all) limit ≡ v → AppendsFront (old, new) (texts_by r.text before (session_by limit r.turn s all).flushes)) [
        | true ↦ λ e.
            let fits : length all ≤ limit = grind (arith, nat_tests) in
            subst (λ (o : Outcome r.State r.Flush). AppendsFront (old, new) (texts_by r.text before o.flushes)) (sym (session-fits limit r.turn s all fits)) more
        | false ↦ λ e.
            let past : limit < length all = grind (arith, nat_tests) in
            subst (λ (o : Outcome r.State r.Flush). AppendsFront (old, new) (texts_by r.text before o.flushes)) (sym (session-past limit r.turn s all past)) more
      ] refl
