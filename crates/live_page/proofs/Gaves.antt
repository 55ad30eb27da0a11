-- What a line, a read and the end do to what a reader gave.
use Rattle.std.proofs.Common.{◌≡◌, ℕ, ◌+◌, ◌-◌, ◌^◌, ◌<◌, ◌≤◌, Bool, true, false, List, [], ◌∷◌, ◌++◌, Option, Some, None, Result, Ok, Err, Vec, true≢false, length, take, drop, refl, sym, ap, subst, ◌∙◌, append_assoc, append-nil, length-append, length-take, length-drop, take-append-drop, arith, nat_lt}
use Rattle.std.proofs.lemmas.Bool.Decides.{nat_tests}
use Rattle.std.specs.Io.KnownBytes.{Consumes}
use Rattle.std.proofs.KnownBytes.{Consumes-nil, Consumes-trans}
use Rattle.std.proofs.lemmas.List.{nil_from_length}
use Rattle.base_text.specs.Lines.{newline, has_newline, whole_lines, partial_line, last_line}
use Rattle.base_text.specs.Pieces.{rest_of}
use Rattle.base_text.specs.Reader.{IsCut}
use Rattle.base_text.proofs.Cuts.{partial_line-nil, whole_lines-append}
use Rattle.base_text.proofs.LineEnds.{lines_of-end, lines_of-line, lines_of-nil, lines_of-whole, partial_line-line, uncut-append, whole_lines-uncut}
use Rattle.live_page.specs.Pieces.{MovesToLine, ReadsWithin}
use Rattle.live_page.specs.Reader.{ScriptReader, GaveScriptLines, IsPast, IsPastLimit, TellsScriptLine, TooManyExactly, bytes_ahead, fresh, script_lines_after}
use Rattle.live_page.specs.declared.lines.LineError.{LineError}
use Rattle.live_page.specs.declared.lines.LineError.TheVariants.{ReadFault, TooMany, OutOfMemory, Ended}
use Rattle.base_text_outside.specs.Source.{SourceShows-after, SourceShows-all}
use Rattle.std.proofs.Math.Seq.{take-append-add, take-append_seam}

-- a reader by its fields: a line that is being read, and what was not looked at
abbrev pub reader : List ℕ → List ℕ → ℕ → Bool → Bool → Bool → ScriptReader
reader line piece room past done ended = record { waiting = line ++ piece; room = room; is_past = past; is_done = done; has_ended = ended }

-- what a part of a call kept, where so much of what waits is the line: nothing was given, and nothing was lost
pub record Reading (old now : ScriptReader) (parts : List ℕ × List ℕ) (left : Option (List ℕ) × Option (List ℕ)) (faults : ℕ × ℕ) : Type 0 where
  pub keeps : (limit : ℕ) (first : Option (List ℕ)) (given : List (List ℕ)) → GaveScriptLines limit first left.0 given old → GaveScriptLines limit first left.1 given now
  pub uncut : has_newline parts.0 ≡ false
  pub small : now.room + 1 < 2 ^ 64
  pub ahead : length parts.0 + length parts.1 + now.room ≤ bytes_ahead old
  pub not_done : now.is_done ≡ false
  pub not_ended : now.has_ended ≡ false
  pub later : faults.0 ≤ faults.1

-- a line and a piece stay the same bytes where a part is moved
pub moved : (found : Bool) (piece piece' line line' : List ℕ) → MovesToLine found piece piece' line line' → line ++ piece ≡ line' ++ rest_of found piece'
moved found piece piece' line line' moves =
    ap (λ p. line ++ p) moves.piece_is ∙ sym (append_assoc line moves.part (rest_of found piece')) ∙ ap (λ l. l ++ rest_of found piece') (sym moves.line_is)

pub moved_uncut : (found : Bool) (piece piece' line line' : List ℕ) → MovesToLine found piece piece' line line' → has_newline line ≡ false → has_newline line' ≡ false
moved_uncut found piece piece' line line' moves uncut =
    ap has_newline moves.line_is ∙ uncut-append line moves.part uncut moves.uncut

-- how many bytes wait
pub moved_length : (found : Bool) (piece piece' line line' : List ℕ) → MovesToLine found piece piece' line line' → length line + length piece ≡ length line' + length (rest_of found piece')
moved_length found piece piece' line line' moves = sym (length-append line piece) ∙ ap length (moved found piece piece' line line' moves) ∙ length-append line' (rest_of found piece')

-- a line and its newline join what was given
line_bytes : (front line piece beyond : List ℕ) → front ++ ((line ++ newline ∷ piece) ++ beyond) ≡ (front ++ (line ++ newline ∷ [])) ++ (piece ++ beyond)
line_bytes front line piece beyond = simp append_assoc

-- what was read joins what waits
read_bytes : (front line bytes : List ℕ) (room : ℕ) → (front ++ ((line ++ []) ++ [])) ++ bytes ≡ front ++ ((line ++ take room bytes) ++ drop room bytes)
read_bytes front line bytes room =
    ap (λ l. (front ++ l) ++ bytes) (append-nil (line ++ []) ∙ append-nil line) ∙ append_assoc front line bytes ∙ ap (λ b. front ++ (line ++ b)) (sym (take-append-drop room bytes))
    ∙ ap (λ l. front ++ l) (sym (append_assoc line (take room bytes) (drop room bytes)))

-- a byte past the limit
past_read : (room count : ℕ) (bytes : List ℕ) → length bytes ≡ count → count ≤ room + 1 → IsPast (nat_lt room count) (room - count) (drop room bytes)
past_read room count bytes many most =
    elim (nat_lt room count) as (λ v. nat_lt room count ≡ v → IsPast v (room - count) (drop room bytes)) [
      | true ↦ λ e. let over : room < count = grind (arith, nat_tests) in (omega (arith, length-drop room bytes), omega arith)
      | false ↦ λ e. let under : count ≤ room = grind (arith, nat_tests) in nil_from_length (drop room bytes) (omega (arith, length-drop room bytes))
    ] refl

module _ (limit : ℕ) (first left : Option (List ℕ)) (given : List (List ℕ)) (line piece line' piece' : List ℕ) (room : ℕ) (past done ended : Bool) (not_done : done ≡ false)
    (uncut : has_newline line ≡ false) (gave : GaveScriptLines limit first left given (reader line piece room past done ended)) where
  front_cut : partial_line gave.front ≡ []
  front_cut = let cut : IsCut false gave.front ((line ++ piece) ++ gave.beyond) left = subst (λ d. IsCut d gave.front ((line ++ piece) ++ gave.beyond) left) not_done gave.cut in cut

  none_past : past ≡ false → gave.beyond ≡ []
  none_past not_past = let none : IsPast false room gave.beyond = subst (λ p. IsPast p room gave.beyond) not_past gave.past in none

  -- the same bytes wait
  pub Gave-moved : MovesToLine false piece piece' line line' → GaveScriptLines limit first left given (reader line' piece' room past done ended)
  Gave-moved moves =
      let same : line ++ piece ≡ line' ++ piece' = moved false piece piece' line line' moves in
      subst (λ (w : List ℕ). GaveScriptLines limit first left given (record { waiting = w; room = room; is_past = past; is_done = done; has_ended = ended })) same gave

  -- a line was found and is given
  pub Gave-line : MovesToLine true piece piece' line line' → (none : List ℕ) → none ≡ [] → GaveScriptLines limit first left (given ++ line' ∷ []) (reader none piece' room past done ended)
  Gave-line moves none empty =
      let same : line ++ piece ≡ line' ++ newline ∷ piece' = moved true piece piece' line line' moves in
      let whole : has_newline line' ≡ false = moved_uncut true piece piece' line line' moves uncut in
      let front' = gave.front ++ (line' ++ newline ∷ []) in
      let rest : none ++ piece' ≡ piece' = ap (λ n. n ++ piece') empty in
      record {
        front = front';
        beyond = gave.beyond;
        taken = subst (Consumes first left) (ap (λ w. gave.front ++ (w ++ gave.beyond)) same ∙ line_bytes gave.front line' piece' gave.beyond ∙ ap (λ w. front' ++ (w ++ gave.beyond)) (sym rest)) gave.taken;
        lines = lines_of-line gave.front line' front_cut whole ∙ ap (λ ls. ls ++ line' ∷ []) gave.lines;
        within = omega (arith, gave.within, ap length same, ap length rest, length-append gave.front (line' ++ newline ∷ []), length-append line' (newline ∷ []), length-append line' (newline ∷ piece'));
        past = gave.past;
        cut = subst (λ d. IsCut d front' ((none ++ piece') ++ gave.beyond) left) (sym not_done) (partial_line-line gave.front line' front_cut whole);
      }

  -- a read of the next piece
  pub Gave-read : (left' : Option (List ℕ)) (count : ℕ) → ReadsWithin room count left left' piece' → past ≡ false → piece ≡ []
      → GaveScriptLines limit first left' given (reader line piece' (room - count) (nat_lt room count) done ended)
  Gave-read left' count reads not_past emptied =
      let bytes = reads.bytes in
      let many : length bytes ≡ count = reads.many in
      let most : count ≤ room + 1 = reads.most in
      let before : gave.front ++ ((line ++ piece) ++ gave.beyond) ≡ gave.front ++ ((line ++ []) ++ []) = ap (λ p. gave.front ++ ((line ++ p) ++ gave.beyond)) emptied ∙ ap (λ b. gave.front ++ ((line ++ []) ++ b)) (none_past not_past) in
      let taken : Consumes first left' ((gave.front ++ ((line ++ []) ++ [])) ++ bytes) = Consumes-trans first left left' _ bytes (subst (Consumes first left) before gave.taken) reads.read in
      record {
        front = gave.front;
        beyond = drop room bytes;
        taken = subst (Consumes first left') (read_bytes gave.front line bytes room ∙ ap (λ p. gave.front ++ ((line ++ p) ++ drop room bytes)) (sym reads.piece_is)) taken;
        lines = gave.lines;
        within = omega (arith, gave.within, length-append line piece, length-append line piece', ap length emptied, ap length reads.piece_is, length-take room bytes);
        past = past_read room count bytes many most;
        cut = subst (λ d. IsCut d gave.front ((line ++ piece') ++ drop room bytes) left') (sym not_done) front_cut;
      }

  -- the end was reported: what waits is the last line, where it is not empty
  pub Gave-end : (left' : Option (List ℕ)) (count : ℕ) → ReadsWithin room count left left' piece' → count ≡ 0 → past ≡ false → piece ≡ [] → (none : List ℕ) → none ≡ []
      → (given' : List (List ℕ)) → given' ≡ given ++ last_line line
      → GaveScriptLines limit first left' given' (reader none piece' room past true ended)
  Gave-end left' count reads nothing not_past emptied none empty given' is =
      let bytes : reads.bytes ≡ [] = nil_from_length reads.bytes (reads.many ∙ nothing) in
      let many : length reads.bytes ≡ 0 = reads.many ∙ nothing in
      let no_piece : piece' ≡ [] = nil_from_length piece' (omega (arith, ap length reads.piece_is, length-take room reads.bytes)) in
      let rest : none ++ piece' ≡ [] = ap (λ n. n ++ piece') empty ∙ no_piece in
      let all : (none ++ piece') ++ [] ≡ [] = append-nil (none ++ piece') ∙ rest in
      let before : gave.front ++ ((line ++ piece) ++ gave.beyond) ≡ gave.front ++ line =
      ap (λ p. gave.front ++ ((line ++ p) ++ gave.beyond)) emptied ∙ ap (λ b. gave.front ++ ((line ++ []) ++ b)) (none_past not_past) ∙ ap (λ l. gave.front ++ l) (append-nil (line ++ []) ∙ append-nil line) in
      let taken : Consumes first left' ((gave.front ++ line) ++ reads.bytes) = Consumes-trans first left left' _ reads.bytes (subst (Consumes first left) before gave.taken) reads.read in
      record {
        front = gave.front ++ line;
        beyond = [];
        taken = subst (Consumes first left') (ap (λ b. (gave.front ++ line) ++ b) (bytes ∙ sym all)) taken;
        lines = lines_of-end gave.front line front_cut uncut ∙ ap (λ ls. ls ++ last_line line) gave.lines ∙ sym is;
        within = omega (arith, gave.within, length-append gave.front line, length-append line piece, ap length emptied, ap length rest);
        past = subst (λ p. IsPast p room []) (sym not_past) refl;
        cut = (all, reads.end nothing);
      }

-- what is empty is no line, and what is not is a last one
pub after_end : (given : List (List ℕ)) (line : List ℕ) → (line ≡ [] → given ≡ given ++ last_line line) × ((line ≡ [] → ⊥) → given ++ line ∷ [] ≡ given ++ last_line line)
after_end given [] = (λ e. sym (append-nil given), λ some. absurd (some refl))
after_end given (b ∷ bs) = (λ e. absurd (cc), λ some. refl)

-- before the first read
pub Gave-fresh : (limit : ℕ) (left : Option (List ℕ)) → GaveScriptLines limit left left [] (fresh limit)
Gave-fresh limit left = record {
  front = [];
  beyond = [];
  taken = Consumes-nil left;
  lines = lines_of-nil;
  within = omega arith;
  past = refl;
  cut = partial_line-nil;
}

-- a piece of which no line was taken has no newline
pub piece_uncut : {piece piece' line line' : List ℕ} → MovesToLine false piece piece' line line' → has_newline piece ≡ false
piece_uncut moves = ap has_newline (moves.piece_is ∙ ap (λ p. moves.part ++ p) (moves.whole refl) ∙ append-nil moves.part) ∙ moves.uncut

-- too many bytes are reported exactly where there are
module _ (limit : ℕ) (left' : Option (List ℕ)) (given : List (List ℕ)) (all : List ℕ) (reader' : ScriptReader) where
  -- the rest of the source
  spent_past : GaveScriptLines limit (Some all) left' given reader' → reader'.is_past ≡ true → has_newline reader'.waiting ≡ false → IsPastLimit limit given all
  spent_past gave past uncut =
      let after = SourceShows-after (Some all) left' all _ refl gave.taken in
      let one : IsPast true reader'.room gave.beyond = subst (λ p. IsPast p reader'.room gave.beyond) past gave.past in
      let whole : all ≡ (gave.front ++ reader'.waiting) ++ (gave.beyond ++ after.0) = after.1 ∙ append_assoc gave.front (reader'.waiting ++ gave.beyond) after.0
      ∙ ap (λ r. gave.front ++ r) (append_assoc reader'.waiting gave.beyond after.0) ∙ sym (append_assoc gave.front reader'.waiting (gave.beyond ++ after.0)) in
      let full : limit ≡ length (gave.front ++ reader'.waiting) = omega (arith, gave.within, one.1, length-append gave.front reader'.waiting) in
      let front : take limit all ≡ gave.front ++ reader'.waiting = ap (λ n. take n all) full ∙ ap (take (length (gave.front ++ reader'.waiting))) whole ∙ take-append_seam (gave.front ++ reader'.waiting) (gave.beyond ++ after.0) in
      elim reader'.is_done as (λ d. IsCut d gave.front (reader'.waiting ++ gave.beyond) left' → IsPastLimit limit given all) [
        | true ↦ λ cut. absurd (omega (arith, one.0, ap length cut.0, length-append reader'.waiting gave.beyond))
        | false ↦ λ cut. record {
          past = omega (arith, full, one.0, ap length whole, length-append (gave.front ++ reader'.waiting) (gave.beyond ++ after.0), length-append gave.beyond after.0);
          lines = ap whole_lines front ∙ whole_lines-uncut gave.front reader'.waiting uncut ∙ sym (lines_of-whole gave.front cut) ∙ gave.lines;
        }
      ] gave.cut

  -- at the end there are not too many
  done_within : GaveScriptLines limit (Some all) left' given reader' → reader'.is_done ≡ true → length all ≤ limit
  done_within gave done =
      let cut : IsCut true gave.front (reader'.waiting ++ gave.beyond) left' = subst (λ d. IsCut d gave.front (reader'.waiting ++ gave.beyond) left') done gave.cut in
      let whole : Consumes (Some all) left' gave.front = subst (Consumes (Some all) left') (ap (λ r. gave.front ++ r) cut.0 ∙ append-nil gave.front) gave.taken in
      let ends : all ≡ gave.front = SourceShows-all (Some all) left' all gave.front refl whole cut.1 in
      omega (arith, ap length ends, gave.within)

  -- and where one more line was given it ended within the limit
  line_within : (line : List ℕ) → GaveScriptLines limit (Some all) left' (given ++ line ∷ []) reader' → IsPastLimit limit given all → ⊥
  line_within line gave spent =
      let after = SourceShows-after (Some all) left' all _ refl gave.taken in
      let rest = (reader'.waiting ++ gave.beyond) ++ after.0 in
      let whole : all ≡ gave.front ++ rest = after.1 ∙ append_assoc gave.front (reader'.waiting ++ gave.beyond) after.0 in
      let cut_at : limit ≡ length gave.front + (limit - length gave.front) = omega (arith, gave.within) in
      let front : take limit all ≡ gave.front ++ take (limit - length gave.front) rest = ap (λ n. take n all) cut_at ∙ ap (take (length gave.front + (limit - length gave.front))) whole ∙ take-append-add gave.front rest (limit - length gave.front) in
      elim reader'.is_done as (λ d. IsCut d gave.front (reader'.waiting ++ gave.beyond) left' → ⊥) [
        | true ↦ λ cut.
            let read : Consumes (Some all) left' gave.front = subst (Consumes (Some all) left') (ap (λ r. gave.front ++ r) cut.0 ∙ append-nil gave.front) gave.taken in
            let ends : all ≡ gave.front = SourceShows-all (Some all) left' all gave.front refl read cut.1 in
            omega (arith, spent.past, ap length ends, gave.within)
        | false ↦ λ cut.
            let more = whole_lines-append gave.front (take (limit - length gave.front) rest) in
            let lines : given ≡ (given ++ line ∷ []) ++ more.rest = sym spent.lines ∙ ap whole_lines front ∙ more.is ∙ ap (λ ls. ls ++ more.rest) (sym (lines_of-whole gave.front cut) ∙ gave.lines) in
            omega (arith, ap length lines, length-append (given ++ line ∷ []) more.rest, length-append given (line ∷ []))
      ] gave.cut

pub too_many : {Z : Type 0} (limit : ℕ) (left' : Option (List ℕ)) (given : List (List ℕ)) (all : List ℕ) (old new : ScriptReader) (before now : ℕ) (result : Result (Option (Vec ℕ Z)) LineError)
    → GaveScriptLines limit (Some all) left' (script_lines_after given result) new → TellsScriptLine result old new before now → TooManyExactly result (IsPastLimit limit given all)
too_many limit left' given all old new before now (Ok (Some line)) gave told = line_within limit left' given all new line.items gave
too_many limit left' given all old new before now (Ok None) gave told = λ spent. let few = done_within limit left' given all new gave told in omega (arith, spent.past)
too_many limit left' given all old new before now (Err ReadFault) gave told = tt
too_many limit left' given all old new before now (Err TooMany) gave told = spent_past limit left' given all new gave told.0 told.1
too_many limit left' given all old new before now (Err OutOfMemory) gave told = tt
too_many limit left' given all old new before now (Err Ended) gave told = tt
