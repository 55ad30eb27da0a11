-- What a line, a read and the end do to what a reader gave.
use Rattle.std.proofs.Common.{◌≡◌, ℕ, ◌-◌, ◌≤◌, inl, Bool, true, false, true≢false, List, [], ◌∷◌, ◌++◌, Option, Some, None, option_map, Result, Ok, Err, length, map, refl, sym, ap, subst, ◌∙◌, append_assoc, append-nil, length-append, arith}
use Rattle.std.specs.Result.{IsErr}
use Rattle.std.specs.Io.KnownBytes.{Consumes}
use Rattle.std.proofs.KnownBytes.{Consumes-trans}
use Rattle.std.proofs.lemmas.List.{map-append, nil_from_length}
use Rattle.base_text.specs.Lines.{newline, has_newline, partial_line, lines_of, last_line}
use Rattle.base_text.specs.Part.{IsHeld, Part, line_bytes, item_of, last_item_of, no_part}
use Rattle.base_text.specs.Pieces.{Moves, Reads, rest_of}
use Rattle.base_text.specs.Reader.{Reader, GaveLines, HoldsFew, IsCut, TellsBoundedLine, lines_after}
use Rattle.base_text.specs.declared.lines.Line.{Line}
use Rattle.base_text.specs.declared.lines.LineError.{LineError}
use Rattle.base_text.proofs.LineEnds.{lines_of-end, lines_of-line, partial_line-line, uncut-append}

-- a reader by its fields
abbrev pub reader : Part → List ℕ → ℕ → Bool → Reader
reader part piece room done = record { part = part; piece = piece; room = room; is_done = done }

-- what a part of a call kept: nothing was given, and nothing was lost
pub record Reading (old now : Reader) (left : Option (List ℕ) × Option (List ℕ)) (faults : ℕ × ℕ) : Type 0 where
  pub keeps : (first : Option (List ℕ)) (given : List (Option (List ℕ))) → GaveLines first left.0 given old → GaveLines first left.1 given now
  pub few : HoldsFew old → HoldsFew now
  pub not_done : now.is_done ≡ false
  pub later : faults.0 ≤ faults.1

-- what is given of a last line, as a list
pub listed : Option (Option (List ℕ)) → List (Option (List ℕ))
listed None = []
listed (Some item) = item ∷ []

listed-last : (max : ℕ) (line : List ℕ) → listed (last_item_of max line) ≡ map (item_of max) (last_line line)
unfolding last_item_of listed
listed-last max [] = refl
listed-last max (b ∷ bs) = refl

after_last : (given : List (Option (List ℕ))) (result : Option Line) → lines_after given (Ok result) ≡ given ++ listed (option_map line_bytes result)
unfolding listed
after_last given None = sym (append-nil given)
after_last given (Some line) = refl

-- an error gives nothing
pub after_error : (given : List (Option (List ℕ))) (result : Result (Option Line) LineError) → IsErr result → lines_after given result ≡ given
after_error given (Ok line) h = absurd (true≢false (sym h))
after_error given (Err error) h = refl

module _ (first left : Option (List ℕ)) (given : List (Option (List ℕ))) (part : Part) (piece : List ℕ) (room : ℕ) (done : Bool) (not_done : done ≡ false)
    (gave : GaveLines first left given (reader part piece room done)) where
  front_cut : partial_line gave.front ≡ []
  front_cut = let cut : IsCut false gave.front (gave.line ++ piece) left = subst (λ d. IsCut d gave.front (gave.line ++ piece) left) not_done gave.cut in cut

  -- nothing was taken in between
  pub Gave-idle : (left' : Option (List ℕ)) → Consumes left left' [] → GaveLines first left' given (reader part piece room done)
  Gave-idle left' none =
      let bytes = gave.front ++ (gave.line ++ piece) in
      record {
        front = gave.front;
        line = gave.line;
        taken = subst (Consumes first left') (append-nil bytes) (Consumes-trans first left left' bytes [] gave.taken none);
        items = gave.items;
        held = gave.held;
        uncut = gave.uncut;
        within = gave.within;
        cut = subst (λ d. IsCut d gave.front (gave.line ++ piece) left') (sym not_done) front_cut;
      }

  module _ (piece' : List ℕ) (part' : Part) where
    -- a part of the line was moved, and its newline was not met
    pub Gave-moved : Moves false piece piece' part part' → GaveLines first left given (reader part' piece' room done)
    Gave-moved moves =
        let line' = gave.line ++ moves.part in
        let same : gave.line ++ piece ≡ line' ++ piece' = ap (λ p. gave.line ++ p) moves.piece_is ∙ sym (append_assoc gave.line moves.part piece') in
        record {
          front = gave.front;
          line = line';
          taken = subst (Consumes first left) (ap (λ w. gave.front ++ w) same) gave.taken;
          items = ap (λ m. map (item_of m) (lines_of gave.front)) moves.bound ∙ gave.items;
          held = moves.adds gave.line gave.held;
          uncut = uncut-append gave.line moves.part gave.uncut moves.uncut;
          within = omega (arith, gave.within, ap length same, length-append gave.line piece, length-append line' piece');
          cut = subst (λ w. IsCut done gave.front w left) same gave.cut;
        }

    -- a line was found and is given
    pub Gave-line : Moves true piece piece' part part' → (item : Option (List ℕ)) → ((line : List ℕ) → IsHeld line part' → item ≡ item_of part'.max_line line)
        → GaveLines first left (given ++ item ∷ []) (reader (no_part part'.max_line) piece' room done)
    Gave-line moves item gives =
        let line' = gave.line ++ moves.part in
        let front' = gave.front ++ (line' ++ newline ∷ []) in
        let whole : has_newline line' ≡ false = uncut-append gave.line moves.part gave.uncut moves.uncut in
        let same : gave.line ++ piece ≡ (line' ++ newline ∷ []) ++ piece' = ap (λ p. gave.line ++ p) moves.piece_is ∙ sym (append_assoc gave.line moves.part (newline ∷ piece')) ∙ sym (append_assoc line' (newline ∷ []) piece') in
        let all : gave.front ++ (gave.line ++ piece) ≡ front' ++ piece' = ap (λ w. gave.front ++ w) same ∙ sym (append_assoc gave.front (line' ++ newline ∷ []) piece') in
        record {
          front = front';
          line = [];
          taken = subst (Consumes first left) all gave.taken;
          items = ap (map (item_of part'.max_line)) (lines_of-line gave.front line' front_cut whole) ∙ map-append (item_of part'.max_line) (lines_of gave.front) (line' ∷ [])
              ∙ ap (λ is. is ++ item_of part'.max_line line' ∷ []) (ap (λ m. map (item_of m) (lines_of gave.front)) moves.bound ∙ gave.items)
              ∙ ap (λ i. given ++ i ∷ []) (sym (gives line' (moves.adds gave.line gave.held)));
          held = (refl, omega arith);
          uncut = refl;
          within = omega (arith, gave.within, ap length all, length-append gave.front (gave.line ++ piece), length-append gave.line piece, length-append front' piece');
          cut = subst (λ d. IsCut d front' piece' left) (sym not_done) (partial_line-line gave.front line' front_cut whole);
        }

  module _ (emptied : piece ≡ []) (left' : Option (List ℕ)) (piece' : List ℕ) (count : ℕ) (reads : Reads room count left left' piece') where
    read : Consumes first left' ((gave.front ++ gave.line) ++ piece')
    read =
        let before : gave.front ++ (gave.line ++ piece) ≡ gave.front ++ gave.line = ap (λ p. gave.front ++ (gave.line ++ p)) emptied ∙ ap (λ l. gave.front ++ l) (append-nil gave.line) in
        Consumes-trans first left left' (gave.front ++ gave.line) piece' (subst (Consumes first left) before gave.taken) reads.read

    -- a read of the next piece
    pub Gave-read : GaveLines first left' given (reader part piece' (room - count) done)
    Gave-read = record {
      front = gave.front;
      line = gave.line;
      taken = subst (Consumes first left') (append_assoc gave.front gave.line piece') read;
      items = gave.items;
      held = gave.held;
      uncut = gave.uncut;
      within = omega (arith, gave.within, ap length emptied, reads.many, reads.most);
      cut = subst (λ d. IsCut d gave.front (gave.line ++ piece') left') (sym not_done) front_cut;
    }

    -- the end was reported: what is held is the last line, where it is not empty
    pub Gave-end : count ≡ 0 → (last : Option (Option (List ℕ))) → ((line : List ℕ) → IsHeld line part → last ≡ last_item_of part.max_line line)
        → GaveLines first left' (given ++ listed last) (reader (no_part part.max_line) piece' room true)
    Gave-end none last gives =
        let no_piece : piece' ≡ [] = nil_from_length piece' (reads.many ∙ none) in
        let front' = gave.front ++ gave.line in
        record {
          front = front';
          line = [];
          taken = read;
          items = ap (map (item_of part.max_line)) (lines_of-end gave.front gave.line front_cut gave.uncut) ∙ map-append (item_of part.max_line) (lines_of gave.front) (last_line gave.line)
              ∙ ap (λ is. is ++ map (item_of part.max_line) (last_line gave.line)) gave.items ∙ ap (λ is. given ++ is) (sym (ap listed (gives gave.line gave.held) ∙ listed-last part.max_line gave.line));
          held = (refl, omega arith);
          uncut = refl;
          within = omega (arith, gave.within, ap length emptied, ap length no_piece, length-append gave.front gave.line);
          cut = (no_piece, reads.end none);
        }

-- the answer at the end
pub Gave-last : (first left : Option (List ℕ)) (given : List (Option (List ℕ))) (new : Reader) (result : Option Line) (last : Option (Option (List ℕ)))
    → option_map line_bytes result ≡ last → GaveLines first left (given ++ listed last) new → GaveLines first left (lines_after given (Ok result)) new
Gave-last first left given new result last is gave =
    subst (λ g. GaveLines first left g new) (sym (after_last given result ∙ ap (λ l. given ++ listed l) is)) gave

-- what an answer means at the end
pub Tells-last : (result : Option Line) (old new : Reader) (before now : ℕ) → new.is_done ≡ true → TellsBoundedLine (Ok result) old new before now
Tells-last None old new before now done = inl done
Tells-last (Some line) old new before now done = tt

rest_few : (found : Bool) (rest : List ℕ) → length rest ≤ length (rest_of found rest)
rest_few true rest = omega arith
rest_few false rest = omega arith

-- a piece of which a part was moved is no longer
pub moved_few : {found : Bool} {piece piece' : List ℕ} {part part' : Part} → Moves found piece piece' part part' → length piece' ≤ length piece
moved_few {found} {piece' = piece'} moves = omega (arith, ap length moves.piece_is, length-append moves.part (rest_of found piece'), rest_few found piece')
