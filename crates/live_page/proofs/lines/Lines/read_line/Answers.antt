use Rattle.std.proofs.Common.{◌≡◌, ◌-◌, ◌++◌, ◌∷◌, ◌==◌, ◌∙◌, [], Ok, false, true, length, length-append, length-take, refl, sym, ap, subst, arith}
use Rattle.base_text.specs.Calls.{none}
use Rattle.base_text.specs.Lines.{last_line}
use Rattle.base_text.proofs.Bytes.{empty_from, some_from}
use Rattle.live_page.specs.Pieces.{MovesToLine}
use Rattle.live_page.specs.Reader.{ScriptReader, script_lines_after}
use Rattle.live_page.proofs.Called.{Within-fresh, Within-read}
use Rattle.live_page.proofs.Gaves.{Gave-moved, Gave-end, Gave-line, Gave-read, moved_uncut, moved_length, piece_uncut, after_end}
use Rattle.live_page.proofs.lines.Lines.read_line.Goals.{then-is_empty, else-is_empty}
use Rattle.live_page.proofs.lines.Lines.read_line.Goals as goal

pub returns-then-self-clause-reads : goal.returns-then-self-clause-reads
returns-then-self-clause-reads g c = record { bytes = []; reads = none }

pub loop-self-init : goal.loop-self-init
loop-self-init g c =
    let line = c.self.inside.line.items in
    let not_ended : c.self.inside.has_ended ≡ false = subst (λ (r : ScriptReader). r.has_ended ≡ false) (sym c.self.view_is) c.requires in
    rw (← c.self.view_is) (
      record {
        keeps = λ limit first given gave. gave;
        uncut = c.self.invariant.0;
        small = c.self.invariant.1;
        ahead = omega (arith, length-append line c.self.inside.piece);
        not_done = c.if-self.false;
        not_ended = not_ended;
        later = omega arith;
      },
      Within-fresh g.S.ByteSource.read_gives _ line c.self.inside.piece _ c.self.invariant.0,
    )

pub returns-then-count-eq0-clause-gave : goal.returns-then-count-eq0-clause-gave
returns-then-count-eq0-clause-gave g c = λ limit first given gave.
    let moves : MovesToLine false c.loop-self.self-inside.piece c.move_line.new.piece c.loop-self.self-inside.line.items c.move_line.new.line.items =
    subst (λ f. MovesToLine f c.loop-self.self-inside.piece c.move_line.new.piece c.loop-self.self-inside.line.items c.move_line.new.line.items) c.if-not-branch.true c.in_ok-move_line.ensures.ok in
    let before = c.loop-self.invariant.0.keeps limit first given gave in
    let here = Gave-moved _ _ _ _ _ _ _ _ _ _ _ _ c.loop-self.invariant.0.not_done c.loop-self.invariant.0.uncut before moves in
    let uncut = moved_uncut _ _ _ _ _ moves c.loop-self.invariant.0.uncut in
    let none : c.replace-last.new.dest.items ≡ [] = ap (λ v. v.items) c.replace-last.ensures.after ∙ c.new.ensures.items in
    let last : c.replace-last.result.items ≡ c.move_line.new.line.items = ap (λ v. v.items) c.replace-last.ensures.value in
    let lines : script_lines_after given (Ok c.if-is_empty.result) ≡ given ++ last_line c.move_line.new.line.items = elim c.if-is_empty.branch [
      | then-is_empty w ↦ ap (λ r. script_lines_after given (Ok r)) w.result-is ∙ (after_end given c.move_line.new.line.items).0 (sym last ∙ empty_from c.replace-last.result.items (w.if-is_empty.ensures ∙ ap (λ n. n == 0) c.replace-last.result.ok.0))
      | else-is_empty w ↦ ap (λ r. script_lines_after given (Ok r)) w.result-is ∙ ap (λ l. given ++ l ∷ []) last ∙ (after_end given c.move_line.new.line.items).1 (λ e. some_from c.replace-last.result.items (w.if-is_empty.ensures ∙ ap (λ n. n == 0) c.replace-last.result.ok.0) (last ∙ e))
    ] in
    Gave-end _ _ _ _ _ _ [] _ _ _ _ _ c.loop-self.invariant.0.not_done uncut here _ _ c.in_ok-count.ensures.ok c.if-count-eq0.true c.if-self-2.false (moves.whole refl) _ none _ lines

pub returns-then-count-eq0-clause-reads : goal.returns-then-count-eq0-clause-reads
returns-then-count-eq0-clause-reads g c =
    let moves : MovesToLine false c.loop-self.self-inside.piece c.move_line.new.piece c.loop-self.self-inside.line.items c.move_line.new.line.items =
    subst (λ f. MovesToLine f c.loop-self.self-inside.piece c.move_line.new.piece c.loop-self.self-inside.line.items c.move_line.new.line.items) c.if-not-branch.true c.in_ok-move_line.ensures.ok in
    (Within-read _ _ _ _ _ _ c.if-self-2.false (piece_uncut moves) c.loop-self.invariant.1 _ _ _ _ c.in_ok-count.ensures.once).well

pub loop-self-preserved : goal.loop-self-preserved
loop-self-preserved g c =
    let moves : MovesToLine false c.loop-self.self-inside.piece c.move_line.new.piece c.loop-self.self-inside.line.items c.move_line.new.line.items =
    subst (λ f. MovesToLine f c.loop-self.self-inside.piece c.move_line.new.piece c.loop-self.self-inside.line.items c.move_line.new.line.items) c.if-not-branch.true c.in_ok-move_line.ensures.ok in
    let uncut = moved_uncut _ _ _ _ _ moves c.loop-self.invariant.0.uncut in
    let room : c.saturating_sub-self-inside.result ≡ c.loop-self.self-inside.room - c.in_ok-count.count = omega (arith, c.saturating_sub-self-inside.ensures) in (
      record {
        keeps = λ limit first given gave.
            let before = c.loop-self.invariant.0.keeps limit first given gave in
            let here = Gave-moved _ _ _ _ _ _ _ _ _ _ _ _ c.loop-self.invariant.0.not_done c.loop-self.invariant.0.uncut before moves in
            rw room (Gave-read _ _ _ _ _ _ [] _ _ _ _ _ c.loop-self.invariant.0.not_done uncut here _ _ c.in_ok-count.ensures.ok c.if-self-2.false (moves.whole refl));
        uncut = uncut;
        small = omega (arith, room, c.loop-self.invariant.0.small);
        ahead = omega (arith, room, c.loop-self.invariant.0.ahead, moved_length _ _ _ _ _ moves, ap length c.in_ok-count.ensures.ok.piece_is, length-take c.loop-self.self-inside.room c.in_ok-count.ensures.ok.bytes, c.in_ok-count.ensures.ok.many);
        not_done = c.loop-self.invariant.0.not_done;
        not_ended = c.loop-self.invariant.0.not_ended;
        later = omega (arith, c.loop-self.invariant.0.later, c.in_ok-count.ensures.faults);
      },
      Within-read _ _ _ _ _ _ c.if-self-2.false (piece_uncut moves) c.loop-self.invariant.1 _ _ _ _ c.in_ok-count.ensures.once,
    )

pub returns-clause-gave : goal.returns-clause-gave
returns-clause-gave g c = λ limit first given gave.
    let moves : MovesToLine true c.loop-self.self-inside.piece c.move_line.new.piece c.loop-self.self-inside.line.items c.move_line.new.line.items =
    subst (λ f. MovesToLine f c.loop-self.self-inside.piece c.move_line.new.piece c.loop-self.self-inside.line.items c.move_line.new.line.items) c.if-not-branch.false c.in_ok-move_line.ensures.ok in
    let before = c.loop-self.invariant.0.keeps limit first given gave in
    let none : c.replace-line.new.dest.items ≡ [] = ap (λ v. v.items) c.replace-line.ensures.after ∙ c.new-2.ensures.items in
    let line : c.replace-line.result.items ≡ c.move_line.new.line.items = ap (λ v. v.items) c.replace-line.ensures.value in
    rw line (Gave-line _ _ _ _ _ _ _ _ _ _ _ _ c.loop-self.invariant.0.not_done c.loop-self.invariant.0.uncut before moves _ none)
