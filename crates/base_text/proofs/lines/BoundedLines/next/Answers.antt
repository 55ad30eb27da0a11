use Rattle.std.proofs.Common.{◌≡◌, ◌∙◌, [], false, true, option_map, refl, sym, subst, arith}
use Rattle.base_text.specs.Part.{line_bytes}
use Rattle.base_text.specs.Pieces.{Moves}
use Rattle.base_text.specs.Reader.{GaveLines}
use Rattle.base_text.specs.Calls.{none}
use Rattle.base_text.proofs.Called.{Called-fresh, Called-read, Called-well, moved_uncut}
use Rattle.base_text.proofs.Gaves.{Gave-end, Gave-idle, Gave-last, Gave-line, Gave-moved, Gave-read, after_error, reader}
use Rattle.base_text.proofs.lines.BoundedLines.next.Goals as goal

pub returns-then-self-clause-reads : goal.returns-then-self-clause-reads
returns-then-self-clause-reads g c = record { bytes = []; reads = none }

pub loop-self-init : goal.loop-self-init
loop-self-init g c =
    rw (← c.self.view_is) (
      record { keeps = λ first given gave. gave; few = λ h. h; not_done = c.if-self.false; later = omega arith },
      Called-fresh g.S.ByteSource.read_gives [] _ _ refl,
    )

pub returns-in_err-count-clause-gave : goal.returns-in_err-count-clause-gave
returns-in_err-count-clause-gave g c = λ first given gave.
    let moves : Moves false c.loop-self.self-inside.piece c.move_line.new.self c.loop-self.self-inside.part c.move_line.new.line =
    subst (λ f. Moves f c.loop-self.self-inside.piece c.move_line.new.self c.loop-self.self-inside.part c.move_line.new.line) c.if-not-branch.true c.in_ok-move_line.ensures.ok in
    let before = c.loop-self.invariant.0.keeps first given gave in
    let here = Gave-moved _ _ _ _ _ _ _ c.loop-self.invariant.0.not_done before _ _ moves in
    let idle = Gave-idle _ _ _ _ _ _ _ c.loop-self.invariant.0.not_done here _ c.in_err-count.ensures.kept.1 in
    let same : c.move_line.new.self ≡ c.read.new.self = moves.whole refl ∙ sym c.in_err-count.ensures.kept.0 in
    let there : GaveLines first (g.S.ByteSource.left c.read.new.input) given (reader c.move_line.new.line c.read.new.self c.loop-self.self-inside.room c.loop-self.self-inside.is_done) =
    subst (λ p. GaveLines first (g.S.ByteSource.left c.read.new.input) given (reader c.move_line.new.line p c.loop-self.self-inside.room c.loop-self.self-inside.is_done)) same idle in
    subst (λ gs. GaveLines first (g.S.ByteSource.left c.read.new.input) gs (reader c.move_line.new.line c.read.new.self c.loop-self.self-inside.room c.loop-self.self-inside.is_done))
    (sym (after_error given c.from_residual-in_err-count.result c.from_residual-in_err-count.ensures.0)) there

pub returns-then-count-eq0-clause-gave : goal.returns-then-count-eq0-clause-gave
returns-then-count-eq0-clause-gave g c = λ first given gave.
    let moves : Moves false c.loop-self.self-inside.piece c.move_line.new.self c.loop-self.self-inside.part c.move_line.new.line =
    subst (λ f. Moves f c.loop-self.self-inside.piece c.move_line.new.self c.loop-self.self-inside.part c.move_line.new.line) c.if-not-branch.true c.in_ok-move_line.ensures.ok in
    let before = c.loop-self.invariant.0.keeps first given gave in
    let here = Gave-moved _ _ _ _ _ _ _ c.loop-self.invariant.0.not_done before _ _ moves in
    let end = Gave-end _ _ _ _ _ _ _ c.loop-self.invariant.0.not_done here (moves.whole refl) _ _ _ c.in_ok-count.ensures.ok c.if-count-eq0.true (option_map line_bytes c.finish_last.result) c.finish_last.ensures.line in
    rw c.finish_last.ensures.next (Gave-last first _ given _ c.finish_last.result _ refl end)

pub returns-then-count-eq0-clause-reads : goal.returns-then-count-eq0-clause-reads
returns-then-count-eq0-clause-reads g c =
    let moves : Moves false c.loop-self.self-inside.piece c.move_line.new.self c.loop-self.self-inside.part c.move_line.new.line =
    subst (λ f. Moves f c.loop-self.self-inside.piece c.move_line.new.self c.loop-self.self-inside.part c.move_line.new.line) c.if-not-branch.true c.in_ok-move_line.ensures.ok in
    Called-well _ _ _ _ _ (Called-read _ _ _ _ _ c.loop-self.invariant.1 (moved_uncut moves) _ _ c.in_ok-count.ensures.once)

pub loop-self-preserved : goal.loop-self-preserved
loop-self-preserved g c =
    let moves : Moves false c.loop-self.self-inside.piece c.move_line.new.self c.loop-self.self-inside.part c.move_line.new.line =
    subst (λ f. Moves f c.loop-self.self-inside.piece c.move_line.new.self c.loop-self.self-inside.part c.move_line.new.line) c.if-not-branch.true c.in_ok-move_line.ensures.ok in (
      record {
        keeps = λ first given gave.
            let before = c.loop-self.invariant.0.keeps first given gave in
            let here = Gave-moved _ _ _ _ _ _ _ c.loop-self.invariant.0.not_done before _ _ moves in
            Gave-read _ _ _ _ _ _ _ c.loop-self.invariant.0.not_done here (moves.whole refl) _ _ _ c.in_ok-count.ensures.ok;
        few = λ h. record { line = moves.few; piece = omega (arith, c.in_ok-count.ensures.ok.many, c.in_ok-count.ensures.ok.few) };
        not_done = c.loop-self.invariant.0.not_done;
        later = omega (arith, c.loop-self.invariant.0.later, c.in_ok-count.ensures.faults);
      },
      Called-read _ _ _ _ _ c.loop-self.invariant.1 (moved_uncut moves) _ _ c.in_ok-count.ensures.once,
    )

pub returns-clause-gave : goal.returns-clause-gave
returns-clause-gave g c = λ first given gave.
    let moves : Moves true c.loop-self.self-inside.piece c.move_line.new.self c.loop-self.self-inside.part c.move_line.new.line =
    subst (λ f. Moves f c.loop-self.self-inside.piece c.move_line.new.self c.loop-self.self-inside.part c.move_line.new.line) c.if-not-branch.false c.in_ok-move_line.ensures.ok in
    let before = c.loop-self.invariant.0.keeps first given gave in
    rw c.finish.ensures.next (Gave-line _ _ _ _ _ _ _ c.loop-self.invariant.0.not_done before _ _ moves (line_bytes c.finish.result) c.finish.ensures.line)
