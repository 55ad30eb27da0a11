use Rattle.base_text.proofs.Called.{Called}
use Rattle.base_text.proofs.Gaves.{Reading, reader}
use Rattle.base_text.proofs.lines.BoundedLines.next.Given as goal

abbrev pub invariant-loop-self : goal.invariant-loop-self
invariant-loop-self g l =
    Reading l.fn.self (reader l.self-inside.part l.self-inside.piece l.self-inside.room l.self-inside.is_done)
    (g.S.ByteSource.left l.initial.input, g.S.ByteSource.left l.input) (g.S.ByteSource.faults l.initial.input, g.S.ByteSource.faults l.input)
    × Called g.S.ByteSource.read_gives l.fn.self.piece l.self-inside.piece l.initial.input l.input

abbrev pub decreases-loop-self : goal.decreases-loop-self
decreases-loop-self g l = l.self-inside.room
