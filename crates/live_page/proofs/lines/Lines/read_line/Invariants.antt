use Rattle.std.proofs.Common.{◌+◌, cond}
use Rattle.live_page.proofs.Called.{CalledWithin}
use Rattle.live_page.proofs.Gaves.{Reading, reader}
use Rattle.live_page.proofs.lines.Lines.read_line.Given as goal

abbrev pub invariant-loop-self : goal.invariant-loop-self
invariant-loop-self g l =
    Reading l.fn.self
    (reader l.self-inside.line.items l.self-inside.piece l.self-inside.room l.self-inside.is_past l.self-inside.is_done l.self-inside.has_ended)
    (l.self-inside.line.items, l.self-inside.piece)
    (g.S.ByteSource.left l.initial.input, g.S.ByteSource.left l.input) (g.S.ByteSource.faults l.initial.input, g.S.ByteSource.faults l.input)
    × CalledWithin g.S.ByteSource.read_gives l.self-inside.is_past l.fn.self.waiting l.self-inside.piece l.initial.input l.input

abbrev pub decreases-loop-self : goal.decreases-loop-self
decreases-loop-self g l = l.self-inside.room + cond l.self-inside.is_past 0 1
