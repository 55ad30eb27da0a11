use Rattle.std.proofs.Common.{Ok, ◌≤◌}
use Rattle.live_page.specs.Reader.{bytes_ahead}
use Rattle.live_script.proofs.Running.{Running}
use Rattle.live_script.proofs.run.run_script.Given as goal

abbrev pub invariant-run : goal.invariant-run
invariant-run g l =
    Running g.P.Stepper.rules g.P.Stepper.has_ended l.limit (l.initial.stepper, l.stepper) (g.S.ByteSource.left l.initial.input, g.S.ByteSource.left l.input)
    (g.K.ByteSink.held l.initial.out, g.K.ByteSink.held l.out) (l.lines, l.number)
    × (g.S.ByteSource.faults l.initial.input ≤ g.S.ByteSource.faults l.input) × (g.K.ByteSink.faults l.initial.out ≤ g.K.ByteSink.faults l.out)
    × g.P.Stepper.keeps (Ok tt) l.initial.stepper l.stepper

abbrev pub decreases-run : goal.decreases-run
decreases-run g l = bytes_ahead l.lines
