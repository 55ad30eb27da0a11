use Rattle.std.proofs.Common.{◌-◌, ◌≤◌, length, take}
use Rattle.std.specs.Io.KnownBytes.{Appends}
use Rattle.base_text_outside.proofs.sink.write_all.Given as goal

abbrev pub invariant-loop-taken : goal.invariant-loop-taken
invariant-loop-taken g l = record {
  within : l.taken ≤ length l.piece;
  held : Appends (g.K.ByteSink.held l.initial.sink) (g.K.ByteSink.held l.sink) (take l.taken l.piece);
  later : g.K.ByteSink.faults l.initial.sink ≤ g.K.ByteSink.faults l.sink;
}

abbrev pub decreases-loop-taken : goal.decreases-loop-taken
decreases-loop-taken g l = length l.piece - l.taken
