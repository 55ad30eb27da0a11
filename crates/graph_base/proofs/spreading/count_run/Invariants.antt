use Rattle.std.proofs.Common.{◌-◌, ◌^◌}
use Rattle.std.specs.Prelude.{slice_index}
use Rattle.graph_base.proofs.SpreadingLemmas.{IsAlong}
use Rattle.graph_base.proofs.spreading.count_run.Given as goal

abbrev pub invariant-loop-here : goal.invariant-loop-here
invariant-loop-here l = IsAlong l.labels l.next l.first l.high l.count l.here

abbrev pub decreases-loop-here : goal.decreases-loop-here
decreases-loop-here l = 2 ^ 64 - slice_index l.labels l.here
