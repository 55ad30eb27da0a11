use Rattle.std.proofs.Common.{◌<◌, ◌≤◌, length}
use Rattle.std.specs.Prelude.{slice_index}
use Rattle.graph_base.proofs.spreading.first_from.Given as goal

abbrev pub invariant-loop-first : goal.invariant-loop-first
invariant-loop-first l = (0 < l.first) × (l.first < length l.labels) × (l.low ≤ slice_index l.labels l.first)

abbrev pub decreases-loop-first : goal.decreases-loop-first
decreases-loop-first l = slice_index l.labels l.first
