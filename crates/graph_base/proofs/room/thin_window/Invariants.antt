use Rattle.std.proofs.Common.{◌<◌, ◌≤◌, ◌-◌, ◌^◌}
use Rattle.graph_base.proofs.room.thin_window.Given as goal

abbrev pub invariant-loop-width : goal.invariant-loop-width
invariant-loop-width l = (0 < l.width) × (l.width ≤ 2 ^ 63)

abbrev pub decreases-loop-width : goal.decreases-loop-width
decreases-loop-width l = 2 ^ 63 - l.width
