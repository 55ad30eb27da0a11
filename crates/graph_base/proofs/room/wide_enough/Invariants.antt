use Rattle.std.proofs.Common.{◌<◌, ◌≤◌, ◌-◌, ◌^◌}
use Rattle.graph_base.proofs.room.wide_enough.Given as goal

abbrev pub invariant-loop-wide : goal.invariant-loop-wide
invariant-loop-wide l = (0 < l.wide) × (l.fn.width ≤ l.wide) × (l.wide ≤ 2 ^ 63)

abbrev pub decreases-loop-wide : goal.decreases-loop-wide
decreases-loop-wide l = 2 ^ 63 - l.wide
