use Rattle.std.proofs.Common.{◌+◌, ◌*◌}
use Rattle.cargo_msgs.proofs.span.+span.Given as goal

abbrev pub decreases-read_span : goal.decreases-read_span
decreases-read_span l = 5 * l.left

abbrev pub decreases-read_level : goal.decreases-read_level
decreases-read_level l = 5 * l.inner + 4

abbrev pub decreases-expansion_found : goal.decreases-expansion_found
decreases-expansion_found l = 5 * l.inner + 3

abbrev pub decreases-read_expansion : goal.decreases-read_expansion
decreases-read_expansion l = 5 * l.inner + 2

abbrev pub decreases-span_found : goal.decreases-span_found
decreases-span_found l = 5 * l.left + 1
