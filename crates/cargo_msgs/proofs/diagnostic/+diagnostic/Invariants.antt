use Rattle.std.proofs.Common.{◌≡◌, ◌+◌, ◌*◌, ◌++◌, drop}
use Rattle.serde_json.specs.View.{items_view}
use Rattle.json_fields.specs.Fields.{items_from, under}
use Rattle.cargo_msgs.specs.Diagnostic.{diagnostic_within}
use Rattle.cargo_msgs.proofs.diagnostic.+diagnostic.Given as goal

abbrev pub decreases-read_diagnostic : goal.decreases-read_diagnostic
decreases-read_diagnostic l = 4 * l.left

abbrev pub decreases-read_level : goal.decreases-read_level
decreases-read_level l = 4 * l.inner + 3

abbrev pub decreases-children_found : goal.decreases-children_found
decreases-children_found l = 4 * l.left + 2

abbrev pub decreases-read_children : goal.decreases-read_children
decreases-read_children l = 4 * l.left + 1

abbrev pub invariant-read_children-loop-position : goal.invariant-read_children-loop-position
invariant-read_children-loop-position l =
    items_from (diagnostic_within l.left) 0 (items_view l.values)
    ≡ under (λ xs. l.children.items ++ xs) (items_from (diagnostic_within l.left) l.position (items_view (drop l.position l.values)))
