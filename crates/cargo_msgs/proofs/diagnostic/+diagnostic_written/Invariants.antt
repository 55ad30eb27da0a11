use Rattle.std.proofs.Common.{◌≡◌, map, take}
use Rattle.serde_json.specs.View.{view}
use Rattle.cargo_msgs.specs.Diagnostic.{diagnostic_data}
use Rattle.cargo_msgs.proofs.diagnostic.+diagnostic_written.Given as goal

abbrev pub invariant-write_children-loop-child : goal.invariant-write_children-loop-child
invariant-write_children-loop-child l = map view l.values.items ≡ map diagnostic_data (take l.child-index l.children)
