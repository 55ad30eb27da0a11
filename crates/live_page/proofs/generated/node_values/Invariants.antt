-- The values are those of the nodes so far.
use Rattle.std.proofs.Common.{◌≡◌, map}
use Rattle.std.specs.List.{range_with_len}
use Rattle.serde_json.specs.View.{view}
use Rattle.live_page.specs.Generated.{node_data}
use Rattle.live_page.proofs.generated.node_values.Given as goal

abbrev pub invariant-loop-number : goal.invariant-loop-number
invariant-loop-number l = map view l.values.items ≡ map (node_data l.count) (range_with_len 0 l.number)
