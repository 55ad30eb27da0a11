-- The values are those of the edges so far.
use Rattle.std.proofs.Common.{◌≡◌, map, take}
use Rattle.serde_json.specs.View.{view}
use Rattle.live_page.specs.Generated.{edge_data}
use Rattle.live_page.proofs.generated.edge_values.Given as goal

abbrev pub invariant-loop-edge : goal.invariant-loop-edge
invariant-loop-edge l = map view l.values.items ≡ map edge_data (take l.edge-index l.edges)
