-- The names are those of the edges so far.
use Rattle.std.proofs.Common.{◌≡◌, map, take}
use Rattle.live_page.proofs.generated.edge_names.Given as goal

abbrev pub invariant-loop-edge : goal.invariant-loop-edge
invariant-loop-edge l = l.names.items ≡ map (λ e. e.name) (take l.edge-index l.edges)
