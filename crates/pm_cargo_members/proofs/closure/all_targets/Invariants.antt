use Rattle.std.proofs.Common.{◌≡◌, flat_map, take}
use Rattle.graph_base.specs.Edges.{row}
use Rattle.graph_base.specs.Reversed.{target_rows}
use Rattle.pm_cargo_members.proofs.closure.all_targets.Given as goal

abbrev pub invariant-loop-node : goal.invariant-loop-node
invariant-loop-node l = l.targets.items ≡ flat_map (row (target_rows l.rows)) (take l.node-index l.nodes)
