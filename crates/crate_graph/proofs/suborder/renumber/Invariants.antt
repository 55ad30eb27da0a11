use Rattle.std.proofs.Common.{◌≡◌, None, take}
use Rattle.std.specs.List.{filter_map}
use Rattle.std.specs.Prelude.{slice_index_or}
use Rattle.crate_graph.proofs.suborder.renumber.Given as goal

abbrev pub invariant-loop-node : goal.invariant-loop-node
invariant-loop-node l = l.kept.items ≡ filter_map (λ node. slice_index_or l.numbers node None) (take l.node-index l.nodes)
