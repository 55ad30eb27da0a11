use Rattle.std.proofs.Common.{◌≡◌, map, take}
use Rattle.base_text_paths.specs.Arena.{number_of}
use Rattle.crate_graph.proofs.graph.reach.ids_of.Given as goal

abbrev pub invariant-loop-node : goal.invariant-loop-node
invariant-loop-node l = map number_of l.ids.items ≡ take l.node-index l.nodes
