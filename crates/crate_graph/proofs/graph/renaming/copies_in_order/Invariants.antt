use Rattle.std.proofs.Common.{◌≡◌, map, take}
use Rattle.crate_graph.specs.Extend.{with_sorted_dependencies}
use Rattle.crate_graph.proofs.graph.renaming.copies_in_order.Given as goal

abbrev pub invariant-loop-krate : goal.invariant-loop-krate
invariant-loop-krate l = l.copies.items ≡ map with_sorted_dependencies (take l.krate-index l.crates)
