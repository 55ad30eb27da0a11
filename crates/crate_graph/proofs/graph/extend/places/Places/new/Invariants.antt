use Rattle.std.proofs.Common.{◌-◌, length}
use Rattle.std.specs.BTreeMap as tree
use Rattle.std.specs.Ordering.{nat_cmp}
use Rattle.crate_graph.specs.Places.{ArePlaces}
use Rattle.crate_graph.proofs.graph.extend.places.Places.new.Given as goal

abbrev pub invariant-loop-done : goal.invariant-loop-done
invariant-loop-done l = ArePlaces l.hashes.items (length l.hashes.items - l.done) (tree.get nat_cmp l.first) l.next.items
