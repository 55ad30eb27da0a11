use Rattle.std.proofs.Common.{◌≤◌, ◌-◌}
use Rattle.std.specs.Prelude.{slice_index}
use Rattle.crate_graph.proofs.WalkLemmas.{IsWalked}
use Rattle.crate_graph.proofs.walking.unmarked_between.Given as goal

abbrev pub invariant-loop-node : goal.invariant-loop-node
invariant-loop-node l = record {
  walked : IsWalked l.marks l.table l.from l.to l.node l.nodes.items;
  up : slice_index l.table l.from ≤ slice_index l.table l.node;
}

abbrev pub decreases-loop-node : goal.decreases-loop-node
decreases-loop-node l = slice_index l.table l.to - slice_index l.table l.node
