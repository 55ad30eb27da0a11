use Rattle.std.proofs.Common.{◌≡◌, ℕ, ◌<◌, false, get_or, length, take}
use Rattle.graph_base.specs.Kept.{is_named}
use Rattle.crate_graph.proofs.suborder.marks_of.Given as goal

abbrev pub invariant-loop-node : goal.invariant-loop-node
invariant-loop-node l = record {
  long : length l.marks.items ≡ l.count;
  named : (n : ℕ) → n < l.count → get_or l.marks.items n false ≡ is_named (take l.node-index l.keep) n;
}
