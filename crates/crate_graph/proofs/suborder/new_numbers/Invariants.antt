use Rattle.std.proofs.Common.{◌≡◌, map}
use Rattle.std.specs.List.{range_with_len}
use Rattle.graph_base.specs.Kept.{kept_below}
use Rattle.crate_graph.specs.Suborder.{new_number}
use Rattle.crate_graph.proofs.suborder.new_numbers.Given as goal

abbrev pub invariant-loop-mark : goal.invariant-loop-mark
invariant-loop-mark l = record {
  numbers : l.numbers.items ≡ map (new_number l.keep) (range_with_len 0 l.mark-index);
  next : l.next ≡ kept_below l.keep l.mark-index;
}
