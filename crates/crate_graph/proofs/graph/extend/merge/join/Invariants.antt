use Rattle.std.proofs.Common.{◌≡◌, ◌≤◌, fold, length, map, take}
use Rattle.crate_graph_values.specs.contracts.builder.CrateBuilderPartialEq.TheImpl as krates
use Rattle.crate_graph.specs.Extend.{before_merge, take_in, with_sorted_dependencies}
use Rattle.crate_graph.proofs.graph.extend.merge.join.Given as goal

abbrev pub invariant-loop-other : goal.invariant-loop-other
invariant-loop-other l = record {
  is : l.merge ≡ fold (take_in (krates.eq-value).it (length l.olds) l.others) (before_merge l.olds l.others) (take l.other-index l.order);
  new_numbers : length l.merge.new_numbers ≡ length l.others;
  olds : length l.olds ≤ length l.merge.crates;
  kept : take (length l.olds) l.merge.crates ≡ map with_sorted_dependencies l.olds;
  room : length l.merge.crates ≤ l.limit;
}
