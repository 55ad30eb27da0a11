use Rattle.std.proofs.Common.{◌≡◌, length}
use Rattle.graph_base.specs.Ranks.{AreRanks}
use Rattle.graph_base.proofs.table.LabelTable.with_nodes.Given as goal

abbrev pub invariant-loop : goal.invariant-loop
invariant-loop l = record {
  count : length l.table ≡ l.counter;
  ranks : AreRanks l.table;
}
