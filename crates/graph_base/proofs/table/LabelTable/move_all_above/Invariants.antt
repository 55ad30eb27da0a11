use Rattle.graph_base.specs.Ranks.{AreRanks}
use Rattle.graph_base.specs.Blocks.{StandAbove}
use Rattle.graph_base.proofs.BlockLemmas.{IsLastAbove}
use Rattle.graph_base.proofs.table.LabelTable.move_all_above.Given as goal

abbrev pub invariant-loop-place : goal.invariant-loop-place
invariant-loop-place l = record {
  stand : StandAbove l.fn.mark l.nodes l.place l.fn.self l.self;
  last : IsLastAbove l.fn.mark l.nodes l.place l.last;
  ranks : AreRanks l.self;
}
