use Rattle.graph_base.specs.Ranks.{AreRanks}
use Rattle.graph_base.specs.Blocks.{StandBelow}
use Rattle.graph_base.proofs.table.LabelTable.move_all_below.Given as goal

abbrev pub invariant-loop-place : goal.invariant-loop-place
invariant-loop-place l = record {
  stand : StandBelow l.fn.mark l.nodes l.place l.fn.self l.self;
  ranks : AreRanks l.self;
}
