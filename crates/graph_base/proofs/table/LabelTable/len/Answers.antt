use Rattle.std.proofs.Common.{subst}
use Rattle.graph_base.specs.Ranks.{AreRanks}
use Rattle.graph_base.proofs.RankLemmas.{are_ranks, moves_above, moves_below, same_ranks}
use Rattle.graph_base.proofs.table.LabelTable.len.Goals as goal

pub returns-clause-ranks : goal.returns-clause-ranks
returns-clause-ranks c = subst AreRanks c.self.view_is (are_ranks c.self.inside.labels.items c.self.inside.next.items c.self.invariant.rising)
