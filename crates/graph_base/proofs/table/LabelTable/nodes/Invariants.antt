use Rattle.std.proofs.Common.{◌-◌, length}
use Rattle.graph_base.proofs.ListingLemmas.{IsListed}
use Rattle.graph_base.proofs.table.LabelTable.nodes.Given as goal

abbrev pub invariant-loop-next : goal.invariant-loop-next
invariant-loop-next l = IsListed l.self l.nodes.items l.next

abbrev pub decreases-loop-next : goal.decreases-loop-next
decreases-loop-next l = length l.self - length l.nodes.items
