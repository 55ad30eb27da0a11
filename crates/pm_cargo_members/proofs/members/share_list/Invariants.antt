use Rattle.std.proofs.Common.{take}
use Rattle.pm_cargo_members.specs.SharedLists.{SharesList}
use Rattle.pm_cargo_members.proofs.members.share_list.Given as goal

abbrev pub invariant-loop-node : goal.invariant-loop-node
invariant-loop-node l = SharesList (take l.node-index l.nodes) l.closure l.initial.lists.items l.lists.items
