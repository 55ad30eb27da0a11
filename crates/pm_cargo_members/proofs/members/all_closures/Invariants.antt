use Rattle.std.proofs.Common.{◌≡◌, length}
use Rattle.pm_cargo_members.specs.SharedLists.{AreClosures}
use Rattle.graph_base.specs.Trail.{empty_trail}
use Rattle.pm_cargo_members.proofs.members.all_closures.Given as goal

abbrev pub invariant-loop-node : goal.invariant-loop-node
invariant-loop-node l = record {
  closures : AreClosures l.graph l.node l.lists.items;
  empty : l.trail ≡ empty_trail (length l.graph);
}
