use Rattle.std.proofs.Common.{◌≡◌, take}
use Rattle.cargo_msgs.proofs.copies.+diagnostic_copy.Given as goal

abbrev pub invariant-clone_children-loop-child : goal.invariant-clone_children-loop-child
invariant-clone_children-loop-child l = l.copies.items ≡ take l.child-index l.children
