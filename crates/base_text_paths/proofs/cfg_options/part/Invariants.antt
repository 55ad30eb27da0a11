use Rattle.std.proofs.Common.{◌-◌, length}
use Rattle.base_text_paths.specs.CfgOrder.{atom_cmp}
use Rattle.base_text_paths.proofs.PartedLists.{IsParted}
use Rattle.base_text_paths.proofs.cfg_options.part.Given as goal

abbrev pub invariant-loop-place : goal.invariant-loop-place
invariant-loop-place l = IsParted atom_cmp l.initial.left.items l.initial.right.items l.left.items l.right.items l.place

abbrev pub decreases-loop-place : goal.decreases-loop-place
decreases-loop-place l = length l.left.items - l.place
