use Rattle.std.proofs.Common.{Err, arith}
use Rattle.base_text_paths.proofs.CfgSets.{atom_cmp-total, atom_cmp-IsAntisymmetric}
use Rattle.base_values.proofs.SortedLists.{searched}
use Rattle.base_text_paths.proofs.PartedLists.{parted_further, parted_less, parted_at_last}
use Rattle.base_text_paths.proofs.cfg_options.part.Goals as goal

pub loop-place-preserved-in-Ok : goal.loop-place-preserved-in-Ok
loop-place-preserved-in-Ok c =
    let value = c.deref.ensures.value in
    rw (c.drop_at.ensures, c.drop_at-in-Ok.ensures)
    (parted_less atom_cmp-total atom_cmp-IsAntisymmetric _ _ _ _ _ c.in-Ok.other c.index.result.now c.loop-place.invariant (omega arith) c.index.ensures (rw value at c.in-Ok.ensures.bound) (rw value at c.in-Ok.ensures.position))

pub loop-place-preserved : goal.loop-place-preserved
loop-place-preserved c =
    let value = c.deref.ensures.value in
    let absent = searched atom_cmp-total c.index.result.now c.deref.result.now (Err c.in-Err.field-0) (rw value c.loop-place.invariant.right_sorted) c.in-Err.ensures.bound c.in-Err.ensures.position in
    parted_further atom_cmp-total atom_cmp-IsAntisymmetric _ _ _ _ _ c.index.result.now c.loop-place.invariant (omega arith) c.index.ensures (rw value at absent).0

pub returns-clause-left_kept : goal.returns-clause-left_kept
returns-clause-left_kept c = (parted_at_last atom_cmp-total atom_cmp-IsAntisymmetric _ _ _ _ _ c.loop-place.invariant (omega arith)).0

pub returns-clause-right_kept : goal.returns-clause-right_kept
returns-clause-right_kept c = (parted_at_last atom_cmp-total atom_cmp-IsAntisymmetric _ _ _ _ _ c.loop-place.invariant (omega arith)).1
