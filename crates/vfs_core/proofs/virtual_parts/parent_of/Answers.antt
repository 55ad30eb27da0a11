use Rattle.std.proofs.Common.{sym}
use Rattle.vfs_core.proofs.PartLemmas.{virtual_parent_at_cut, virtual_parent_lacking}
use Rattle.vfs_core.proofs.virtual_parts.parent_of.Goals as goal

pub returns-in_err-front : goal.returns-in_err-front
returns-in_err-front c = rw c.from_residual.ensures (sym (virtual_parent_lacking _ c.in_err-front.ensures))

pub returns : goal.returns
returns c = sym (virtual_parent_at_cut _ _ _ c.in_ok-front.ensures)
