use Rattle.std.proofs.Common.{sym}
use Rattle.vfs_core.proofs.PartLemmas.{last_name_at_cut, last_name_lacking}
use Rattle.vfs_core.proofs.virtual_parts.last_name.Goals as goal

pub returns-in-Some : goal.returns-in-Some
returns-in-Some c = sym (last_name_at_cut _ _ _ c.in-Some.ensures)

pub returns-in-None : goal.returns-in-None
returns-in-None c = sym (last_name_lacking _ c.in-None.ensures)
