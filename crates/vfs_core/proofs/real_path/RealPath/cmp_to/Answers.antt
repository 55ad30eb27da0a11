use Rattle.vfs_core.specs.VfsPathOrder.{clean_cmp}
use Rattle.vfs_core.proofs.real_path.RealPath.cmp_to.Goals as goal

pub returns-clause-texts : goal.returns-clause-texts
returns-clause-texts c =
    rw (← c.self.view_is, ← c.other.view_is, c.cmp.ensures)
    (clean_cmp c.self.inside.path c.other.inside.path c.self.invariant.clean c.other.invariant.clean)
