use Rattle.vfs_core.proofs.NormalLemmas.{normal_popped}
use Rattle.vfs_core.proofs.real_path.RealPath.pop.Goals as goal

pub invariant_of-self : goal.invariant_of-self
invariant_of-self c =
    normal_popped c.self.inside.path _ c.self.invariant c.pop.ensures.path c.pop.ensures.components
