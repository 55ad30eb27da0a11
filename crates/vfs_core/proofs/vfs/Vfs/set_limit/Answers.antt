use Rattle.std.proofs.Common.{refl}
use Rattle.vfs_core.proofs.TextLemmas.{BringsTo_same}
use Rattle.vfs_core.proofs.vfs.Vfs.set_limit.Goals as goal

pub returns-clause-brings : goal.returns-clause-brings
returns-clause-brings c = λ known marks before.
    BringsTo_same c.args.self.now _ (rw (← c.self.view_is) refl) (rw (← c.self.view_is) refl) known marks before
