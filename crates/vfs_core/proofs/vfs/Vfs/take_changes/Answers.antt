use Rattle.std.proofs.Common.{arith}
use Rattle.std.proofs.lemmas.Grind.{common_steps}
use Rattle.vfs_core.proofs.CallLemmas.{TakesBatch_from}
use Rattle.vfs_core.proofs.vfs.Vfs.take_changes.Goals as goal

pub returns-clause-effects : goal.returns-clause-effects
returns-clause-effects c = TakesBatch_from _ _ (grind (arith, common_steps)) (grind (arith, common_steps))
