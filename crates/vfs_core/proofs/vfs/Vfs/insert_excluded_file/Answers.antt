use Rattle.std.proofs.Common.{arith}
use Rattle.std.proofs.lemmas.Grind.{common_steps}
use Rattle.vfs_core.proofs.CallLemmas.{LeavesOut_from}
use Rattle.vfs_core.proofs.FileLemmas.{KeepsNumbers_with, keys_insert_entry}
use Rattle.vfs_core.proofs.vfs.Vfs.insert_excluded_file.Goals as goal

pub returns-clause-stable : goal.returns-clause-stable
returns-clause-stable c =
    KeepsNumbers_with _ _ c.args.path (grind (arith, common_steps, keys_insert_entry))

pub returns-clause-effects : goal.returns-clause-effects
returns-clause-effects c =
    LeavesOut_from _ _ c.args.path (grind (arith, common_steps, keys_insert_entry))
    (λ each_path. grind (arith, common_steps)) (grind (arith, common_steps))
