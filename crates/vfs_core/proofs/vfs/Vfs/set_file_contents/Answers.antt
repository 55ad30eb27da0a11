use Rattle.std.proofs.Common.{arith}
use Rattle.std.proofs.lemmas.Grind.{common_steps}
use Rattle.vfs_core.specs.Files.{bytes_of_contents}
use Rattle.vfs_core.proofs.CallLemmas.{SetsContents_from}
use Rattle.vfs_core.proofs.FileLemmas.{KeepsNumbers_with, keys_insert_entry}
use Rattle.vfs_core.proofs.vfs.Vfs.set_file_contents.Goals as goal

pub returns-in_ok-insert-in-None-clause-stable : goal.returns-in_ok-insert-in-None-clause-stable
returns-in_ok-insert-in-None-clause-stable c =
    KeepsNumbers_with _ _ c.args.path (grind (arith, common_steps, keys_insert_entry))

pub returns-in_ok-insert-in-None-clause-effects : goal.returns-in_ok-insert-in-None-clause-effects
returns-in_ok-insert-in-None-clause-effects c =
    SetsContents_from _ _ c.args.path (bytes_of_contents c.args.contents) (grind (arith, common_steps, keys_insert_entry))
    (λ each_path. grind (arith, common_steps)) (grind (arith, common_steps))

pub returns-in_ok-insert-in-Some-clause-stable : goal.returns-in_ok-insert-in-Some-clause-stable
returns-in_ok-insert-in-Some-clause-stable c =
    KeepsNumbers_with _ _ c.args.path (grind (arith, common_steps, keys_insert_entry))

pub returns-in_ok-insert-in-Some-clause-effects : goal.returns-in_ok-insert-in-Some-clause-effects
returns-in_ok-insert-in-Some-clause-effects c =
    SetsContents_from _ _ c.args.path (bytes_of_contents c.args.contents) (grind (arith, common_steps, keys_insert_entry))
    (λ each_path. grind (arith, common_steps)) (grind (arith, common_steps))
