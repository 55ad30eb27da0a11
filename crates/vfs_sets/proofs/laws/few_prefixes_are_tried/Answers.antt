use Rattle.vfs_sets.proofs.LawLemmas.{within_bytes, within_slashes}
use Rattle.vfs_sets.proofs.laws.few_prefixes_are_tried.Goals as goal

pub returns-clause-by_bytes : goal.returns-clause-by_bytes
returns-clause-by_bytes c = within_bytes

pub returns-clause-by_slashes : goal.returns-clause-by_slashes
returns-clause-by_slashes c = within_slashes
