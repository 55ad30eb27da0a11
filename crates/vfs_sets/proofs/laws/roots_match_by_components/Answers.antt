use Rattle.vfs_sets.proofs.WholeLemmas.{begins_by_components}
use Rattle.vfs_sets.proofs.laws.roots_match_by_components.Goals as goal

pub returns : goal.returns
returns c = begins_by_components
