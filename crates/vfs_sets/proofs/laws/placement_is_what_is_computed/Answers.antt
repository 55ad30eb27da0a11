use Rattle.vfs_sets.proofs.LawLemmas.{no_place_is_computed, place_is_computed}
use Rattle.vfs_sets.proofs.laws.placement_is_what_is_computed.Goals as goal

pub returns-clause-set : goal.returns-clause-set
returns-clause-set c = place_is_computed

pub returns-clause-none : goal.returns-clause-none
returns-clause-none c = no_place_is_computed
