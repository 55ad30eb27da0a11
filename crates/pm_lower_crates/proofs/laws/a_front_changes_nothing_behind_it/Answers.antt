use Rattle.pm_lower_crates.proofs.ColumnLemmas.{columns_apart}
use Rattle.pm_lower_crates.specs.KeptEdges.{ends}
use Rattle.pm_lower_crates.proofs.laws.a_front_changes_nothing_behind_it.Goals as goal

pub returns : goal.returns
returns c = columns_apart ends
