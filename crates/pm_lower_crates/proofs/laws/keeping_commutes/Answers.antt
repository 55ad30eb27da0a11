use Rattle.pm_lower_crates.proofs.ColumnLemmas.{columns_among, columns_joined, columns_renamed}
use Rattle.pm_lower_crates.specs.KeptEdges.{ends}
use Rattle.pm_lower_crates.proofs.laws.keeping_commutes.Goals as goal

pub returns : goal.returns
returns c = record {
  renamed = λ passes name rename front wanted is ends_are. columns_renamed ends passes name is rename ends_are front wanted;
  pruned = columns_among ends;
  joined = columns_joined ends;
}
