use Rattle.pm_lower_crates.proofs.AmongLemmas.{joined, kept_among}
use Rattle.pm_lower_crates.proofs.RenamedLemmas.{kept_renamed}
use Rattle.pm_lower_crates.proofs.kept_laws.keeping_commutes.Goals as goal

pub returns : goal.returns
returns c = record {
  renamed = λ passes name front wanted is. kept_renamed passes name is front wanted;
  pruned = kept_among;
  joined = joined;
}
