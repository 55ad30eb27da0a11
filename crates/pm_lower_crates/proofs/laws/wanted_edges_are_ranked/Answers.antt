use Rattle.pm_lower_crates.specs.Lowering.{cargo_rows}
use Rattle.pm_lower_crates.proofs.RankLemmas.{ranks_ascend}
use Rattle.pm_lower_crates.proofs.laws.wanted_edges_are_ranked.Goals as goal

pub returns : goal.returns
unfolding cargo_rows
returns c = λ files facts public n w. ranks_ascend 1 public files w n
