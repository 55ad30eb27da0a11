use Rattle.pm_lower_crates.proofs.JsonEdgeLemmas.{ranks_ascend}
use Rattle.pm_lower_crates.proofs.json_laws.wanted_edges_are_ranked.Goals as goal

pub returns : goal.returns
returns c = ranks_ascend
