use Rattle.std.proofs.Common.{length}
use Rattle.pm_lower_crates.proofs.PublicLemmas.{none_public}
use Rattle.pm_lower_crates.proofs.front.Front.empty.Goals as goal

pub new-requires : goal.new-requires
new-requires c = none_public (length c.new-graph.result.crates) c.none-public.result c.none-public.ensures
