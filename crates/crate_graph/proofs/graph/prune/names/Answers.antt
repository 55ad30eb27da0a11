use Rattle.std.proofs.Common.{◌∙◌}
use Rattle.crate_graph.proofs.PruneLemmas.{any_named}
use Rattle.crate_graph.proofs.NumberMapLemmas.{ids_equal}
use Rattle.crate_graph.proofs.graph.prune.names.Goals as goal

pub returns : goal.returns
returns c = c.contains.ensures.value ∙ any_named _ ids_equal c.args.to_keep.now c.args.id
