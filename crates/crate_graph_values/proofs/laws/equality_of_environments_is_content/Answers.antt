use Rattle.std.specs.Cmp.Lexicographic.{pointwise_decides}
use Rattle.crate_graph_values.proofs.LawLemmas.{pair_decides}
use Rattle.crate_graph_values.proofs.laws.equality_of_environments_is_content.Goals as goal

pub returns : goal.returns
returns c = pointwise_decides pair_decides
