use Rattle.pm_lower_crates.proofs.TargetLemmas.{edges_within, graph_of-edges_of}
use Rattle.pm_lower_crates.proofs.kept_laws.a_graph_is_that_of_its_edges.Goals as goal

pub returns : goal.returns
returns c = record { graph = graph_of-edges_of; within = edges_within }
