use Rattle.std.proofs.Common.{ℕ, ◌<◌, get_or, map}
use Rattle.base_text_paths.specs.Arena.{number_of}
use Rattle.crate_graph.specs.Graph.{edges}
use Rattle.crate_graph.specs.Prune.{Stays}
use Rattle.crate_graph.proofs.graph.CrateGraphBuilder.is_closed.Given as goal

abbrev pub invariant-loop-id : goal.invariant-loop-id
invariant-loop-id l = (k : ℕ) → k < l.id-index → Stays (edges l.self.crates) (map number_of l.to_keep) (get_or (map number_of l.to_keep) k 0)
