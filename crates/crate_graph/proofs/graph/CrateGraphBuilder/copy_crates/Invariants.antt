use Rattle.std.proofs.Common.{◌≡◌, ◌++◌, drop, map}
use Rattle.base_text_paths.specs.Arena.{number_of}
use Rattle.crate_graph.specs.Prune.{kept_crates}
use Rattle.crate_graph.proofs.graph.CrateGraphBuilder.copy_crates.Given as goal

abbrev pub invariant-loop-place : goal.invariant-loop-place
invariant-loop-place l = l.kept.items ++ kept_crates (map number_of l.to_keep) l.place (drop l.place l.self.crates) ≡ kept_crates (map number_of l.to_keep) 0 l.self.crates
