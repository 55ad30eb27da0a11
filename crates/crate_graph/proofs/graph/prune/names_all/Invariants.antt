use Rattle.std.proofs.Common.{◌≡◌, map, take, true}
use Rattle.std.specs.List.{list_all}
use Rattle.base_text_paths.specs.Arena.{number_of}
use Rattle.graph_base.specs.Kept.{is_named}
use Rattle.crate_graph.specs.Graph.{target_of}
use Rattle.crate_graph.proofs.graph.prune.names_all.Given as goal

abbrev pub invariant-loop-dep : goal.invariant-loop-dep
invariant-loop-dep l = list_all (λ dep. is_named (map number_of l.to_keep) (target_of dep)) (take l.dep-index l.krate.basic.dependencies) ≡ true
