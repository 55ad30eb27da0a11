use Rattle.std.proofs.Common.{◌≡◌, map, take}
use Rattle.crate_graph.specs.Extend.{new_id_at}
use Rattle.crate_graph_values.specs.Laws.{renamed_dependency}
use Rattle.crate_graph.proofs.graph.renaming.renamed_dependencies.Given as goal

abbrev pub invariant-loop-dep : goal.invariant-loop-dep
invariant-loop-dep l = l.copies.items ≡ map (renamed_dependency (new_id_at l.new_numbers)) (take l.dep-index l.deps)
