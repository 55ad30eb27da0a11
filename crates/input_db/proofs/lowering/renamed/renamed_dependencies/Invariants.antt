use Rattle.std.proofs.Common.{◌≡◌, map, take}
use Rattle.crate_graph_values.specs.Laws.{renamed_dependency}
use Rattle.input_db.specs.Identity.{number_in}
use Rattle.input_db.proofs.lowering.renamed.renamed_dependencies.Given as goal

abbrev pub invariant-loop-dep : goal.invariant-loop-dep
invariant-loop-dep l = l.renamed.items ≡ map (renamed_dependency (number_in l.numbers)) (take l.dep-index l.deps)
