use Rattle.std.proofs.Common.{◌≡◌, ◌++◌, take}
use Rattle.std.specs.List.{flat_map}
use Rattle.pm_lower_crates.specs.JsonWantedEdges.{to_row}
use Rattle.pm_lower_crates.proofs.json_edges.add_dependencies.Given as goal

abbrev pub invariant-loop-dep : goal.invariant-loop-dep
invariant-loop-dep l = l.edges.items ≡ l.initial.edges.items ++ flat_map (to_row l.rows l.from) (take l.dep-index l.from.of.deps)
