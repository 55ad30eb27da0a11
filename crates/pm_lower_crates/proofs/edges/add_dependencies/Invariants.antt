use Rattle.std.proofs.Common.{◌≡◌, ◌++◌, [], take, true, false}
use Rattle.std.specs.List.{flat_map}
use Rattle.pm_lower_crates.specs.Gathering.{to_dependency}
use Rattle.pm_lower_crates.specs.WantedEdges.{bad_name_of}
use Rattle.pm_lower_crates.proofs.edges.add_dependencies.Given as goal

abbrev pub invariant-loop-dependency : goal.invariant-loop-dependency
invariant-loop-dependency l = record {
  edges : l.edges.items ≡ l.initial.edges.items ++ flat_map (to_dependency false l.owners l.from) (take l.dependency-index l.dependency-items);
  delayed : l.delayed.items ≡ l.initial.delayed.items ++ flat_map (to_dependency true l.owners l.from) (take l.dependency-index l.dependency-items);
  good : flat_map (bad_name_of l.owners l.from) (take l.dependency-index l.dependency-items) ≡ [];
}
