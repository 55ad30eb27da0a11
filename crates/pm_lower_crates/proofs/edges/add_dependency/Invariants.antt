use Rattle.std.proofs.Common.{◌≡◌, ◌++◌, take, true, false}
use Rattle.std.specs.List.{flat_map}
use Rattle.pm_lower_crates.specs.WantedEdges.{to_lib}
use Rattle.pm_lower_crates.proofs.edges.add_dependency.Given as goal

abbrev pub invariant-loop-row : goal.invariant-loop-row
invariant-loop-row l = record {
  edges : l.edges.items ≡ l.initial.edges.items ++ flat_map (to_lib false l.from l.dependency l.to l.library) (take l.row-index l.row-items);
  delayed : l.delayed.items ≡ l.initial.delayed.items ++ flat_map (to_lib true l.from l.dependency l.to l.library) (take l.row-index l.row-items);
}
