use Rattle.std.proofs.Common.{◌≡◌, ◌++◌, [], take, true, false}
use Rattle.std.specs.List.{flat_map}
use Rattle.pm_lower_crates.specs.Gathering.{to_dependencies, to_libraries}
use Rattle.pm_lower_crates.specs.WantedEdges.{bad_names_of}
use Rattle.pm_lower_crates.proofs.edges.wanted_edges.Given as goal

abbrev pub invariant-loop-owner : goal.invariant-loop-owner
invariant-loop-owner l = l.edges.items ≡ flat_map (to_libraries l.public) (take l.owner-index l.owners)

abbrev pub invariant-loop-from : goal.invariant-loop-from
invariant-loop-from l = record {
  edges : l.edges.items ≡ l.initial.edges.items ++ flat_map (to_dependencies false l.owners) (take l.from-index l.owners);
  delayed : l.delayed.items ≡ flat_map (to_dependencies true l.owners) (take l.from-index l.owners);
  good : flat_map (bad_names_of l.owners) (take l.from-index l.owners) ≡ [];
}
