use Rattle.std.proofs.Common.{◌≡◌, map, take}
use Rattle.crate_graph.specs.Cyclic.{names, numbers, shown_of}
use Rattle.crate_graph.proofs.cyclic.CyclicDependenciesError.along.Given as goal

abbrev pub invariant-loop-id : goal.invariant-loop-id
invariant-loop-id l = record {
  numbers : numbers l.steps.items ≡ take l.id-index l.path;
  names : names l.steps.items ≡ map (shown_of l.crates) (take l.id-index l.path);
}
