use Rattle.std.proofs.Common.{◌≡◌, ◌++◌, map, take}
use Rattle.pm_lower_crates.specs.Lowering.{dep_seen}
use Rattle.pm_lower_crates.specs.WantedEdges.{to_public}
use Rattle.pm_lower_crates.proofs.public_edges.add_public.Given as goal

abbrev pub invariant-loop-dep : goal.invariant-loop-dep
invariant-loop-dep l = l.edges.items ≡ l.initial.edges.items ++ map (to_public l.source) (map dep_seen (take l.dep-index l.dep-items))
