use Rattle.std.proofs.Common.{◌≡◌, ◌++◌, take}
use Rattle.pm_cargo_reading.specs.Nodes.{with_kinds}
use Rattle.pm_cargo_reading.proofs.nodes.push_kinds.Given as goal

abbrev pub invariant-loop-kind : goal.invariant-loop-kind
invariant-loop-kind l = l.dependencies.items ≡ l.initial.dependencies.items ++ with_kinds l.place l.name (take l.kind-index l.kinds)
