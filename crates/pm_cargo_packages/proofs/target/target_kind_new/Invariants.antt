use Rattle.std.proofs.Common.{◌≡◌, drop}
use Rattle.pm_cargo_packages.specs.TargetKinds.{target_kind}
use Rattle.pm_cargo_packages.proofs.target.target_kind_new.Given as goal

abbrev pub invariant-loop-kind : goal.invariant-loop-kind
invariant-loop-kind l = target_kind l.kinds ≡ target_kind (drop l.kind-index l.kinds)
