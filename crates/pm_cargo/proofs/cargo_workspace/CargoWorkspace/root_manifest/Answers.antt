use Rattle.std.proofs.Common.{refl}
use Rattle.pm_cargo.proofs.QueryLemmas.{root_manifest-below}
use Rattle.pm_cargo.proofs.cargo_workspace.CargoWorkspace.root_manifest.Goals as goal

pub unreachable-requires : goal.unreachable-requires
unreachable-requires c =
    root_manifest-below _ c.in_ok-join.field-0 c.in_ok-join.ensures.same_components (c.in-Err.ensures.root.0 refl)
