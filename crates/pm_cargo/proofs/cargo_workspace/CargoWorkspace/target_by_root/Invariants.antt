use Rattle.std.proofs.Common.{◌≡◌, None, flat_map, take}
use Rattle.std.specs.List.{find}
use Rattle.base_text_paths.specs.AbsPath.{abs_text}
use Rattle.pm_cargo.specs.Queries.{has_root, member_targets}
use Rattle.pm_cargo.proofs.cargo_workspace.CargoWorkspace.target_by_root.Given as goal

abbrev pub invariant-loop-package : goal.invariant-loop-package
invariant-loop-package l = find (has_root l.self (abs_text l.root)) (flat_map member_targets (take l.package-index l.package-items)) ≡ None
