use Rattle.std.proofs.Common.{◌≡◌, map, take}
use Rattle.std.specs.List.{filter, list_any}
use Rattle.pm_cargo.specs.Queries.{is_on}
use Rattle.pm_cargo.proofs.cargo_workspace.CargoWorkspace.dependent_manifests.Given as goal

abbrev pub invariant-loop-package : goal.invariant-loop-package
invariant-loop-package l = l.found.items ≡ map (λ p. p.manifest) (filter (λ p. list_any (is_on l.self l.manifest) p.dependencies) (take l.package-index l.package-items))
