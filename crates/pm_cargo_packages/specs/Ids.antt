-- Ids of packages and targets, which are the places at which they stand in their workspace.
use Rattle.std.specs.Prelude.{ℕ}
use Rattle.base_text_paths.specs.declared.arena.Idx.{Idx}
use Rattle.pm_cargo_packages.specs.declared.package.PackageTag.{PackageTag}
use Rattle.pm_cargo_packages.specs.declared.target.TargetTag.{TargetTag}

-- the id of the package at a place
abbrev pub package_id : ℕ → Idx PackageTag
package_id place = record { raw = place; tag = record {} }

-- the id of the target at a place
abbrev pub target_id : ℕ → Idx TargetTag
target_id place = record { raw = place; tag = record {} }
