-- A Cargo workspace as plain data: packages in the order of their ids and targets in the order of their
-- packages, each known by its place.
use Rattle.std.specs.Prelude.{ℕ, Bool, List, Option}
use Rattle.pm_cargo_packages.specs.declared.package.PackageData.{PackageData}
use Rattle.pm_cargo_packages.specs.declared.target.TargetData.{TargetData}
use Rattle.pm_cargo_reading.specs.Presence.{HoldsItsIds}

-- a workspace: its packages and targets, its directories, and what it was read with
pub record Workspace : Type 0 where
  pub packages : List PackageData
  pub targets : List TargetData
  pub workspace_root : List ℕ
  pub target_directory : List ℕ
  pub build_directory : Option (List ℕ)
  pub manifest_path : List ℕ
  pub env : List (List ℕ × List ℕ)
  pub is_sysroot : Bool

-- every id that the workspace holds is that of one of its packages or targets
abbrev pub HasOwnIds : Workspace → Type 0
HasOwnIds w = HoldsItsIds (record { packages = w.packages; targets = w.targets })
