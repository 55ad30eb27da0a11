-- What private functions give of one package more while a document is read; no public clause names it.
use Rattle.std.specs.Prelude.{◌≡◌, ◌<◌, ◌^◌, ◌+◌, List, length, Ok}
use Rattle.base_text_outside.specs.declared.limits.Limits.{Limits}
use Rattle.cargo_meta_values.specs.declared.names.PackageId.{PackageId}
use Rattle.cargo_meta.specs.declared.package.Package.{Package}
use Rattle.pm_cargo_reading.specs.declared.contents.Contents.{Contents}
use Rattle.base_values.specs.Outcome.{take_each}
use Rattle.pm_cargo_packages.specs.declared.target.TargetData.{TargetData}
use Rattle.pm_cargo_reading.specs.declared.unresolved.PackageParts.{PackageParts}
use Rattle.pm_cargo_reading.specs.Packages.{absolute_manifest, ids_between, is_listed, take_target}

-- what is read of one more package, and all targets with its own, where none of them is refused
pub record ArePartsOf (by : List PackageId × Limits) (contents : Contents) (p : Package)
    (targets : List TargetData) (parts : PackageParts) : Type 0 where
  pub room : length contents.packages < by.1.packages
  pub manifest : absolute_manifest p.manifest_path ≡ Ok parts.manifest
  pub taken :
      take_each (take_target by.1.targets (length contents.packages) parts.manifest) contents.targets
      p.targets
      ≡ Ok targets
  pub few : length contents.packages + 1 < 2 ^ 32
  pub short : length targets < 2 ^ 32
  pub id : parts.id ≡ p.id
  pub is_member : parts.is_member ≡ is_listed by.0 p.id
  pub ids : parts.targets ≡ ids_between (length contents.targets) (length targets)
