-- Which values of packages and targets the laws of their equality speak of: paths are equal by their
-- components, so those whose paths are clean, as the text of every path is.
use Rattle.base_text_paths.specs.Paths.{IsClean}
use Rattle.pm_cargo_packages.specs.declared.package.PackageData.{PackageData}
use Rattle.pm_cargo_packages.specs.declared.target.TargetData.{TargetData}

-- the path of the package's manifest is clean
abbrev pub HasCleanManifest : PackageData → Type 0
HasCleanManifest p = IsClean p.manifest

-- the path of the file that the target begins in is clean
abbrev pub HasCleanRoot : TargetData → Type 0
HasCleanRoot target = IsClean target.root
