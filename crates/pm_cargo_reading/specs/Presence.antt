-- Ids that packages and targets hold, each of which is that of a package or a target beside them.
use Rattle.std.specs.Prelude.{ℕ, ◌<◌, ◌^◌, length}
use Rattle.std.specs.List.{All}
use Rattle.std.specs.Option.{IfSome}
use Rattle.base_text_paths.specs.Arena.{number_of}
use Rattle.pm_cargo_packages.specs.declared.package.PackageData.{PackageData}
use Rattle.pm_cargo_reading.specs.declared.contents.Contents.{Contents}
use Rattle.pm_cargo_reading.specs.declared.nodes.Link.{Link}

-- each id that a package holds is that of a target or a package
pub record HoldsIds (package_count target_count : ℕ) (p : PackageData) : Type 0 where
  pub targets : All (λ t. number_of t < target_count) p.targets
  pub dependencies : All (λ d. number_of d.pkg < package_count) p.dependencies
  pub member_deps : IfSome p.all_member_deps (λ ids. All (λ id. number_of id < package_count) ids)

-- packages and targets can be numbered, and each id that they hold is that of one of them
pub record HoldsItsIds (c : Contents) : Type 0 where
  pub short : length c.packages < 2 ^ 32
  pub packages : All (HoldsIds (length c.packages) (length c.targets)) c.packages
  pub targets : All (λ t. number_of t.package < length c.packages) c.targets

-- a link is that of a package of so many, and its dependencies are on such packages
pub record IsLinkWithin (count : ℕ) (link : Link) : Type 0 where
  pub source : number_of link.source < count
  pub dependencies : All (λ d. number_of d.pkg < count) link.dependencies
