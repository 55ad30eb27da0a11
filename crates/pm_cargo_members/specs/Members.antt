-- Which members of a workspace a member depends on, over dependencies between members, in cycles too. The
-- rule is that of `cargo metadata` read by rust-analyzer.
use Rattle.std.specs.Prelude.{ℕ, Bool, false, List, [], map, filter, slice_get, if◌then◌else◌, Some}
use Rattle.std.specs.List.{enumerate_from}
use Rattle.std.specs.Option.{option_map_or}
use Rattle.base_text_paths.specs.Arena.{number_of}
use Rattle.base_text_paths.specs.declared.arena.Idx.{Idx}
use Rattle.pm_cargo_members.specs.Closure.{closure}
use Rattle.pm_cargo_packages.specs.Ids.{package_id}
use Rattle.pm_cargo_packages.specs.declared.package.PackageData.{PackageData}
use Rattle.pm_cargo_packages.specs.declared.package.PackageDependency.{PackageDependency}
use Rattle.pm_cargo_packages.specs.declared.package.PackageTag.{PackageTag}

-- the place of the package that a dependency is on
abbrev pub place_of_dependency : PackageDependency → ℕ
place_of_dependency d = number_of d.pkg

-- whether the package at a place is a member
abbrev pub is_member_at : List PackageData → ℕ → Bool
is_member_at packages place = option_map_or (λ p. p.is_member) (slice_get packages place) false

-- the members that a member depends on; a package that is no member has none
unfoldable pub member_row : List PackageData → PackageData → List ℕ
member_row packages p =
    if p.is_member then filter (is_member_at packages) (map place_of_dependency p.dependencies) else []

-- the graph of dependencies between members
abbrev pub member_graph : List PackageData → List (List ℕ)
member_graph packages = map (member_row packages) packages

-- the ids of the packages at some places
abbrev pub package_ids : List ℕ → List (Idx PackageTag)
package_ids places = map package_id places

-- the package at a place with the members that it comes to over one or more dependencies between members, if
-- it is one
abbrev pub with_member_deps : List (List ℕ) → ℕ × PackageData → PackageData
with_member_deps graph p =
    if p.1.is_member then record p.1 { all_member_deps = Some (package_ids (closure graph p.0)) } else p.1

-- the packages, of which each member has those
unfoldable pub with_all_member_deps : List PackageData → List PackageData
with_all_member_deps packages = map (with_member_deps (member_graph packages)) (enumerate_from 0 packages)
