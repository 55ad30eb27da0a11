-- The packages of workspaces by their ids. Where several packages have one id, the last of them counts.
use Rattle.std.specs.Prelude.{◌≡◌, ℕ, List, map, Option}
use Rattle.std.specs.Borrow.{Bor}
use Rattle.std.specs.List.{flat_map}
use Rattle.std.specs.Option.{option_map}
use Rattle.base_text_paths.specs.Arena.{number_of}
use Rattle.base_text_paths.specs.declared.arena.Idx.{Idx}
use Rattle.base_values.specs.ByText.{value_at}
use Rattle.pm_cargo.specs.Workspace.{Workspace}
use Rattle.pm_cargo_packages.specs.declared.package.PackageData.{PackageData}
use Rattle.pm_cargo_packages.specs.declared.package.PackageTag.{PackageTag}
use Rattle.pm_cargo_reading.specs.Nodes.{place_of_package}

-- packages under their ids
abbrev pub ById : Type 0
ById = List (List ℕ × Idx PackageTag)

-- the place of the package that stands under an id
abbrev pub place_under : ById → List ℕ → Option ℕ
place_under ids id = option_map number_of (value_at id ids)

-- under each id stands its package
abbrev pub IsIndexOf : List PackageData → ById → Type 0
IsIndexOf packages ids = (id : List ℕ) → place_under ids id ≡ place_of_package packages id

-- the packages behind some references
abbrev pub lent_packages : List (Bor PackageData) → List PackageData
lent_packages packages = map (λ p. p.now) packages

-- the workspaces behind some references
abbrev pub lent_workspaces : List (Bor Workspace) → List Workspace
lent_workspaces workspaces = map (λ w. w.now) workspaces

-- the packages of some workspaces, one workspace after another
abbrev pub packages_of_all : List Workspace → List PackageData
packages_of_all workspaces = flat_map (λ w. w.packages) workspaces
