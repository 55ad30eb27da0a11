-- What code gathers on the way to a graph: rows as crates without dependencies, and edges without their
-- ranks. The rules are those of `Rows` and `WantedEdges`; no public clause names these.
use Rattle.std.specs.Prelude.{◌≡◌, ℕ, ◌+◌, ◌≤◌, Bool, true, false, List, [], ◌∷◌, ◌++◌, map, length, Option, slice_get}
use Rattle.std.specs.List.{flat_map, range_with_len}
use Rattle.std.specs.Option.{option_and_then, option_map, option_to_list}
use Rattle.base_text_paths.specs.Arena.{number_of}
use Rattle.base_text_paths.specs.declared.arena.Idx.{Idx}
use Rattle.crate_graph.specs.Graph.{Graph}
use Rattle.pm_cargo_packages.specs.declared.package.PackageData.{PackageData}
use Rattle.pm_cargo_packages.specs.declared.package.PackageDependency.{PackageDependency}
use Rattle.pm_cargo_packages.specs.declared.target.TargetData.{TargetData}
use Rattle.pm_cargo_packages.specs.declared.target.TargetTag.{TargetTag}
use Rattle.pm_cargo.specs.Workspace.{Workspace}
use Rattle.pm_lower_crates.specs.Loader.{FileNumbers}
use Rattle.pm_lower_crates.specs.Facts.{Facts}
use Rattle.pm_lower_crates.specs.Lowering.{crate_seen, row_crate}
use Rattle.pm_lower_crates.specs.Rows.{Owner, Row, is_macro_row, library, live_target, rows_from}
use Rattle.pm_lower_crates.specs.WantedEdges.{Edge, Public, to_library, to_macros, to_owner, to_public}

-- ---- rows

-- the files that the crates of a package's targets begin in, by target
unfoldable pub files_of : FileNumbers → Workspace → PackageData → List (Option ℕ)
files_of files w of = map (λ id. option_map (λ t. t.1) (live_target files w of id)) of.targets

-- these are the files of the targets of all packages
abbrev pub AreFilesOf : FileNumbers → Workspace → List (List (Option ℕ)) → Type 0
AreFilesOf live w files = files ≡ map (files_of live w) w.packages

-- a target with the file that its crate begins in, where there are both
unfoldable pub found_target : Workspace → Option (Idx TargetTag) → Option ℕ → Option (TargetData × ℕ)
found_target w id file =
    option_and_then
    (λ f. option_and_then (λ i. option_map (λ t. (t, f)) (slice_get w.targets (number_of i))) id) file

-- the targets of a package from a place on that have a file, each with its place
abbrev pub found_targets : Workspace → PackageData → ℕ → List (Option ℕ) → List (ℕ × TargetData × ℕ)
found_targets w of place [] = []
found_targets w of place (file ∷ files) =
    option_to_list (option_map (λ t. (place, t.0, t.1)) (found_target w (slice_get of.targets place) file))
    ++ found_targets w of (place + 1) files

-- the package with a number and its rows, numbered from n on, by the files that their crates begin in
abbrev pub owner_by : Workspace → ℕ → ℕ → PackageData → List (Option ℕ) → Owner
owner_by w p n of files = record { of = of; rows = rows_from p of n (found_targets w of 0 files) }

-- the packages from the one with a number on, and their rows, numbered from n on
abbrev pub owners_by : Workspace → ℕ → ℕ → List PackageData → List (List (Option ℕ)) → List Owner
owners_by w p n [] files = []
owners_by w p n (of ∷ more) [] = []
owners_by w p n (of ∷ more) (f ∷ fs) =
    owner_by w p n of f ∷ owners_by w (p + 1) (n + length (owner_by w p n of f).rows) more fs

-- rows follow a graph's crates, with no dependencies, as far as its limit allows
pub record AddsRows (facts : Facts) (w : Workspace) (old new : Graph) (rows : List Row) : Type 0 where
  pub limit : new.limit ≡ old.limit
  pub within : length old.crates ≤ old.limit → length new.crates ≤ old.limit
  pub crates : map crate_seen new.crates ≡ map crate_seen old.crates ++ map (row_crate facts w) rows

-- ---- edges

-- the edge of a row to the library of procedural macros
abbrev pub macros_of : Public → Row → List Edge
macros_of public row = to_macros public.macros row.number (is_macro_row row.target.kind)

-- the edges of a row to the public rows, and to its package's library
abbrev pub libraries_of : Public → Option Row → Row → List Edge
libraries_of public lib row = map (to_public row.number) public.rows ++ to_library lib row

-- the edges of a package's rows that no dependency of it asks for
unfoldable pub to_libraries : Public → Owner → List Edge
to_libraries public o =
    flat_map (macros_of public) o.rows ++ flat_map (libraries_of public (library o.rows)) o.rows

-- the edges of a package's rows to the library of a dependency's package
abbrev pub to_dependency : Bool → List Owner → Owner → PackageDependency → List Edge
to_dependency delayed owners from d =
    flat_map (to_owner delayed from d (slice_get owners (number_of d.pkg))) from.rows

-- the edges of a package's dependencies, in their order
unfoldable pub to_dependencies : Bool → List Owner → Owner → List Edge
to_dependencies delayed owners from = flat_map (to_dependency delayed owners from) from.of.dependencies

-- all edges that are wanted between some packages
abbrev pub edges_between : Public → List Owner → List Edge
edges_between public owners =
    flat_map (to_libraries public) owners ++ flat_map (to_dependencies false owners) owners
    ++ flat_map (to_dependencies true owners) owners

-- rows are numbered through, from n on
abbrev pub AreNumbered : ℕ → List Row → Type 0
AreNumbered n rows = map (λ r. r.number) rows ≡ range_with_len n (length rows)
