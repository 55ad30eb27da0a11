-- which packages a document's calls select
use Rattle.std.specs.Prelude.{ℕ, List, Bool, bytes_eq, codes, find, filter, Option, Some, None}
use Rattle.std.specs.Cmp.Lexicographic.{pointwise}
use Rattle.std.specs.List.{list_any}
use Rattle.std.specs.Option.{option_and_then}
use Rattle.std.specs.Path.{path_components, path_join}
use Rattle.cargo_meta_values.specs.Resolve.{is_id}
use Rattle.cargo_meta.specs.declared.metadata.Metadata.{Metadata}
use Rattle.cargo_meta_values.specs.declared.names.PackageId.{PackageId}
use Rattle.cargo_meta.specs.declared.package.Package.{Package}
use Rattle.cargo_meta_values.specs.declared.resolve.Resolve.{Resolve}

-- the id is among those
abbrev pub is_among : List PackageId → PackageId → Bool
is_among ids id = list_any (λ other. is_id other id) ids

-- the first package of the id
abbrev pub package_of_id : PackageId → List Package → Option Package
package_of_id id packages = find (λ p. is_id p.id id) packages

-- the packages whose ids are listed, in document order
abbrev pub packages_among : List PackageId → List Package → List Package
packages_among ids packages = filter (λ p. is_among ids p.id) packages

-- the manifest is `Cargo.toml` in the root, as paths are compared: by their components
abbrev pub is_manifest_in : List ℕ → List ℕ → Bool
is_manifest_in root manifest =
    pointwise bytes_eq (path_components manifest) (path_components (path_join root (codes "Cargo.toml")))

-- the first package whose manifest is in the root
abbrev pub package_in : List ℕ → List Package → Option Package
package_in root packages = find (λ p. is_manifest_in root p.manifest_path) packages

-- the package of the resolved graph's root, and without a graph the one in the workspace's root
abbrev pub root_package_by : Option Resolve → Metadata → Option Package
root_package_by (Some resolve) m = option_and_then (λ id. package_of_id id m.packages) resolve.root
root_package_by None m = package_in m.workspace_root m.packages

-- the root package of a document
abbrev pub root_package_of : Metadata → Option Package
root_package_of m = root_package_by m.resolve m
