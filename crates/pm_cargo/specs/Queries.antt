-- What is asked of a workspace: by its paths, by the names of its packages and by their features. The rules
-- are those of rust-analyzer's `CargoWorkspace`.
use Rattle.std.specs.Prelude.{ℕ, ◌==◌, Bool, ◌&&◌, ◌||◌, false, List, [], ◌∷◌, ◌++◌, map, filter, flat_map, bytes_eq, codes, not, slice_get, if◌then◌else◌, Option, Some, None}
use Rattle.std.specs.List.{count_by, find, list_any}
use Rattle.std.specs.Map.{keys_of}
use Rattle.std.specs.Option.{option_map_or}
use Rattle.semver.specs.Identifiers.{parts_text}
use Rattle.base_text_paths.specs.Arena.{number_of}
use Rattle.base_text_paths.specs.PathOrder.{path_eq}
use Rattle.base_text_paths.specs.Paths.{components_with_tail, path_text}
use Rattle.base_text_paths.specs.declared.arena.Idx.{Idx}
use Rattle.pm_cargo_packages.specs.declared.package.PackageData.{PackageData}
use Rattle.pm_cargo_packages.specs.declared.package.PackageDependency.{PackageDependency}
use Rattle.pm_cargo_packages.specs.declared.target.TargetTag.{TargetTag}
use Rattle.pm_cargo.specs.Workspace.{Workspace}

-- ---- paths

-- whether a package has the manifest
abbrev pub has_manifest : List ℕ → PackageData → Bool
has_manifest manifest p = path_eq p.manifest manifest

-- a workspace is virtual where no package has its manifest
abbrev pub is_virtual : Workspace → Bool
is_virtual w = not (list_any (has_manifest w.manifest_path) w.packages)

-- whether a target has the root
abbrev pub has_root : Workspace → List ℕ → Idx TargetTag → Bool
has_root w root id = option_map_or (λ t. path_eq t.root root) (slice_get w.targets (number_of id)) false

-- the targets of a member, and none of any other package
abbrev pub member_targets : PackageData → List (Idx TargetTag)
member_targets p = if p.is_member then p.targets else []

-- the first target of a member that has the root
abbrev pub target_by_root : Workspace → List ℕ → Option (Idx TargetTag)
target_by_root w root = find (has_root w root) (flat_map member_targets w.packages)

-- whether a dependency is on a package that has the manifest
abbrev pub is_on : Workspace → List ℕ → PackageDependency → Bool
is_on w manifest d = option_map_or (has_manifest manifest) (slice_get w.packages (number_of d.pkg)) false

-- the manifests of the packages that depend on a package that has the manifest
abbrev pub dependent_manifests : Workspace → List ℕ → List (List ℕ)
dependent_manifests w manifest =
    map (λ p. p.manifest) (filter (λ p. list_any (is_on w manifest) p.dependencies) w.packages)

-- the manifest of the workspace's root
abbrev pub root_manifest : Workspace → List ℕ
root_manifest w = path_text (components_with_tail w.workspace_root (codes "Cargo.toml"))

-- the manifests found, else the root's if the manifest is that of a package, else none
abbrev pub manifests_or_root : Bool → List ℕ → List (List ℕ) → Option (List (List ℕ))
manifests_or_root is_known root [] = if is_known then Some (root ∷ []) else None
manifests_or_root is_known root (first ∷ others) = Some (first ∷ others)

-- the manifests above a manifest
unfoldable pub parent_manifests : Workspace → List ℕ → Option (List (List ℕ))
parent_manifests w manifest =
    manifests_or_root (list_any (has_manifest manifest) w.packages) (root_manifest w)
    (dependent_manifests w manifest)

-- ---- names

-- how many packages have the name
abbrev pub name_count : Workspace → List ℕ → ℕ
name_count w name = count_by (λ p. bytes_eq p.name name) w.packages

-- whether exactly one package has the name
abbrev pub is_unique : Workspace → List ℕ → Bool
is_unique w name = name_count w name == 1

-- what names a package on Cargo's command line: its name, with its version unless exactly one package has the
-- name
abbrev pub package_flag : Workspace → PackageData → List ℕ
package_flag w p = if is_unique w p.name then p.name else p.name ++ (codes ":" ++ parts_text p.version)

-- some package uses crates of the compiler
abbrev pub requires_rustc_private : Workspace → Bool
requires_rustc_private w = list_any (λ p. p.metadata.rustc_private) w.packages

-- ---- features

-- whether the text is a feature of a package of some name, plain or behind that name
abbrev pub names_feature : List ℕ → List ℕ → List ℕ → Bool
names_feature name text feature = bytes_eq feature text || bytes_eq (name ++ (codes "/" ++ feature)) text

-- whether the text names a feature of the package
abbrev pub is_feature_of : List ℕ → PackageData → Bool
is_feature_of text p = list_any (names_feature p.name text) (keys_of p.features)

-- whether the text names a feature of a member
abbrev pub is_feature : Workspace → List ℕ → Bool
is_feature w text = list_any (λ p. p.is_member && is_feature_of text p) w.packages
