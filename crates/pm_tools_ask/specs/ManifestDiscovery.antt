-- Which manifests are found from a path: the one in it or in the nearest directory above it, by their names
-- in turn, and else those of its entries. The rules are those of rust-analyzer's `ProjectManifest::discover`.
use Rattle.std.specs.Prelude.{ℕ, zero, suc, if◌then◌else◌, List, [], ◌∷◌, map, flat_map, length, take, codes, Option, Some, None, Result, Ok, Err}
use Rattle.std.specs.List.{dedup, filter_map, find}
use Rattle.std.specs.Option.{ok_or, option_map, option_or, unwrap_or}
use Rattle.std.specs.Ordering.{eq_by_cmp}
use Rattle.base_values.specs.Sorted.{sorted}
use Rattle.base_text_paths.specs.Paths.{components, components_with_tail, path_text}
use Rattle.base_text.specs.Tree.{TreeFiles, holds_path, names_in}
use Rattle.pm_tools_ask.specs.Manifest.{has_name, manifest_cmp}
use Rattle.pm_tools_ask.specs.Sysroot.{held_path}
use Rattle.pm_tools_ask.specs.declared.discover_error.DiscoverError.{DiscoverError}
use Rattle.pm_tools_ask.specs.declared.discover_error.DiscoverError.TheVariants.{NoDirectory, NoProject, Several}
use Rattle.pm_tools_ask.specs.declared.project_manifest.ProjectManifest.{ProjectManifest}
use Rattle.pm_tools_ask.specs.declared.project_manifest.ProjectManifest.TheVariants.{ProjectJson, CargoToml}

-- ---- in a path and above it

-- so many of the first components, then one fewer, down to none
unfoldable pub fronts_within : List (List ℕ) → ℕ → List (List (List ℕ))
fronts_within parts zero = [] ∷ []
fronts_within parts (suc n) = take (suc n) parts ∷ fronts_within parts n

-- all components, then one fewer, down to none
abbrev pub fronts : List (List ℕ) → List (List (List ℕ))
fronts parts = fronts_within parts (length parts)

-- a path and the directories above it, the nearest first
abbrev pub directories_up : List ℕ → List (List ℕ)
directories_up path = map path_text (fronts (components path))

-- the path of an entry of a directory, by its name
abbrev pub entry_path : List ℕ → List ℕ → List ℕ
entry_path name directory = path_text (components_with_tail directory name)

-- the nearest entry of a name, in a path or in a directory above it, that a tree holds
unfoldable pub nearest_entry : TreeFiles → List ℕ → List ℕ → Option (List ℕ)
nearest_entry files name path = find (holds_path files) (map (entry_path name) (directories_up path))

-- the manifest of a name: the path itself where that is its name, else the nearest
unfoldable pub manifest_named : TreeFiles → List ℕ → List ℕ → Option (List ℕ)
manifest_named files name path = if has_name name path then Some path else nearest_entry files name path

-- the manifest of a JSON project: that of the plain name comes before the hidden one, however far up
unfoldable pub json_above : TreeFiles → List ℕ → Option (List ℕ)
json_above files path =
    option_or (manifest_named files (codes "rust-project.json") path)
    (manifest_named files (codes ".rust-project.json") path)

-- the manifest that is found in a path or above it: that of a JSON project before that of a Cargo project
unfoldable pub manifest_above : TreeFiles → List ℕ → Option ProjectManifest
manifest_above files path =
    option_or (option_map ProjectJson (json_above files path))
    (option_map CargoToml (manifest_named files (codes "Cargo.toml") path))

-- ---- one level below

-- the manifest of a Cargo project in an entry of a directory, where a tree holds it
unfoldable pub manifest_below : TreeFiles → List ℕ → List ℕ → Option ProjectManifest
manifest_below files directory name =
    option_map CargoToml (held_path files (entry_path (codes "Cargo.toml") (entry_path name directory)))

-- those of entries, in the order of the entries
abbrev pub manifests_below : TreeFiles → List ℕ → List (List ℕ) → List ProjectManifest
manifests_below files directory names = filter_map (manifest_below files directory) names

-- ---- what is found

-- one manifest alone, or else others
abbrev pub alone_or : Option ProjectManifest → Option (List ProjectManifest) → Option (List ProjectManifest)
alone_or None others = others
alone_or (Some manifest) others = Some (manifest ∷ [])

-- what is found from a path: the manifest in it or above it, or else those of its entries, where it is a
-- directory
unfoldable pub found_from : TreeFiles → List ℕ → Option (List ProjectManifest)
found_from files path =
    alone_or (manifest_above files path) (option_map (manifests_below files path) (names_in files path))

-- the manifests that are discovered from a path, or why there are none
abbrev pub discovered : TreeFiles → List ℕ → Result (List ProjectManifest) DiscoverError
discovered files path = ok_or (found_from files path) NoDirectory

-- the manifest that stands alone
abbrev pub only_manifest : List ProjectManifest → Result ProjectManifest DiscoverError
only_manifest [] = Err NoProject
only_manifest (manifest ∷ []) = Ok manifest
only_manifest (manifest ∷ other ∷ others) = Err Several

-- the manifest that stands alone among those that are discovered
abbrev pub only_discovered : Result (List ProjectManifest) DiscoverError
    → Result ProjectManifest DiscoverError
only_discovered (Ok found) = only_manifest found
only_discovered (Err error) = Err error

-- what is found from a path, or nothing
abbrev pub found_or_none : TreeFiles → List ℕ → List ProjectManifest
found_or_none files path = unwrap_or (found_from files path) []

-- manifests in their order, each once
abbrev pub distinct_manifests : List ProjectManifest → List ProjectManifest
distinct_manifests manifests = dedup (eq_by_cmp manifest_cmp) (sorted manifest_cmp manifests)

-- what is found from any of some paths
abbrev pub discovered_from_all : TreeFiles → List (List ℕ) → List ProjectManifest
discovered_from_all files paths = distinct_manifests (flat_map (found_or_none files) paths)
