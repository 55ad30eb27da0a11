-- Which files are manifests of projects, and of which kind, by their names: those that rust-analyzer and
-- cargo look for.
use Rattle.std.specs.Prelude.{ℕ, Bool, false, ◌||◌, if◌then◌else◌, List, Option, Some, None, bytes_eq, codes}
use Rattle.std.specs.Option.{option_map_or}
use Rattle.std.specs.Ordering.{nat_cmp, ordering_then}
use Rattle.std.specs.declared.cmp.Ordering.{Ordering}
use Rattle.base_text_paths.specs.PathOrder.{path_cmp}
use Rattle.base_text_paths.specs.Paths.{file_name}
use Rattle.base_text_paths.specs.ManifestPath.{is_rust_manifest}
use Rattle.pm_tools_ask.specs.declared.project_manifest.ProjectManifest.{ProjectManifest}
use Rattle.pm_tools_ask.specs.declared.project_manifest.ProjectManifest.TheVariants.{ProjectJson, CargoToml, CargoScript}

-- the file name of the path is `name`
unfoldable pub has_name : List ℕ → List ℕ → Bool
has_name name path = option_map_or (λ file. bytes_eq file name) (file_name path) false

-- the file name is that of a JSON project, which may be hidden
unfoldable pub is_project_json : List ℕ → Bool
is_project_json path = has_name (codes "rust-project.json") path || has_name (codes ".rust-project.json") path

-- the manifest that a path names
unfoldable pub manifest_of : List ℕ → Option ProjectManifest
manifest_of path =
    if is_project_json path then Some (ProjectJson path)
    else if has_name (codes "Cargo.toml") path then Some (CargoToml path)
    else if is_rust_manifest path then Some (CargoScript path)
    else None

-- the place of a kind in the order in which the kinds are searched for
abbrev pub kind_place : ProjectManifest → ℕ
kind_place (ProjectJson path) = 0
kind_place (CargoToml path) = 1
kind_place (CargoScript path) = 2

-- the path of a manifest of any kind
abbrev pub manifest_path : ProjectManifest → List ℕ
manifest_path (ProjectJson path) = path
manifest_path (CargoToml path) = path
manifest_path (CargoScript path) = path

-- the order of manifests: by their kinds, and those of one kind by their paths
abbrev pub manifest_cmp : ProjectManifest → ProjectManifest → Ordering
manifest_cmp x y =
    ordering_then (nat_cmp (kind_place x) (kind_place y)) (path_cmp (manifest_path x) (manifest_path y))
