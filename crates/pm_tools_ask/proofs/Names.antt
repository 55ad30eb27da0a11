-- What a path names, by the tests on its file name in turn.
use Rattle.std.proofs.Common.{◌≡◌, ℕ, true, false, List, Some, None, codes, refl}
use Rattle.base_text_paths.specs.Paths.{components, file_name}
use Rattle.base_text_paths.specs.ManifestPath.{is_rust_manifest}
use Rattle.pm_tools_ask.specs.declared.project_manifest.ProjectManifest.TheVariants.{ProjectJson, CargoToml, CargoScript}
use Rattle.pm_tools_ask.specs.Manifest.{has_name, is_project_json, manifest_of}

pub names_json : (path : List ℕ) → is_project_json path ≡ true → manifest_of path ≡ Some (ProjectJson path)
unfolding manifest_of
names_json path json = rw json refl

pub names_table : (path : List ℕ) → is_project_json path ≡ false → has_name (codes "Cargo.toml") path ≡ true → manifest_of path ≡ Some (CargoToml path)
unfolding manifest_of
names_table path json table = rw (json, table) refl

pub names_script : (path : List ℕ) → is_project_json path ≡ false → has_name (codes "Cargo.toml") path ≡ false → is_rust_manifest path ≡ true → manifest_of path ≡ Some (CargoScript path)
unfolding manifest_of
names_script path json table script = rw (json, table, script) refl

pub names_nothing : (path : List ℕ) → is_project_json path ≡ false → has_name (codes "Cargo.toml") path ≡ false → is_rust_manifest path ≡ false → manifest_of path ≡ None
unfolding manifest_of
names_nothing path json table script = rw (json, table, script) refl

-- the root has no name
pub root_names_nothing : manifest_of (codes "/") ≡ None
unfolding manifest_of is_project_json has_name file_name components is_rust_manifest
root_names_nothing = refl
