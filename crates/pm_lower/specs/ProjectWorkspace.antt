-- What is asked of a project: its manifest, its root, how many packages it has, and which files other build
-- systems build it by. The rules are those of rust-analyzer's `ProjectWorkspace`.
use Rattle.std.specs.Prelude.{ℕ, ◌+◌, ◌-◌, ◌^◌, min, Bool, false, true, List, [], length, flat_map, Option, Some, None, Result, Ok, Err, unwrap_or}
use Rattle.std.specs.Option.{option_map, option_to_list}
use Rattle.base_text_paths.specs.Paths.{components_with_tail, path_text}
use Rattle.pm_tools.specs.Outputs.{BuildScripts}
use Rattle.pm_cargo.specs.Workspace.{Workspace}
use Rattle.pm_json.specs.Queries.{crates_in, document_path, project_base}
use Rattle.pm_json.specs.declared.krate.Crate.{Crate}
use Rattle.pm_json.specs.declared.project_json.ProjectJson.{ProjectJson}
use Rattle.pm_lower.specs.declared.project_workspace.ProjectWorkspace.{ProjectWorkspace}
use Rattle.pm_lower.specs.declared.project_workspace.ProjectWorkspaceKind.{ProjectWorkspaceKind}
use Rattle.pm_lower.specs.declared.project_workspace.ProjectWorkspaceKind.TheVariants.{Cargo, Json, DetachedFile}
use Rattle.base_text_paths.specs.ManifestPath.{directory_of}
use Rattle.pm_tools_ask.specs.declared.rust_lib_src.RustLibSrcWorkspace.{RustLibSrcWorkspace}
use Rattle.pm_tools_ask.specs.declared.rust_lib_src.RustLibSrcWorkspace.TheVariants.{Empty}

-- the crates of the compiler with what their builds gave, or why there are none
abbrev pub RustcPart : Type 0
RustcPart = Result (Workspace × BuildScripts) (Option (List ℕ))

-- the project that cargo reads a detached file as, with what its builds gave, and why the light metadata
-- stands in for the full one, where it does
abbrev pub ScriptPart : Type 0
ScriptPart = Workspace × BuildScripts × Option (List ℕ)

-- the workspace of a detached file, where cargo reads it as a project
abbrev pub script_workspace : Option ScriptPart → Option Workspace
script_workspace script = option_map (λ s. s.0) script

-- ---- manifests and roots

-- the manifest of a kind of project, if it has one
abbrev pub kind_manifest : ProjectWorkspaceKind → Option (List ℕ)
kind_manifest (Cargo cargo error scripts rustc) = Some cargo.manifest_path
kind_manifest (Json project) = document_path project
kind_manifest (DetachedFile file script) = option_map (λ w. w.manifest_path) (script_workspace script)

-- the manifest of a kind of project, or what stands for it: the directory of a JSON project that no file
-- describes, and a detached file itself
abbrev pub kind_manifest_or_root : ProjectWorkspaceKind → List ℕ
kind_manifest_or_root (Cargo cargo error scripts rustc) = cargo.manifest_path
kind_manifest_or_root (Json project) = unwrap_or (document_path project) (project_base project)
kind_manifest_or_root (DetachedFile file script) = file

-- the root of a kind of project; that of a detached file is its directory
abbrev pub kind_root : ProjectWorkspaceKind → List ℕ
kind_root (Cargo cargo error scripts rustc) = cargo.workspace_root
kind_root (Json project) = project_base project
kind_root (DetachedFile file script) = directory_of file

-- ---- what kind it is

-- whether a JSON document describes the project
abbrev pub is_json_kind : ProjectWorkspaceKind → Bool
is_json_kind (Cargo cargo error scripts rustc) = false
is_json_kind (Json project) = true
is_json_kind (DetachedFile file script) = false

-- whether a kind of project has a Cargo workspace, of which there can be builds
abbrev pub has_cargo_workspace : ProjectWorkspaceKind → Bool
has_cargo_workspace (Cargo cargo error scripts rustc) = true
has_cargo_workspace (Json project) = false
has_cargo_workspace (DetachedFile file None) = false
has_cargo_workspace (DetachedFile file (Some script)) = true

-- ---- packages

-- how many packages the crates of the compiler have
abbrev pub rustc_packages : RustcPart → ℕ
rustc_packages (Ok rustc) = length rustc.0.packages
rustc_packages (Err reason) = 0

-- how many packages a detached file has: those of its workspace, or itself alone
abbrev pub script_packages : Option Workspace → ℕ
script_packages None = 1
script_packages (Some w) = length w.packages

-- how many packages a kind of project has; the crates of a JSON project count as packages
abbrev pub kind_packages : ProjectWorkspaceKind → ℕ
kind_packages (Cargo cargo error scripts rustc) = length cargo.packages + rustc_packages rustc
kind_packages (Json project) = length (crates_in project)
kind_packages (DetachedFile file script) = script_packages (script_workspace script)

-- how many packages the sources of a toolchain's libraries have
abbrev pub library_packages : RustLibSrcWorkspace → ℕ
library_packages Empty = 0

-- how many packages a project has with those of its toolchain, or the greatest count where they are more
abbrev pub package_count : ProjectWorkspace → ℕ
package_count p = min (library_packages p.sysroot.workspace + kind_packages p.kind) (2 ^ 64 - 1)

-- ---- build files

-- the file by which another build system builds a crate, if it does: its path is read on the root
abbrev pub build_file_of : List ℕ → Crate → List (List ℕ)
build_file_of root krate =
    option_to_list (option_map (λ build. path_text (components_with_tail root build.build_file)) krate.build)

-- those of the crates of a JSON project, in order
abbrev pub json_buildfiles : ProjectJson → List (List ℕ)
json_buildfiles project = flat_map (build_file_of (project_base project)) (crates_in project)

-- those of a kind of project: cargo builds by none
abbrev pub kind_buildfiles : ProjectWorkspaceKind → List (List ℕ)
kind_buildfiles (Cargo cargo error scripts rustc) = []
kind_buildfiles (Json project) = json_buildfiles project
kind_buildfiles (DetachedFile file script) = []
