-- The roots of a project: those of its packages, those of its toolchain's libraries, and those of the
-- compiler's crates. The rules are those of rust-analyzer's `ProjectWorkspace::to_roots`.
use Rattle.std.specs.Prelude.{ℕ, false, IsErr, List, [], ◌∷◌, ◌++◌, Option, Some, None}
use Rattle.std.specs.FinMap.{get}
use Rattle.std.specs.Option.{option_to_list}
use Rattle.pm_tools.specs.Outputs.{BuildScripts}
use Rattle.pm_lower_load.specs.DetachedRoots as detached
use Rattle.pm_lower_load.specs.JsonRoots as json
use Rattle.pm_lower.specs.Builds.{no_scripts}
use Rattle.pm_lower.specs.ProjectWorkspace.{ScriptPart}
use Rattle.pm_lower.specs.declared.project_workspace.ProjectWorkspace.{ProjectWorkspace}
use Rattle.pm_lower.specs.declared.project_workspace.ProjectWorkspaceKind.{ProjectWorkspaceKind}
use Rattle.pm_lower.specs.declared.project_workspace.ProjectWorkspaceKind.TheVariants.{Cargo, Json, DetachedFile}
use Rattle.pm_lower_load.specs.Roots.{out_dir_in, roots_of}
use Rattle.pm_lower_load.specs.declared.package_root.PackageRoot.{PackageRoot}
use Rattle.pm_tools_ask.specs.Toolchain.{Toolchain}
use Rattle.pm_tools_ask.specs.declared.rust_lib_src.RustLibSrcWorkspace.{RustLibSrcWorkspace}
use Rattle.pm_tools_ask.specs.declared.rust_lib_src.RustLibSrcWorkspace.TheVariants.{Empty}

-- the directories that builds wrote into, by the numbers of their packages
abbrev pub out_dir_at : BuildScripts → ℕ → Option (List ℕ)
out_dir_at scripts = out_dir_in (get scripts.outputs)

-- the roots of a detached file: its own, and then those of its project
abbrev pub script_roots : List ℕ → Option ScriptPart → List (List ℕ) → List PackageRoot
script_roots file None extra = detached.detached_roots file None (out_dir_at no_scripts) extra
script_roots file (Some script) extra =
    detached.detached_roots file (Some script.0) (out_dir_at script.1) extra

-- the roots of a kind of project, with the extra directories
abbrev pub kind_roots : ProjectWorkspaceKind → List (List ℕ) → List PackageRoot
kind_roots (Cargo cargo error scripts rustc) extra = roots_of cargo (out_dir_at scripts) extra
kind_roots (Json project) extra = json.json_roots project extra
kind_roots (DetachedFile file script) extra = script_roots file script extra

-- the roots of the packages of a toolchain's libraries
abbrev pub library_roots : RustLibSrcWorkspace → List PackageRoot
library_roots Empty = []

-- the root of the directory of the libraries' sources, which is there without a directory too
abbrev pub library_source_root : Option (List ℕ) → PackageRoot
library_source_root src = record { is_local = false; include = option_to_list src; exclude = [] }

-- the roots of a toolchain
abbrev pub sysroot_roots : Toolchain → List PackageRoot
sysroot_roots sysroot = library_roots sysroot.workspace ++ library_source_root sysroot.src ∷ []

-- the roots of a project
abbrev pub project_roots : ProjectWorkspace → List PackageRoot
project_roots p = kind_roots p.kind p.extra_includes ++ sysroot_roots p.sysroot

-- no crates of the compiler were read beside the project
abbrev pub KindHasNoRustc : ProjectWorkspaceKind → Type 0
KindHasNoRustc (Cargo cargo error scripts rustc) = IsErr rustc
KindHasNoRustc (Json project) = Unit {0}
KindHasNoRustc (DetachedFile file script) = Unit {0}

-- the same of a project
abbrev pub HasNoRustc : ProjectWorkspace → Type 0
HasNoRustc p = KindHasNoRustc p.kind
