-- Equality of projects except for what builds gave them. Each part is compared by the equality of its type.
-- The rule is that of rust-analyzer's `ProjectWorkspace::eq_ignore_build_data`.
use Rattle.std.specs.Prelude.{ℕ, Bool, ◌&&◌, false, true, List, bytes_eq, Option, Some, None, Result}
use Rattle.std.specs.Cmp.Lexicographic.{pointwise}
use Rattle.std.specs.Option.{option_eq}
use Rattle.std.specs.Result.{result_eq}
use Rattle.base_text_paths.specs.PathOrder.{path_eq}
use Rattle.base_text_outside.specs.contracts.cfg.CfgAtomPartialEq.TheImpl as atoms
use Rattle.base_values.specs.contracts.version.VersionPartialEq.TheImpl as versions
use Rattle.crate_graph_values.specs.contracts.target.TargetDataPartialEq.TheImpl as machines
use Rattle.crate_graph_values.specs.contracts.target.TargetLoadErrorPartialEq.TheImpl as errors
use Rattle.crate_graph_values.specs.declared.target.TargetData.{TargetData}
use Rattle.crate_graph_values.specs.declared.target.TargetLoadError.{TargetLoadError}
use Rattle.pm_tools.specs.contracts.build_scripts.WorkspaceBuildScriptsPartialEq.TheImpl as scripts
use Rattle.pm_cargo.specs.contracts.cargo_workspace.CargoWorkspacePartialEq.TheImpl as workspaces
use Rattle.pm_cargo_config.specs.contracts.overrides.CfgOverridesPartialEq.TheImpl as overrides
use Rattle.pm_json.specs.contracts.project_json.ProjectJsonPartialEq.TheImpl as documents
use Rattle.pm_lower.specs.ProjectWorkspace.{RustcPart, ScriptPart}
use Rattle.pm_lower.specs.declared.project_workspace.ProjectWorkspace.{ProjectWorkspace}
use Rattle.pm_lower.specs.declared.project_workspace.ProjectWorkspaceKind.{ProjectWorkspaceKind}
use Rattle.pm_lower.specs.declared.project_workspace.ProjectWorkspaceKind.TheVariants.{Cargo, Json, DetachedFile}
use Rattle.pm_tools_ask.specs.contracts.sysroot.SysrootPartialEq.TheImpl as toolchains

-- whether the crates of the compiler are equal with what their builds gave, or the reasons why there are none
abbrev pub equal_rustc : RustcPart → RustcPart → Bool
equal_rustc a b =
    result_eq (λ x y. workspaces.ghosts.eq x.0 y.0 && scripts.ghosts.eq x.1 y.1) (option_eq bytes_eq) a b

-- whether two detached files are equal: one that cargo reads as no project is equal to none
abbrev pub equal_scripts : List ℕ → List ℕ → Option ScriptPart → Option ScriptPart → Bool
equal_scripts a b (Some script) (Some other_script) =
    path_eq a b && workspaces.ghosts.eq script.0 other_script.0
equal_scripts a b script other_script = false

-- whether two kinds of projects are equal, except for the builds and for why the light metadata stands in
abbrev pub equal_kinds : ProjectWorkspaceKind → ProjectWorkspaceKind → Bool
equal_kinds (Cargo a error scripts rustc) (Cargo b other_error other_scripts other_rustc) =
    workspaces.ghosts.eq a b && equal_rustc rustc other_rustc
equal_kinds (Json a) (Json b) = documents.ghosts.eq a b
equal_kinds (DetachedFile a script) (DetachedFile b other_script) = equal_scripts a b script other_script
equal_kinds a b = false

-- whether two machines are equal, or the reasons why nothing is known of them
abbrev pub equal_targets : Result TargetData TargetLoadError → Result TargetData TargetLoadError → Bool
equal_targets a b = result_eq machines.ghosts.eq errors.ghosts.eq a b

-- whether two projects are equal, except for builds, extra directories and whether crates are built for their
-- tests
abbrev pub equal_except_builds : ProjectWorkspace → ProjectWorkspace → Bool
equal_except_builds p q =
    equal_kinds p.kind q.kind
    && (toolchains.ghosts.eq p.sysroot q.sysroot
    && (pointwise atoms.ghosts.eq p.rustc_cfg q.rustc_cfg
    && (option_eq versions.ghosts.eq p.toolchain q.toolchain
    && (equal_targets p.target q.target && overrides.ghosts.eq p.cfg_overrides q.cfg_overrides))))

-- whether a kind of project is equal to itself, which one of a detached file without a Cargo workspace is not
abbrev pub is_equal_to_itself : ProjectWorkspaceKind → Bool
is_equal_to_itself (Cargo cargo error scripts rustc) = true
is_equal_to_itself (Json project) = true
is_equal_to_itself (DetachedFile file None) = false
is_equal_to_itself (DetachedFile file (Some script)) = true
