-- A project is equal to itself, whatever a build gave it.
use Rattle.std.proofs.Common.{◌≡◌, ℕ, List, Bool, true, false, ◌&&◌, refl, Option, Some, None, Result, Ok, Err}
use Rattle.std.specs.Cmp.Lexicographic.{bytes_decides, lists_equiv}
use Rattle.std.specs.Option.{option_eq}
use Rattle.std.specs.Prelude.{bytes_eq}
use Rattle.base_text_paths.specs.PathOrder.{path_eq_equiv}
use Rattle.base_text_outside.specs.contracts.cfg.CfgAtomEq.TheImpl.Laws as atoms
use Rattle.base_values.specs.Version.{Parts}
use Rattle.base_values.specs.contracts.version.VersionEq.TheImpl.Laws as versions
use Rattle.base_values.specs.contracts.version.VersionPartialEq.TheImpl as version
use Rattle.crate_graph_values.specs.contracts.target.TargetDataEq.TheImpl.Laws as machines
use Rattle.crate_graph_values.specs.contracts.target.TargetLoadErrorEq.TheImpl.Laws as errors
use Rattle.crate_graph_values.specs.declared.target.TargetData.{TargetData}
use Rattle.crate_graph_values.specs.declared.target.TargetLoadError.{TargetLoadError}
use Rattle.pm_tools.specs.Outputs.{BuildScripts}
use Rattle.pm_tools.specs.contracts.build_scripts.WorkspaceBuildScriptsEq.TheImpl.Laws as scripts
use Rattle.pm_cargo.specs.contracts.cargo_workspace.CargoWorkspaceEq.TheImpl.Laws as workspaces
use Rattle.pm_cargo_config.specs.contracts.overrides.CfgOverridesEq.TheImpl.Laws as overrides
use Rattle.pm_lower.specs.Builds.{kind_with_build_scripts, with_build_scripts}
use Rattle.pm_json.specs.contracts.project_json.ProjectJsonEq.TheImpl.Laws as documents
use Rattle.pm_lower.specs.Equality.{equal_except_builds, equal_kinds, equal_rustc, equal_targets, is_equal_to_itself}
use Rattle.pm_lower.specs.ProjectWorkspace.{RustcPart}
use Rattle.pm_lower.specs.declared.project_workspace.ProjectWorkspace.{ProjectWorkspace}
use Rattle.pm_lower.specs.declared.project_workspace.ProjectWorkspaceKind.{ProjectWorkspaceKind}
use Rattle.pm_lower.specs.declared.project_workspace.ProjectWorkspaceKind.TheVariants.{Cargo, Json, DetachedFile}
use Rattle.pm_tools_ask.specs.contracts.sysroot.SysrootEq.TheImpl.Laws as toolchains
use Rattle.base_values.proofs.Basics.{and_both}

text_itself : (text : Option (List ℕ)) → option_eq bytes_eq text text ≡ true
text_itself None = refl
text_itself (Some text) = (bytes_decides text text).1 refl

rustc_itself : (part : RustcPart) → equal_rustc part part ≡ true
rustc_itself (Ok rustc) = and_both _ _ (workspaces.laws-law.refl rustc.0) (scripts.laws-law.refl rustc.1)
rustc_itself (Err reason) = text_itself reason

kind_itself : (kind : ProjectWorkspaceKind) (given : BuildScripts) → equal_kinds kind (kind_with_build_scripts kind given) ≡ is_equal_to_itself kind
kind_itself (Cargo cargo error before rustc) given = and_both _ _ (workspaces.laws-law.refl cargo) (rustc_itself rustc)
kind_itself (Json project) given = documents.laws-law.refl project
kind_itself (DetachedFile file None) given = refl
kind_itself (DetachedFile file (Some script)) given = and_both _ _ (path_eq_equiv.refl file) (workspaces.laws-law.refl script.0)

version_itself : (v : Option Parts) → option_eq version.ghosts.eq v v ≡ true
version_itself None = refl
version_itself (Some v) = versions.laws-law.refl v

target_itself : (target : Result TargetData TargetLoadError) → equal_targets target target ≡ true
target_itself (Ok machine) = machines.laws-law.refl machine
target_itself (Err error) = errors.laws-law.refl error

with_rest : (a b is : Bool) → a ≡ is → b ≡ true → (a && b) ≡ is
with_rest a b true p q = and_both a b p q
with_rest a b false p q = λ i. p i && q i

-- a project is equal to itself with what a build gave, where its kind is
pub project_itself : (p : ProjectWorkspace) (given : BuildScripts) → equal_except_builds p (with_build_scripts p given) ≡ is_equal_to_itself p.kind
project_itself p given =
    with_rest _ _ (is_equal_to_itself p.kind) (kind_itself p.kind given)
    (and_both _ _ (toolchains.laws-law.refl p.sysroot)
    (and_both _ _ ((lists_equiv atoms.laws-law).refl p.rustc_cfg)
    (and_both _ _ (version_itself p.toolchain)
    (and_both _ _ (target_itself p.target) (overrides.laws-law.refl p.cfg_overrides)))))
