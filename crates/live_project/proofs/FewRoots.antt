-- What every project keeps, after a build too.
use Rattle.std.proofs.Common.{◌≡◌, ℕ, suc, ◌≤◌, ◌^◌, ◌∙◌, List, None, Some, ap, length, length-append, refl, sym, arith}
use Rattle.std.proofs.lemmas.List.{length-map}
use Rattle.live_config.specs.Config.{Fits}
use Rattle.pm_tools.specs.Outputs.{BuildScripts}
use Rattle.pm_lower.specs.Builds.{with_build_scripts, kind_with_build_scripts}
use Rattle.pm_lower.specs.ToRoots.{KindHasNoRustc, kind_roots, out_dir_at, project_roots, sysroot_roots}
use Rattle.pm_lower.specs.declared.project_workspace.ProjectWorkspace.{ProjectWorkspace}
use Rattle.pm_lower.specs.declared.project_workspace.ProjectWorkspaceKind.{ProjectWorkspaceKind}
use Rattle.pm_lower.specs.declared.project_workspace.ProjectWorkspaceKind.TheVariants.{Cargo, Json, DetachedFile}
use Rattle.live_project.specs.Build.{with_build}
use Rattle.live_project.specs.Project.{IsLoaded, ProjectContent}
use Rattle.live_project.specs.Roots.{file_root, roots_of_project}
use Rattle.live_project.specs.declared.sources.Sources.{Sources}
use Rattle.pm_lower_load.proofs.RootCounts.{as_many}
use Rattle.pm_lower.specs.Small.{IsSmall}

pub is_loaded : (s : Sources) (workspace : ProjectWorkspace) → Fits s.config → IsSmall s.config.limits workspace → IsLoaded (record { sources = s; workspace = workspace })
is_loaded s workspace fits small =
    let count : length (roots_of_project workspace) ≡ length (project_roots workspace) = length-map (project_roots workspace) file_root in
    let most : s.config.limits.packages ≤ 2 ^ 16 = fits.limits.packages in
    let most_crates : s.config.limits.crates ≤ 2 ^ 18 = fits.limits.crates in
    record { no_rustc = small.no_rustc; few = omega (arith, count, small.few, most, most_crates) }

-- outputs are no crates of the compiler, and no packages
no_rustc_with : (kind : ProjectWorkspaceKind) (scripts : BuildScripts) → KindHasNoRustc kind → KindHasNoRustc (kind_with_build_scripts kind scripts)
no_rustc_with (Cargo cargo error old rustc) scripts none = none
no_rustc_with (Json project) scripts none = none
no_rustc_with (DetachedFile file script) scripts none = none

roots_with : (kind : ProjectWorkspaceKind) (scripts : BuildScripts) (extra : List (List ℕ)) → length (kind_roots (kind_with_build_scripts kind scripts) extra) ≡ length (kind_roots kind extra)
roots_with (Cargo cargo error old rustc) scripts extra = as_many cargo (out_dir_at scripts) extra ∙ sym (as_many cargo (out_dir_at old) extra)
roots_with (Json project) scripts extra = refl
roots_with (DetachedFile file None) scripts extra = refl
roots_with (DetachedFile file (Some script)) scripts extra = ap suc (as_many script.0 (out_dir_at scripts) extra ∙ sym (as_many script.0 (out_dir_at script.1) extra))

-- the same holds with the outputs of a build
pub is_loaded_with : (p : ProjectContent) (scripts : BuildScripts) → IsLoaded p → IsLoaded (with_build p scripts)
is_loaded_with p scripts loaded =
    let w = p.workspace in
    let new = with_build_scripts w scripts in
    let roots = roots_with w.kind scripts w.extra_includes in
    let before = length-append (kind_roots w.kind w.extra_includes) (sysroot_roots w.sysroot) in
    let after = length-append (kind_roots new.kind w.extra_includes) (sysroot_roots w.sysroot) in
    let counted = length-map (project_roots w) file_root in
    let counted_after = length-map (project_roots new) file_root in
    record { no_rustc = no_rustc_with w.kind scripts loaded.no_rustc; few = omega (arith, roots, before, after, counted, counted_after, loaded.few) }
