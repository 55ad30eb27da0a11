-- Equality of contents, for workspaces: they are compared field by field.
use Rattle.std.proofs.Common.{◌≡◌, ◌↔◌, ℕ, List, Bool, true, ◌&&◌, ap}
use Rattle.std.proofs.Math.Bool.{beq}
use Rattle.std.proofs.lemmas.Bool.Decides.{Decides-and}
use Rattle.std.specs.Cmp.{booleans_Decides}
use Rattle.std.specs.Cmp.Lexicographic.{pointwise}
use Rattle.std.specs.Option.{option_eq}
use Rattle.base_values.specs.Equality.{IsContentEquality}
use Rattle.base_text_paths.specs.PathOrder.{path_eq}
use Rattle.base_text_paths.specs.Paths.{IsClean}
use Rattle.base_text_paths.proofs.Equalities.{paths}
use Rattle.crate_graph_values.specs.Laws.{IsContentEqualityOn}
use Rattle.pm_cargo_packages.specs.Laws.{HasCleanManifest, HasCleanRoot}
use Rattle.pm_cargo_packages.specs.declared.package.PackageData.{PackageData}
use Rattle.pm_cargo_packages.specs.declared.target.TargetData.{TargetData}
use Rattle.crate_graph_values.proofs.ContentsOn.{lists_on, options_on}
use Rattle.pm_cargo.specs.Laws.{HasCleanWorkspace}
use Rattle.pm_cargo.specs.Workspace.{Workspace}

-- the variables of an environment
abbrev Variables : Type 0
Variables = List (List ℕ × List ℕ)

module _ (package_eq : PackageData → PackageData → Bool) (target_eq : TargetData → TargetData → Bool) (env_eq : Variables → Variables → Bool) where
  abbrev workspace_eq : Workspace → Workspace → Bool
  workspace_eq x y =
      pointwise package_eq x.packages y.packages && (pointwise target_eq x.targets y.targets && (path_eq x.workspace_root y.workspace_root
      && (path_eq x.target_directory y.target_directory && (option_eq path_eq x.build_directory y.build_directory && (path_eq x.manifest_path y.manifest_path
      && (env_eq x.env y.env && beq x.is_sysroot y.is_sysroot))))))

  module _ (packages : IsContentEqualityOn HasCleanManifest package_eq) (targets : IsContentEqualityOn HasCleanRoot target_eq) (environments : IsContentEquality env_eq) where
    pub workspaces_are_equal : (x y : Workspace) → HasCleanWorkspace x → HasCleanWorkspace y → (workspace_eq x y ≡ true) ↔ (x ≡ y)
    workspaces_are_equal x y p q =
        let all =
        Decides-and _ _ (lists_on HasCleanManifest package_eq packages x.packages y.packages p.packages q.packages)
        (Decides-and _ _ (lists_on HasCleanRoot target_eq targets x.targets y.targets p.targets q.targets)
        (Decides-and _ _ (paths x.workspace_root y.workspace_root p.workspace_root q.workspace_root)
        (Decides-and _ _ (paths x.target_directory y.target_directory p.target_directory q.target_directory)
        (Decides-and _ _ (options_on IsClean path_eq paths x.build_directory y.build_directory p.build_directory q.build_directory)
        (Decides-and _ _ (paths x.manifest_path y.manifest_path p.manifest_path q.manifest_path)
        (Decides-and _ _ (environments x.env y.env) (booleans_Decides x.is_sysroot y.is_sysroot))))))) in (
          λ e.
              let r = all.0 e in
              λ i. record {
                packages = r.0 i;
                targets = r.1.0 i;
                workspace_root = r.1.1.0 i;
                target_directory = r.1.1.1.0 i;
                build_directory = r.1.1.1.1.0 i;
                manifest_path = r.1.1.1.1.1.0 i;
                env = r.1.1.1.1.1.1.0 i;
                is_sysroot = r.1.1.1.1.1.1.1 i;
              },
          λ e.
              all.1 (
                ap (λ w. w.packages) e,
                (ap (λ w. w.targets) e, (ap (λ w. w.workspace_root) e, (ap (λ w. w.target_directory) e, (ap (λ w. w.build_directory) e, (ap (λ w. w.manifest_path) e, (ap (λ w. w.env) e, ap (λ w. w.is_sysroot) e)))))),
              ),
        )
