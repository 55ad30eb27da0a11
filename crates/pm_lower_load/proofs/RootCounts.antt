-- How many roots a project has: one for each package of a workspace, and at most one for each crate of a JSON project.
use Rattle.std.proofs.Common.{◌≡◌, ℕ, ◌+◌, ◌≤◌, List, [], ◌∷◌, ◌++◌, Option, fold, length, map, ◌∙◌, arith, length-append}
use Rattle.std.specs.List.{list_any, enumerate_from}
use Rattle.std.proofs.lemmas.Bool.{cond_both}
use Rattle.std.proofs.lemmas.List.{length-map}
use Rattle.pm_json.specs.Queries.{crates_in}
use Rattle.pm_json.specs.declared.project_json.ProjectJson.{ProjectJson}
use Rattle.pm_lower_load.specs.JsonRoots.{root_eq, json_crate_root, json_roots, with_distinct_root}
use Rattle.pm_lower_load.specs.declared.package_root.PackageRoot.{PackageRoot}
use Rattle.std.proofs.lemmas.List.FromFn.{length-enumerate_from}
use Rattle.pm_cargo.specs.Workspace.{Workspace}
use Rattle.pm_lower_load.specs.Roots.{package_root, roots_of}

-- there are as many roots as packages
pub as_many : (w : Workspace) (out_dir : ℕ → Option (List ℕ)) (extra : List (List ℕ)) → length (roots_of w out_dir extra) ≡ length w.packages
as_many w out_dir extra = length-map (enumerate_from 0 w.packages) (λ p. package_root w (out_dir p.0) extra p.1) ∙ length-enumerate_from 0 w.packages

-- distinct roots are no more than those that are put in
few_fold : (before roots : List PackageRoot) → length (fold with_distinct_root before roots) ≤ length before + length roots
few_fold before [] = omega arith
few_fold before (root ∷ roots) =
    let rest = few_fold (with_distinct_root before root) roots in
    let one : length (with_distinct_root before root) ≤ length before + 1 =
    cond_both (list_any (root_eq root) before) before (before ++ root ∷ []) (λ (rs : List PackageRoot). length rs ≤ length before + 1)
    (λ there. omega arith) (λ new. let count = length-append before (root ∷ []) in omega (arith, count)) in
    omega (arith, rest, one)

-- the roots of a project are no more than its crates
pub few_distinct : (project : ProjectJson) (extra : List (List ℕ)) → length (json_roots project extra) ≤ length (crates_in project)
unfolding json_roots
few_distinct project extra =
    let count = length-map (crates_in project) (json_crate_root extra) in
    let few = few_fold [] (map (json_crate_root extra) (crates_in project)) in
    omega (arith, few, count)
