use Rattle.std.proofs.Common.{List, ap, find, flat_map, sym, ◌∙◌}
use Rattle.base_text_paths.specs.AbsPath.{abs_text}
use Rattle.pm_cargo_packages.specs.declared.package.PackageData.{PackageData}
use Rattle.pm_cargo.specs.Queries.{has_root, member_targets}
use Rattle.pm_cargo.proofs.QueryLemmas.{found-first, found-none}
use Rattle.pm_cargo.proofs.cargo_workspace.CargoWorkspace.target_by_root.Goals as goal
use Rattle.base_values.proofs.Basics.{none_is}

pub returns-then-is_some : goal.returns-then-is_some
returns-then-is_some c =
    let p = has_root c.args.self.now (abs_text c.args.root) in
    let packages = c.package_data-package-items.result.now in
    found-first p member_targets packages c.loop-package.package-index c.package-item.result c.target_among-found.result c.loop-package-test.true c.package-item.is c.loop-package.invariant
    (c.target_among-found.ensures ∙ ap (find p) c.member_targets.ensures) (sym c.is_some.ensures ∙ c.if-is_some.true)
    ∙ ap (λ (l : List PackageData). find p (flat_map member_targets l)) c.package_data-package-items.ensures

pub loop-package-preserved : goal.loop-package-preserved
loop-package-preserved c =
    let p = has_root c.args.self.now (abs_text c.args.root) in
    let packages = c.package_data-package-items.result.now in
    found-none p member_targets packages c.loop-package.package-index c.package-item.result c.loop-package-test.true c.package-item.is c.loop-package.invariant
    (ap (find p) (sym c.member_targets.ensures) ∙ sym c.target_among-found.ensures ∙ none_is c.target_among-found.result (sym c.is_some.ensures ∙ c.if-is_some.false))
