use Rattle.std.proofs.Common.{◌≡◌, ◌+◌, ◌∙◌, [], ◌∷◌, ◌++◌, ap, arith, get_or, length, length-append, sym, take}
use Rattle.std.proofs.lemmas.Iterator.Consumers.{YieldsList-at, YieldsList-end, YieldsList-from_first, YieldsList-turn}
use Rattle.std.proofs.lemmas.List.{length-map, take_all}
use Rattle.std.proofs.lemmas.List.FromFn.{length-enumerate_from}
use Rattle.std.specs.Borrow.{Bor}
use Rattle.std.specs.List.{enumerate_from}
use Rattle.base_text_paths.specs.Arena.{number_of}
use Rattle.pm_cargo_packages.specs.declared.package.PackageData.{PackageData}
use Rattle.pm_tools.specs.Packages.{lent_packages}
use Rattle.pm_tools.proofs.SharedLemmas.{numbered_turn, pushed-more}
use Rattle.pm_tools.proofs.packages.copy_packages.Goals as goal

pub loop-package-preserved : goal.loop-package-preserved
loop-package-preserved c =
    let lent = c.args.packages.now in
    let k = length c.loop-package.yielded in
    let p = c.in-Some.package.now.now in
    let road = YieldsList-at c.into_iter-package-iterator.ensures.into_iter_gives (YieldsList-from_first (λ item. (number_of item.0, item.1.now)) (λ left. left) (enumerate_from 0 lent) c.iter-package-items.ensures) in
    let turn = YieldsList-turn road c.loop-package.yielded _ c.loop-package.yielded_by _ _ (c.in-Some.field-0-0, c.in-Some.package) c.in-Some.is c.next.ensures.steps in
    let at = numbered_turn lent k (number_of c.in-Some.field-0-0) c.in-Some.package.now turn.0 turn.1 in
    pushed-more [] (lent_packages lent) (lent_packages c.loop-package.copy) (lent_packages c.push_package.new.packages) k (length (c.loop-package.yielded ++ (c.in-Some.field-0-0, c.in-Some.package) ∷ [])) p
    at.0 at.2 (omega (arith, length-append c.loop-package.yielded ((c.in-Some.field-0-0, c.in-Some.package) ∷ []))) c.loop-package.invariant c.in_ok-push_package.ensures

pub returns : goal.returns
returns c =
    let lent = c.args.packages.now in
    let road = YieldsList-at c.into_iter-package-iterator.ensures.into_iter_gives (YieldsList-from_first (λ item. (number_of item.0, item.1.now)) (λ left. left) (enumerate_from 0 lent) c.iter-package-items.ensures) in
    let done = YieldsList-end road c.loop-package.yielded _ c.loop-package.yielded_by _ _ c.in-None.is c.next.ensures.steps in
    c.loop-package.invariant ∙ take_all (length c.loop-package.yielded) (lent_packages lent)
    (omega (arith, done.1, length-enumerate_from 0 lent, length-map lent (λ (q : Bor PackageData). q.now)))
