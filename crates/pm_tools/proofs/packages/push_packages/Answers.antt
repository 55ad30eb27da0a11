use Rattle.std.proofs.Common.{◌≡◌, ◌∙◌, [], ◌∷◌, ◌++◌, ap, arith, get_or, length, length-append, sym}
use Rattle.std.proofs.lemmas.Iterator.Consumers.{YieldsList-at, YieldsList-end, YieldsList-from_first, YieldsList-turn}
use Rattle.std.proofs.lemmas.List.{append-nil, take_all}
use Rattle.std.proofs.lemmas.List.FromFn.{length-range_with_len}
use Rattle.std.proofs.lemmas.Option.{get_or_from_slice_get}
use Rattle.std.specs.List.{range_with_len}
use Rattle.base_text_paths.specs.Arena.{number_of}
use Rattle.pm_cargo.proofs.QueryLemmas.{number_of_turn}
use Rattle.pm_tools.specs.Packages.{lent_packages}
use Rattle.pm_tools.proofs.SharedLemmas.{pushed-more}
use Rattle.pm_tools.proofs.packages.push_packages.Goals as goal

pub loop-package-init : goal.loop-package-init
loop-package-init c = sym (append-nil (lent_packages c.args.packages.now))

pub index-requires : goal.index-requires
index-requires c =
    let count = length c.args.workspace.now.packages in
    let road = YieldsList-at c.into_iter-package-iterator.ensures.into_iter_gives (YieldsList-from_first number_of (λ left. left) (range_with_len 0 count) c.packages-package-items.ensures) in
    let turn = YieldsList-turn road c.loop-package.yielded _ c.loop-package.yielded_by _ _ c.in-Some.package c.in-Some.is c.next.ensures.steps in
    let at = number_of_turn count (length c.loop-package.yielded) (number_of c.in-Some.package) turn.0 turn.1 in
    omega (arith, at.0, at.1)

pub loop-package-preserved : goal.loop-package-preserved
loop-package-preserved c =
    let packages = c.args.workspace.now.packages in
    let k = length c.loop-package.yielded in
    let p = c.index.result.now in
    let road = YieldsList-at c.into_iter-package-iterator.ensures.into_iter_gives (YieldsList-from_first number_of (λ left. left) (range_with_len 0 (length packages)) c.packages-package-items.ensures) in
    let turn = YieldsList-turn road c.loop-package.yielded _ c.loop-package.yielded_by _ _ c.in-Some.package c.in-Some.is c.next.ensures.steps in
    let at = number_of_turn (length packages) k (number_of c.in-Some.package) turn.0 turn.1 in
    let here : p ≡ get_or packages k p = sym (get_or_from_slice_get packages (number_of c.in-Some.package) p p c.index.ensures) ∙ ap (λ n. get_or packages n p) at.1 in
    pushed-more (lent_packages c.args.packages.now) packages (lent_packages c.loop-package.packages) (lent_packages c.push_package.new.packages) k (length (c.loop-package.yielded ++ c.in-Some.package ∷ [])) p
    at.0 here (omega (arith, length-append c.loop-package.yielded (c.in-Some.package ∷ []))) c.loop-package.invariant c.in_ok-push_package.ensures

pub returns : goal.returns
returns c =
    let packages = c.args.workspace.now.packages in
    let road = YieldsList-at c.into_iter-package-iterator.ensures.into_iter_gives (YieldsList-from_first number_of (λ left. left) (range_with_len 0 (length packages)) c.packages-package-items.ensures) in
    let done = YieldsList-end road c.loop-package.yielded _ c.loop-package.yielded_by _ _ c.in-None.is c.next.ensures.steps in
    c.loop-package.invariant ∙ ap (λ ps. lent_packages c.args.packages.now ++ ps) (take_all (length c.loop-package.yielded) packages (omega (arith, done.1, length-range_with_len 0 (length packages))))
