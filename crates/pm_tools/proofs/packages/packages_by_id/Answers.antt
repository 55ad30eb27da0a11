use Rattle.std.proofs.Common.{◌≡◌, ◌+◌, ◌∙◌, [], ◌∷◌, ◌++◌, ap, arith, length, length-append, string_bytes, sym, take}
use Rattle.std.proofs.lemmas.Iterator.Consumers.{YieldsList-at, YieldsList-end, YieldsList-from_first, YieldsList-turn}
use Rattle.std.proofs.lemmas.List.{length-map}
use Rattle.std.proofs.lemmas.List.FromFn.{length-enumerate_from}
use Rattle.std.specs.Borrow.{Bor}
use Rattle.std.specs.List.{enumerate_from}
use Rattle.base_text_paths.specs.Arena.{number_of}
use Rattle.base_values.specs.ByText.{with_value}
use Rattle.pm_cargo_packages.specs.declared.package.PackageData.{PackageData}
use Rattle.pm_cargo_reading.specs.Nodes.{place_of_package}
use Rattle.pm_tools.specs.Packages.{lent_packages, place_under}
use Rattle.pm_tools.proofs.SharedLemmas.{numbered_turn}
use Rattle.pm_tools.proofs.PackageLemmas.{index-all, index-more, index-none}
use Rattle.pm_tools.proofs.packages.packages_by_id.Goals as goal

pub loop-number-init : goal.loop-number-init
loop-number-init c = λ id. ap (λ ids. place_under ids id) c.empty-by_id.ensures ∙ index-none (lent_packages c.args.packages.now) id

pub loop-number-preserved : goal.loop-number-preserved
loop-number-preserved c =
    let lent = c.args.packages.now in
    let k = length c.loop-number.yielded in
    let p = c.in-Some.package.now.now in
    let count : k + 1 ≡ length (c.loop-number.yielded ++ (c.in-Some.number, c.in-Some.package) ∷ []) = omega (arith, length-append c.loop-number.yielded ((c.in-Some.number, c.in-Some.package) ∷ [])) in
    let road = YieldsList-at c.into_iter-number-iterator.ensures.into_iter_gives (YieldsList-from_first (λ item. (number_of item.0, item.1.now)) (λ left. left) (enumerate_from 0 lent) c.iter-number-items.ensures) in
    let turn = YieldsList-turn road c.loop-number.yielded _ c.loop-number.yielded_by _ _ (c.in-Some.number, c.in-Some.package) c.in-Some.is c.next.ensures.steps in
    let at = numbered_turn lent k (number_of c.in-Some.number) c.in-Some.package.now turn.0 turn.1 in
    let key : string_bytes c.in_ok-id.id ≡ p.id.repr = c.in_ok-id.ensures.ok ∙ c.as_str.ensures ∙ ap (λ i. i.repr) c.get.ensures in
    let more = index-more (lent_packages lent) c.loop-number.by_id k p c.in-Some.number at.0 at.2 at.1 c.loop-number.invariant in
    λ id. ap (λ ids. place_under ids id) (c.in_ok-insert.ensures.ok ∙ ap (λ t. with_value t c.in-Some.number c.loop-number.by_id) key)
    ∙ more id
    ∙ ap (λ n. place_of_package (take n (lent_packages lent)) id) count

pub returns : goal.returns
returns c =
    let lent = c.args.packages.now in
    let road = YieldsList-at c.into_iter-number-iterator.ensures.into_iter_gives (YieldsList-from_first (λ item. (number_of item.0, item.1.now)) (λ left. left) (enumerate_from 0 lent) c.iter-number-items.ensures) in
    let done = YieldsList-end road c.loop-number.yielded _ c.loop-number.yielded_by _ _ c.in-None.is c.next.ensures.steps in
    index-all (lent_packages lent) c.loop-number.by_id (length c.loop-number.yielded)
    (done.1 ∙ length-enumerate_from 0 lent ∙ sym (length-map lent (λ (q : Bor PackageData). q.now))) c.loop-number.invariant
