use Rattle.std.proofs.Common.{◌≡◌, ◌<◌, ap, arith, get_or, length, sym, ◌∙◌}
use Rattle.std.proofs.lemmas.List.{get_or_default}
use Rattle.std.proofs.lemmas.Option.{get_or_from_slice_get}
use Rattle.pm_cargo_members.specs.Members.{member_graph, with_all_member_deps, with_member_deps}
use Rattle.pm_cargo_members.proofs.MemberLemmas.{with_member_deps-member, with_member_deps-more, with_member_deps-passed}
use Rattle.pm_cargo_packages.proofs.UpdateLemmas.{changed_upto-all}
use Rattle.pm_cargo_members.proofs.members.give_lists.Goals.{then-packages-place+in_ok-packages+in-Some-1, then-packages-place+in_ok-packages+in-None-1, else-packages-place}
use Rattle.pm_cargo_members.proofs.members.give_lists.Goals as goal

pub loop-place-preserved : goal.loop-place-preserved
loop-place-preserved c =
    let packages = c.args.packages.now in
    let now = c.loop-place.packages in
    let place = c.loop-place.place in
    let graph = member_graph packages in
    let within : place < length now = omega (arith, c.loop-place-test.true, c.loop-place.auto.packages) in
    elim c.if-packages-place.branch [
      | then-packages-place+in_ok-packages+in-Some-1 w ↦
          let first = c.index-packages-place.result in
          let q = w.index-packages-place-then-packages-place.result in
          let p = get_or now place q in
          let same : get_or now place first ≡ p = get_or_default now place first q within in
          let list = w.in_ok-packages.ensures ∙ w.index-lists-place.is ∙ get_or_from_slice_get c.args.lists.now place _ w.index-lists-place.result (c.requires.there place c.loop-place-test.true) in
          w.packages-is ∙ with_member_deps-more packages now graph place c.loop-place.invariant within p _ (get_or_default now place q p within)
          (with_member_deps-member graph place p w.in_ok-packages.field-0 (ap (λ x. x.is_member) (sym same) ∙ w.if-packages-place.true) list)
      | then-packages-place+in_ok-packages+in-None-1 w ↦
          let first = c.index-packages-place.result in
          let q = w.index-packages-place-then-packages-place.result in
          let p = get_or now place q in
          let same : get_or now place first ≡ p = get_or_default now place first q within in
          let list = w.in_ok-packages.ensures ∙ w.index-lists-place.is ∙ get_or_from_slice_get c.args.lists.now place _ w.index-lists-place.result (c.requires.there place c.loop-place-test.true) in
          w.packages-is ∙ with_member_deps-more packages now graph place c.loop-place.invariant within p _ (get_or_default now place q p within)
          (with_member_deps-member graph place p w.in_ok-packages.field-0 (ap (λ x. x.is_member) (sym same) ∙ w.if-packages-place.true) list)
      | else-packages-place w ↦
          let first = c.index-packages-place.result in
          let p = get_or now place first in
          w.packages-is ∙ with_member_deps-passed packages now graph place c.loop-place.invariant within p (get_or_default now place first p within) w.if-packages-place.false
    ]

pub returns : goal.returns
unfolding with_all_member_deps
returns c =
    let packages = c.args.packages.now in
    c.loop-place.invariant ∙ changed_upto-all (with_member_deps (member_graph packages)) 0 c.loop-place.place packages c.loop-place-test.false
