use Rattle.std.proofs.Common.{◌≡◌, ◌+◌, ◌∙◌, [], ◌∷◌, ◌++◌, Some, None, ap, arith, get_or, length, length-append, option_copied, refl, sym}
use Rattle.std.proofs.lemmas.Iterator.Consumers.{YieldsList-at, YieldsList-end, YieldsList-from_first, YieldsList-turn}
use Rattle.std.proofs.lemmas.List.FromFn.{length-range_with_len}
use Rattle.std.proofs.lemmas.Option.{get_or_from_slice_get}
use Rattle.std.specs.FinMap.{insert}
use Rattle.std.specs.List.{range_with_len}
use Rattle.base_text_paths.specs.Arena.{number_of}
use Rattle.cargo_meta_values.specs.declared.names.PackageId.{PackageId}
use Rattle.pm_cargo.proofs.QueryLemmas.{number_of_turn}
use Rattle.pm_tools.specs.SharedBuild.{output_of_id}
use Rattle.pm_tools.proofs.SharedLemmas.{given-all, given-more}
use Rattle.pm_tools.proofs.shared_build.SharedBuild.outputs_by_id.Goals as goal

pub index-requires : goal.index-requires
index-requires c =
    let count = length c.args.workspace.now.packages in
    let road = YieldsList-at c.into_iter-package-iterator.ensures.into_iter_gives (YieldsList-from_first number_of (λ left. left) (range_with_len 0 count) c.packages-package-items.ensures) in
    let turn = YieldsList-turn road c.loop-package.yielded _ c.loop-package.yielded_by _ _ c.in-Some.package c.in-Some.is c.next.ensures.steps in
    let at = number_of_turn count (length c.loop-package.yielded) (number_of c.in-Some.package) turn.0 turn.1 in
    omega (arith, at.0, at.1)

pub loop-package-preserved-in-Some-output_of_id : goal.loop-package-preserved-in-Some-output_of_id
loop-package-preserved-in-Some-output_of_id c =
    let all = c.args.self.now.packages in
    let outputs = c.args.self.now.scripts.outputs in
    let packages = c.args.workspace.now.packages in
    let k = length c.loop-package.yielded in
    let p = c.index.result.now in
    let road = YieldsList-at c.into_iter-package-iterator.ensures.into_iter_gives (YieldsList-from_first number_of (λ left. left) (range_with_len 0 (length packages)) c.packages-package-items.ensures) in
    let turn = YieldsList-turn road c.loop-package.yielded _ c.loop-package.yielded_by _ _ c.in-Some.package c.in-Some.is c.next.ensures.steps in
    let at = number_of_turn (length packages) k (number_of c.in-Some.package) turn.0 turn.1 in
    let here : p ≡ get_or packages k p = sym (get_or_from_slice_get packages (number_of c.in-Some.package) p p c.index.ensures) ∙ ap (λ n. get_or packages n p) at.1 in
    let count : length (c.loop-package.yielded ++ c.in-Some.package ∷ []) ≡ k + 1 = omega (arith, length-append c.loop-package.yielded (c.in-Some.package ∷ [])) in
    let of_id = sym (c.output_of_id.ensures ∙ ap (λ (i : PackageId). output_of_id all outputs i.repr) c.get.ensures) in
    let output = of_id ∙ ap option_copied c.in-Some-output_of_id.is ∙ ap Some (sym c.in_ok-try_clone.ensures) in
    given-more all outputs packages c.loop-package.outputs c.insert.new.self k (length (c.loop-package.yielded ++ c.in-Some.package ∷ [])) p (Some c.in_ok-try_clone.field-0) at.0 here count output
    (c.in_ok-insert.ensures.put ∙ ap (λ n. insert c.loop-package.outputs n c.in_ok-try_clone.field-0) at.1) c.loop-package.invariant

pub loop-package-preserved : goal.loop-package-preserved
loop-package-preserved c =
    let all = c.args.self.now.packages in
    let outputs = c.args.self.now.scripts.outputs in
    let packages = c.args.workspace.now.packages in
    let k = length c.loop-package.yielded in
    let p = c.index.result.now in
    let road = YieldsList-at c.into_iter-package-iterator.ensures.into_iter_gives (YieldsList-from_first number_of (λ left. left) (range_with_len 0 (length packages)) c.packages-package-items.ensures) in
    let turn = YieldsList-turn road c.loop-package.yielded _ c.loop-package.yielded_by _ _ c.in-Some.package c.in-Some.is c.next.ensures.steps in
    let at = number_of_turn (length packages) k (number_of c.in-Some.package) turn.0 turn.1 in
    let here : p ≡ get_or packages k p = sym (get_or_from_slice_get packages (number_of c.in-Some.package) p p c.index.ensures) ∙ ap (λ n. get_or packages n p) at.1 in
    let count : length (c.loop-package.yielded ++ c.in-Some.package ∷ []) ≡ k + 1 = omega (arith, length-append c.loop-package.yielded (c.in-Some.package ∷ [])) in
    let of_id = sym (c.output_of_id.ensures ∙ ap (λ (i : PackageId). output_of_id all outputs i.repr) c.get.ensures) in
    given-more all outputs packages c.loop-package.outputs c.loop-package.outputs k (length (c.loop-package.yielded ++ c.in-Some.package ∷ [])) p None at.0 here count (of_id ∙ ap option_copied c.in_default.is)
    refl c.loop-package.invariant

pub returns : goal.returns
returns c =
    let packages = c.args.workspace.now.packages in
    let road = YieldsList-at c.into_iter-package-iterator.ensures.into_iter_gives (YieldsList-from_first number_of (λ left. left) (range_with_len 0 (length packages)) c.packages-package-items.ensures) in
    let done = YieldsList-end road c.loop-package.yielded _ c.loop-package.yielded_by _ _ c.in-None.is c.next.ensures.steps in
    given-all c.args.self.now.packages c.args.self.now.scripts.outputs packages c.loop-package.outputs (length c.loop-package.yielded) (omega (arith, done.1, length-range_with_len 0 (length packages))) c.loop-package.invariant
