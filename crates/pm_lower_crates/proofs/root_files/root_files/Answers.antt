use Rattle.std.proofs.Common.{◌≡◌, ◌+◌, ◌≤◌, ◌∙◌, [], ◌∷◌, ◌++◌, ap, arith, get_or, length, length-append, map, sym, take}
use Rattle.std.proofs.lemmas.Iterator.Consumers.{YieldsList-at, YieldsList-end, YieldsList-from_first, YieldsList-turn}
use Rattle.std.proofs.lemmas.List.{take_all}
use Rattle.std.proofs.lemmas.List.FromFn.{length-range_with_len}
use Rattle.std.proofs.lemmas.Option.{get_or_from_slice_get}
use Rattle.std.specs.List.{range_with_len}
use Rattle.base_text_paths.specs.Arena.{number_of}
use Rattle.pm_cargo.proofs.QueryLemmas.{number_of_turn}
use Rattle.pm_lower_crates.specs.Gathering.{files_of}
use Rattle.pm_lower_crates.proofs.RowLemmas.{map_more}
use Rattle.pm_lower_crates.proofs.root_files.root_files.Goals as goal

pub index-requires : goal.index-requires
index-requires g c =
    let count = length c.args.workspace.now.packages in
    let road = YieldsList-at c.into_iter-id-iterator.ensures.into_iter_gives (YieldsList-from_first number_of (λ left. left) (range_with_len 0 count) c.packages-id-items.ensures) in
    let turn = YieldsList-turn road c.loop-id.yielded _ c.loop-id.yielded_by _ _ c.in-Some.id c.in-Some.is c.next.ensures.steps in
    let at = number_of_turn count (length c.loop-id.yielded) (number_of c.in-Some.id) turn.0 turn.1 in
    omega (arith, at.0, at.1)

pub loop-id-preserved : goal.loop-id-preserved
loop-id-preserved g c =
    let files = g.L.Loader.files c.args.loader.now in
    let w = c.args.workspace.now in
    let k = length c.loop-id.yielded in
    let p = c.index.result.now in
    let road = YieldsList-at c.into_iter-id-iterator.ensures.into_iter_gives (YieldsList-from_first number_of (λ left. left) (range_with_len 0 (length w.packages)) c.packages-id-items.ensures) in
    let turn = YieldsList-turn road c.loop-id.yielded _ c.loop-id.yielded_by _ _ c.in-Some.id c.in-Some.is c.next.ensures.steps in
    let at = number_of_turn (length w.packages) k (number_of c.in-Some.id) turn.0 turn.1 in
    let here : p ≡ get_or w.packages k p = sym (get_or_from_slice_get w.packages (number_of c.in-Some.id) p p c.index.ensures) ∙ ap (λ n. get_or w.packages n p) at.1 in
    let its : c.in_ok-files_of_package.field-0 ≡ files_of files w p = c.in_ok-files_of_package.ensures.files ∙ ap (λ fs. files_of fs w p) c.loop-id.invariant.loader in
    let count : k + 1 ≡ length (c.loop-id.yielded ++ c.in-Some.id ∷ []) = omega (arith, length-append c.loop-id.yielded (c.in-Some.id ∷ [])) in
    record {
      found = c.in_ok-push.ensures.items ∙ ap (λ f. c.loop-id.files.items ++ f ∷ []) its ∙ ap (λ fs. fs ++ files_of files w p ∷ []) c.loop-id.invariant.found
          ∙ map_more (files_of files w) w.packages k p at.0 here ∙ ap (λ n. map (files_of files w) (take n w.packages)) count;
      loader = c.in_ok-files_of_package.ensures.loader ∙ c.loop-id.invariant.loader;
    }

pub returns-clause-files : goal.returns-clause-files
returns-clause-files g c =
    let w = c.args.workspace.now in
    let road = YieldsList-at c.into_iter-id-iterator.ensures.into_iter_gives (YieldsList-from_first number_of (λ left. left) (range_with_len 0 (length w.packages)) c.packages-id-items.ensures) in
    let done = YieldsList-end road c.loop-id.yielded _ c.loop-id.yielded_by _ _ c.in-None.is c.next.ensures.steps in
    let past : length w.packages ≤ length c.loop-id.yielded = omega (arith, done.1, length-range_with_len 0 (length w.packages)) in
    c.loop-id.invariant.found ∙ ap (map (files_of (g.L.Loader.files c.args.loader.now) w)) (take_all (length c.loop-id.yielded) w.packages past)
