use Rattle.std.proofs.Common.{◌≡◌, ◌+◌, ◌<◌, ◌≤◌, ◌∙◌, [], ◌∷◌, ◌++◌, ap, arith, drop, get_or, length, length-append, subst, sym}
use Rattle.std.proofs.lemmas.Iterator.Consumers.{YieldsList-at, YieldsList-end, YieldsList-from_first, YieldsList-turn}
use Rattle.std.proofs.lemmas.List.{drop_all}
use Rattle.std.proofs.lemmas.List.FromFn.{length-range_with_len}
use Rattle.std.proofs.lemmas.Option.{get_or_from_slice_get}
use Rattle.std.proofs.lemmas.Result.{err_from_is_err_and}
use Rattle.std.specs.List.{range_with_len}
use Rattle.base_text_paths.specs.Arena.{number_of}
use Rattle.pm_cargo.proofs.QueryLemmas.{number_of_turn}
use Rattle.pm_lower_crates.specs.Facts.{facts_of}
use Rattle.pm_lower_crates.specs.Gathering.{owner_by}
use Rattle.pm_lower_crates.proofs.RowLemmas.{GathersAll, drop_next, gathers_all_packages, gathers_full_package, gathers_package, limit_weaker}
use Rattle.pm_lower_crates.proofs.gathering.add_rows.Goals as goal

pub index-of-requires : goal.index-of-requires
index-of-requires g c =
    let count = length c.args.project.now.workspace.now.packages in
    let road = YieldsList-at c.into_iter-id-iterator.ensures.into_iter_gives (YieldsList-from_first number_of (λ left. left) (range_with_len 0 count) c.packages-id-items.ensures) in
    let turn = YieldsList-turn road c.loop-id.yielded _ c.loop-id.yielded_by _ _ c.in-Some.id c.in-Some.is c.next.ensures.steps in
    let at = number_of_turn count (length c.loop-id.yielded) (number_of c.in-Some.id) turn.0 turn.1 in
    omega (arith, at.0, at.1)

pub bounds-files-into_raw : goal.bounds-files-into_raw
bounds-files-into_raw g c =
    let count = length c.args.project.now.workspace.now.packages in
    let road = YieldsList-at c.into_iter-id-iterator.ensures.into_iter_gives (YieldsList-from_first number_of (λ left. left) (range_with_len 0 count) c.packages-id-items.ensures) in
    let turn = YieldsList-turn road c.loop-id.yielded _ c.loop-id.yielded_by _ _ c.in-Some.id c.in-Some.is c.next.ensures.steps in
    let at = number_of_turn count (length c.loop-id.yielded) (number_of c.in-Some.id) turn.0 turn.1 in
    omega (arith, at.0, at.1, c.into_raw.ensures, c.requires.files)

pub returns-in_err-add_package-clause-full : goal.returns-in_err-add_package-clause-full
returns-in_err-add_package-clause-full g c =
    let w = c.args.project.now.workspace.now in
    let facts = facts_of g.O.BuildOutputs.output_at g.O.BuildOutputs.is_failed c.args.project.now.facts.now in
    let files = c.args.files.now in
    let k = length c.loop-id.yielded in
    let of = c.index-of.result.now in
    let its = c.as_slice-files.result.now in
    let p = err_from_is_err_and c.from_residual.result c.from_residual.ensures.1 in
    let road = YieldsList-at c.into_iter-id-iterator.ensures.into_iter_gives (YieldsList-from_first number_of (λ left. left) (range_with_len 0 (length w.packages)) c.packages-id-items.ensures) in
    let turn = YieldsList-turn road c.loop-id.yielded _ c.loop-id.yielded_by _ _ c.in-Some.id c.in-Some.is c.next.ensures.steps in
    let at = number_of_turn (length w.packages) k (number_of c.in-Some.id) turn.0 turn.1 in
    let here : of ≡ get_or w.packages k of = sym (get_or_from_slice_get w.packages (number_of c.in-Some.id) of of c.index-of.ensures) ∙ ap (λ n. get_or w.packages n of) at.1 in
    let there : its ≡ get_or files k its = c.as_slice-files.ensures ∙ c.index-files-into_raw.is ∙ ap (λ n. get_or files n c.index-files-into_raw.result) (c.into_raw.ensures ∙ at.1) ∙ ap (get_or files k) (sym c.as_slice-files.ensures) in
    let before : GathersAll facts w w.packages files k (of ∷ drop (k + 1) w.packages) (its ∷ drop (k + 1) files) c.args.graph.now c.loop-id.graph c.loop-id.owners.items =
    subst (λ r. GathersAll facts w w.packages files k (of ∷ drop (k + 1) w.packages) r c.args.graph.now c.loop-id.graph c.loop-id.owners.items) (drop_next files k its (omega (arith, at.0, c.requires.files)) there)
    (subst (λ r. GathersAll facts w w.packages files k r (drop k files) c.args.graph.now c.loop-id.graph c.loop-id.owners.items) (drop_next w.packages k of at.0 here) c.loop-id.invariant.gathered) in
    rw (p.1, p.2) (limit_weaker c.in_err-add_package.field-0.0 _ _
    (λ full. gathers_full_package facts w w.packages files k (drop (k + 1) w.packages) (drop (k + 1) files) c.args.graph.now c.loop-id.graph c.loop-id.owners.items of its
    (subst (λ p. c.loop-id.graph.limit < length c.loop-id.graph.crates + length (owner_by w p (length c.loop-id.graph.crates) of its).rows) at.1 full) before)
    c.in_err-add_package.ensures.full)

pub loop-id-preserved : goal.loop-id-preserved
loop-id-preserved g c =
    let w = c.args.project.now.workspace.now in
    let facts = facts_of g.O.BuildOutputs.output_at g.O.BuildOutputs.is_failed c.args.project.now.facts.now in
    let files = c.args.files.now in
    let k = length c.loop-id.yielded in
    let of = c.index-of.result.now in
    let its = c.as_slice-files.result.now in
    let road = YieldsList-at c.into_iter-id-iterator.ensures.into_iter_gives (YieldsList-from_first number_of (λ left. left) (range_with_len 0 (length w.packages)) c.packages-id-items.ensures) in
    let turn = YieldsList-turn road c.loop-id.yielded _ c.loop-id.yielded_by _ _ c.in-Some.id c.in-Some.is c.next.ensures.steps in
    let at = number_of_turn (length w.packages) k (number_of c.in-Some.id) turn.0 turn.1 in
    let here : of ≡ get_or w.packages k of = sym (get_or_from_slice_get w.packages (number_of c.in-Some.id) of of c.index-of.ensures) ∙ ap (λ n. get_or w.packages n of) at.1 in
    let there : its ≡ get_or files k its = c.as_slice-files.ensures ∙ c.index-files-into_raw.is ∙ ap (λ n. get_or files n c.index-files-into_raw.result) (c.into_raw.ensures ∙ at.1) ∙ ap (get_or files k) (sym c.as_slice-files.ensures) in
    let before : GathersAll facts w w.packages files k (of ∷ drop (k + 1) w.packages) (its ∷ drop (k + 1) files) c.args.graph.now c.loop-id.graph c.loop-id.owners.items =
    subst (λ r. GathersAll facts w w.packages files k (of ∷ drop (k + 1) w.packages) r c.args.graph.now c.loop-id.graph c.loop-id.owners.items) (drop_next files k its (omega (arith, at.0, c.requires.files)) there)
    (subst (λ r. GathersAll facts w w.packages files k r (drop k files) c.args.graph.now c.loop-id.graph c.loop-id.owners.items) (drop_next w.packages k of at.0 here) c.loop-id.invariant.gathered) in
    let adds = c.in_ok-add_package.ensures.added in
    let new = c.add_package.new.graph in
    let more = c.push.new.self.items in
    let count : k + 1 ≡ length (c.loop-id.yielded ++ c.in-Some.id ∷ []) = omega (arith, length-append c.loop-id.yielded (c.in-Some.id ∷ [])) in
    record {
      gathered = subst (λ n. GathersAll facts w w.packages files n (drop n w.packages) (drop n files) c.args.graph.now new more) count
          (gathers_package facts w w.packages files k (drop (k + 1) w.packages) (drop (k + 1) files) c.args.graph.now c.loop-id.graph new c.loop-id.owners.items more of its
          c.in_ok-add_package.field-0 (c.in_ok-add_package.ensures.owner ∙ ap (λ p. owner_by w p (length c.loop-id.graph.crates) of its) at.1) adds c.in_ok-push.ensures.items before);
      within = subst (λ n. length new.crates ≤ n) (sym adds.limit) (adds.within c.loop-id.invariant.within);
    }

pub returns-clause-owners : goal.returns-clause-owners
returns-clause-owners g c =
    let w = c.args.project.now.workspace.now in
    let facts = facts_of g.O.BuildOutputs.output_at g.O.BuildOutputs.is_failed c.args.project.now.facts.now in
    let files = c.args.files.now in
    let k = length c.loop-id.yielded in
    let road = YieldsList-at c.into_iter-id-iterator.ensures.into_iter_gives (YieldsList-from_first number_of (λ left. left) (range_with_len 0 (length w.packages)) c.packages-id-items.ensures) in
    let done = YieldsList-end road c.loop-id.yielded _ c.loop-id.yielded_by _ _ c.in-None.is c.next.ensures.steps in
    let past : length w.packages ≤ k = omega (arith, done.1, length-range_with_len 0 (length w.packages)) in
    gathers_all_packages facts w w.packages files k (drop k files) c.args.graph.now c.loop-id.graph c.loop-id.owners.items
    (subst (λ r. GathersAll facts w w.packages files k r (drop k files) c.args.graph.now c.loop-id.graph c.loop-id.owners.items) (drop_all k w.packages past) c.loop-id.invariant.gathered)
