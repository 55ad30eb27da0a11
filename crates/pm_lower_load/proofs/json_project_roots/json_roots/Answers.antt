use Rattle.std.proofs.Common.{◌≡◌, ◌<◌, ◌≤◌, ◌∙◌, ap, arith, get_or, length, map}
use Rattle.std.proofs.lemmas.Iterator.{items_from_collect}
use Rattle.std.proofs.lemmas.List.{take_all}
use Rattle.pm_json.specs.Queries.{crates_in}
use Rattle.pm_lower_load.specs.JsonRoots.{distinct_roots, json_crate_root, json_roots, with_distinct_root}
use Rattle.pm_lower_load.proofs.JsonRootLemmas.{distinct_more, gives_all}
use Rattle.pm_lower_load.proofs.json_project_roots.json_roots.Goals as goal

pub loop-krate-preserved : goal.loop-krate-preserved
loop-krate-preserved c =
    let crates = crates_in c.args.project.now in
    let extra = c.args.extra_includes.now in
    let same : c.as_slice-krate-items.result.now ≡ crates = c.as_slice-krate-items.ensures in
    let within : c.loop-krate.krate-index < length crates = omega (arith, c.loop-krate-test.true, ap length same) in
    let here : c.krate-item.result ≡ get_or crates c.loop-krate.krate-index c.krate-item.result =
    c.krate-item.is ∙ ap (λ ks. get_or ks c.loop-krate.krate-index c.krate-item.result) same in
    c.in_ok-insert.ensures.keys ∙ ap (with_distinct_root c.loop-krate.roots.keys) c.in_ok-root_of_crate.ensures ∙ ap (λ keys. with_distinct_root keys (json_crate_root extra c.krate-item.result)) c.loop-krate.invariant
    ∙ distinct_more extra crates c.loop-krate.krate-index c.krate-item.result within here

pub returns : goal.returns
unfolding json_roots
returns c =
    let crates = crates_in c.args.project.now in
    let extra = c.args.extra_includes.now in
    let past : length crates ≤ c.loop-krate.krate-index = omega (arith, c.loop-krate-test.false, ap length c.as_slice-krate-items.ensures) in
    let given = c.into_iter.ensures.into_iter_gives in
    let all : c.in_ok-collect.field-0.items ≡ c.loop-krate.roots.keys = rw c.in_ok-collect.was at (items_from_collect c.collect.result c.collect.ensures.ran (gives_all _ _ given.0)) in
    c.new.ensures ∙ all ∙ c.loop-krate.invariant ∙ ap (λ ks. distinct_roots (map (json_crate_root extra) ks)) (take_all c.loop-krate.krate-index crates past)
