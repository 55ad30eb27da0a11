use Rattle.std.proofs.Common.{◌≡◌, ◌<◌, ◌∙◌, ap, arith, get_or, length, map, subst, sym, take}
use Rattle.std.specs.List.{list_all}
use Rattle.std.proofs.lemmas.List.{take_all}
use Rattle.std.proofs.lemmas.List.Folds.{list_all-map}
use Rattle.base_text_paths.specs.Arena.{number_of}
use Rattle.graph_base.specs.Kept.{is_named}
use Rattle.crate_graph.specs.Graph.{target_of}
use Rattle.crate_graph.proofs.PruneLemmas.{fails_at, pass_more}
use Rattle.crate_graph.proofs.graph.prune.names_all.Goals as goal

pub returns-then-not-names : goal.returns-then-not-names
returns-then-not-names c =
    let keep = map number_of c.args.to_keep.now in
    let deps = c.args.krate.now.basic.dependencies in
    let within : c.loop-dep.dep-index < length c.args.krate.now.basic.dependencies = subst (λ ds. c.loop-dep.dep-index < length ds) c.as_slice-dep-items.ensures c.loop-dep-test.true in
    let at : c.dep-item.result ≡ get_or c.args.krate.now.basic.dependencies c.loop-dep.dep-index c.dep-item.result = subst (λ ds. c.dep-item.result ≡ get_or ds c.loop-dep.dep-index c.dep-item.result) c.as_slice-dep-items.ensures c.dep-item.is in
    sym (fails_at keep deps c.loop-dep.dep-index c.dep-item.result within at (sym c.names.ensures ∙ c.if-not-names.true))

pub loop-dep-preserved : goal.loop-dep-preserved
loop-dep-preserved c =
    let keep = map number_of c.args.to_keep.now in
    let deps = c.args.krate.now.basic.dependencies in
    let within : c.loop-dep.dep-index < length c.args.krate.now.basic.dependencies = subst (λ ds. c.loop-dep.dep-index < length ds) c.as_slice-dep-items.ensures c.loop-dep-test.true in
    let at : c.dep-item.result ≡ get_or c.args.krate.now.basic.dependencies c.loop-dep.dep-index c.dep-item.result = subst (λ ds. c.dep-item.result ≡ get_or ds c.loop-dep.dep-index c.dep-item.result) c.as_slice-dep-items.ensures c.dep-item.is in
    pass_more keep deps c.loop-dep.dep-index c.dep-item.result within at (sym c.names.ensures ∙ c.if-not-names.false) c.loop-dep.invariant

pub returns : goal.returns
returns c =
    let keep = map number_of c.args.to_keep.now in
    let deps = c.args.krate.now.basic.dependencies in
    let all : take c.loop-dep.dep-index c.args.krate.now.basic.dependencies ≡ c.args.krate.now.basic.dependencies = take_all c.loop-dep.dep-index deps (omega (arith, c.loop-dep-test.false, ap length c.as_slice-dep-items.ensures)) in
    sym (list_all-map (is_named keep) target_of deps ∙ ap (list_all (λ dep. is_named keep (target_of dep))) (sym all) ∙ c.loop-dep.invariant)
