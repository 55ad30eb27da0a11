use Rattle.std.proofs.Common.{◌≡◌, ◌<◌, ap, length, refl, subst, sym, ◌∙◌}
use Rattle.std.proofs.lemmas.Option.{slice_get_read}
use Rattle.std.proofs.lemmas.Result.{on_ok_weaker}
use Rattle.crate_graph_values.specs.contracts.builder.CrateBuilderPartialEq.TheImpl as krates
use Rattle.crate_graph.specs.Extend.{with_new_ids, new_id_at, take_in, with_first_equal}
use Rattle.crate_graph.proofs.ExtendLemmas.{take_in-at, targets_within}
use Rattle.crate_graph.proofs.graph.extend.merge.Merge.take_in.Goals as goal

-- the crate is taken in under the numbers that its dependencies have by then
taken : (c : goal.After-find_or_append) → with_first_equal (krates.eq-value).it (length c.args.olds.now) c.args.self.now c.args.other c.in_ok-krate.krate ≡ take_in (krates.eq-value).it (length c.args.olds.now) c.args.others.now c.args.self.now c.args.other
taken c =
    let at = slice_get_read c.args.others.now (length c.args.others.now) c.args.other c.index-others-other.result refl c.requires.other c.index-others-other.is in
    let new_numbers : c.deref.result.now ≡ c.args.self.now.new_numbers = c.deref.ensures.value ∙ ap (λ j. j.new_numbers) c.self.view_is in
    ap (with_first_equal (krates.eq-value).it (length c.args.olds.now) c.args.self.now c.args.other) (c.in_ok-krate.ensures ∙ ap (λ ns. with_new_ids (new_id_at ns) c.index-others-other.result) new_numbers)
    ∙ sym (take_in-at (krates.eq-value).it (length c.args.olds.now) c.args.others.now c.args.self.now c.args.other c.index-others-other.result at)

pub renamed_copy-requires : goal.renamed_copy-requires
renamed_copy-requires c =
    let at = slice_get_read c.args.others.now (length c.args.others.now) c.args.other c.index-others-other.result refl c.requires.other c.index-others-other.is in
    let long : length c.deref.result.now ≡ length c.args.others.now = ap length (c.deref.ensures.value ∙ ap (λ j. j.new_numbers) c.self.view_is) ∙ c.requires.new_numbers in
    targets_within c.args.others.now c.args.other c.index-others-other.result (length c.deref.result.now) c.requires.in_range long at

pub returns-clause-ok : goal.returns-clause-ok
returns-clause-ok c = on_ok_weaker c.find_or_append.result (λ ok. ok ∙ taken c) c.find_or_append.ensures.ok

pub returns-clause-too_many : goal.returns-clause-too_many
returns-clause-too_many c = λ is. subst (λ j. c.args.limit < length j.crates) (taken c) (c.find_or_append.ensures.too_many is)
