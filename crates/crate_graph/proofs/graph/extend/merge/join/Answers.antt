use Rattle.std.proofs.Common.{◌≡◌, ◌<◌, ◌≤◌, Result, Ok, Err, ap, arith, get_or, length, map, subst, sym, take, ◌∙◌}
use Rattle.std.specs.Result.{IsErrAnd, IsErrOf}
use Rattle.std.proofs.lemmas.List.{length-map}
use Rattle.std.proofs.lemmas.List.Sums.{fold_more}
use Rattle.crate_graph_values.specs.contracts.builder.CrateBuilderPartialEq.TheImpl as krates
use Rattle.crate_graph.specs.declared.graph.GraphError.{GraphError}
use Rattle.crate_graph.specs.declared.graph.GraphError.TheVariants.{TooMany}
use Rattle.crate_graph.specs.Extend.{before_merge, take_in, with_sorted_dependencies}
use Rattle.crate_graph.specs.Places.{crate_hash}
use Rattle.crate_graph.proofs.HashLemmas.{crate_input}
use Rattle.crate_graph.proofs.ExtendLemmas.{passes_later, take_in-longer, take_in-new_numbers, take_in-olds}
use Rattle.crate_graph.proofs.graph.extend.merge.join.Goals as goal

pub take_in-requires-clause-olds : goal.take_in-requires-clause-olds
take_in-requires-clause-olds c =
    let made : c.deref.result.now ≡ map with_sorted_dependencies c.args.olds.now = c.deref.ensures.value ∙ ap (λ j. j.crates) c.merge.view_is ∙ ap (λ j. j.crates) c.in_ok-merge.ensures in
    let places = c.in_ok-places.ensures ∙ ap (map (crate_hash crate_input)) (made ∙ sym c.loop-other.invariant.kept) in
    let count : length c.in_ok-places.places ≡ length c.args.olds.now = ap length c.in_ok-places.ensures ∙ length-map c.deref.result.now _ ∙ ap length made ∙ length-map c.args.olds.now with_sorted_dependencies in
    record {
      within = omega (arith, count, c.loop-other.invariant.olds);
      hashes = places ∙ ap (λ n. map (crate_hash crate_input) (take n c.loop-other.merge.crates)) (sym count);
    }

pub loop-other-preserved : goal.loop-other-preserved
loop-other-preserved c =
    let f = take_in (krates.eq-value).it (length c.args.olds.now) c.args.others.now in
    let start = before_merge c.args.olds.now c.args.others.now in
    let n = get_or c.args.order.now c.loop-other.other-index 0 in
    let below : c.loop-other.other-index < length c.args.order.now = omega (arith, c.loop-other-test.true) in
    let count : length c.in_ok-places.places ≡ length c.args.olds.now =
    ap length c.in_ok-places.ensures ∙ length-map c.deref.result.now _ ∙ ap length (c.deref.ensures.value ∙ ap (λ j. j.crates) c.merge.view_is ∙ ap (λ j. j.crates) c.in_ok-merge.ensures) ∙ length-map c.args.olds.now with_sorted_dependencies in
    let step : c.take_in.new.self ≡ take_in (krates.eq-value).it (length c.args.olds.now) c.args.others.now c.loop-other.merge (get_or c.args.order.now c.loop-other.other-index 0) = c.in_ok-take_in.ensures.ok ∙ ap (λ olds. take_in (krates.eq-value).it olds c.args.others.now c.loop-other.merge n) count in
    let longer : length c.loop-other.merge.crates ≤ length c.take_in.new.self.crates = subst (λ j. length c.loop-other.merge.crates ≤ length j.crates) (sym step) (take_in-longer (krates.eq-value).it (length c.args.olds.now) c.args.others.now c.loop-other.merge n) in
    record {
      is = step ∙ ap (λ j. f j n) c.loop-other.invariant.is ∙ sym (fold_more f start c.args.order.now c.loop-other.other-index 0 below);
      new_numbers = ap (λ j. length j.new_numbers) step ∙ take_in-new_numbers (krates.eq-value).it (length c.args.olds.now) c.args.others.now c.loop-other.merge n ∙ c.loop-other.invariant.new_numbers;
      olds = omega (arith, longer, c.loop-other.invariant.olds);
      kept = ap (λ j. take (length c.args.olds.now) j.crates) step ∙ take_in-olds (krates.eq-value).it (length c.args.olds.now) c.args.others.now c.loop-other.merge n c.loop-other.invariant.olds ∙ c.loop-other.invariant.kept;
      room = c.in_ok-take_in.ensures.room;
    }

same_error : {A : Type 0} (r : Result A GraphError) (e : GraphError) → IsErrAnd r (λ given. given ≡ e) → IsErrOf r TooMany → e ≡ TooMany
same_error (Ok x) e given is = absurd given
same_error (Err given) e same is = cc

pub returns-in_err-take_in-clause-too_many : goal.returns-in_err-take_in-clause-too_many
returns-in_err-take_in-clause-too_many c = λ is.
    let f = take_in (krates.eq-value).it (length c.args.olds.now) c.args.others.now in
    let n = get_or c.args.order.now c.loop-other.other-index 0 in
    let below : c.loop-other.other-index < length c.args.order.now = omega (arith, c.loop-other-test.true) in
    let count : length c.in_ok-places.places ≡ length c.args.olds.now =
    ap length c.in_ok-places.ensures ∙ length-map c.deref.result.now _ ∙ ap length (c.deref.ensures.value ∙ ap (λ j. j.crates) c.merge.view_is ∙ ap (λ j. j.crates) c.in_ok-merge.ensures) ∙ length-map c.args.olds.now with_sorted_dependencies in
    let error = same_error c.from_residual-in_err-take_in.result c.in_err-take_in.field-0.0 c.from_residual-in_err-take_in.ensures.1 is in
    passes_later (krates.eq-value).it (length c.args.olds.now) c.args.others.now (before_merge c.args.olds.now c.args.others.now) c.args.order.now c.loop-other.other-index c.args.limit below
    (subst (λ j. c.args.limit < length (f j n).crates) c.loop-other.invariant.is
    (subst (λ olds. c.args.limit < length (take_in (krates.eq-value).it olds c.args.others.now c.loop-other.merge n).crates) count (c.in_err-take_in.ensures.too_many (ap Err error))))
