use Rattle.std.proofs.Common.{◌≡◌, ◌∙◌, ◌++◌, ◌∷◌, [], ap, refl, rules, sym}
use Rattle.std.proofs.Output.{has_written_append, has_written_of_eq, writes_in_calls_nil}
use Rattle.crate_graph.proofs.CyclicLemmas.{arrow_more, back_text-is, back_text-none, left_more}
use Rattle.crate_graph.proofs.cyclic.write_back.Goals as goal

pub returns-in_default : goal.returns-in_default
returns-in_default g c = λ plain ok.
    has_written_of_eq _ _ _ _ _ (back_text-none c.args.path.now c.in_default.ensures.cases) (record { wrote = writes_in_calls_nil _ _; plain = plain })

pub loop-step-preserved : goal.loop-step-preserved
loop-step-preserved g c = record {
  left = left_more c.into_iter-step-iterator.result.iter.rest.now c.loop-step.yielded c.in-Some-step.step c.next.new.self.iter.rest.now c.loop-step.step-iterator.iter.rest.now c.in-Some-step.ensures.steps c.loop-step.invariant.left;
  wrote = λ plain.
      let old = c.loop-step.invariant.wrote plain in
      let arrow = c.in_ok-write_str.ensures.writes old.plain refl in
      let step = c.in_ok-write_step-2.ensures arrow.plain refl in
      has_written_of_eq _ _ _ _ _ (arrow_more c.loop-step.yielded c.in-Some-step.step) (has_written_append _ _ _ _ _ _ old (has_written_append _ _ _ _ _ _ arrow step));
}

pub returns : goal.returns
returns g c = λ plain ok.
    let first = c.in_ok-write_step.ensures plain refl in
    let before : c.into_iter-step-iterator.result.iter.rest.now ≡ c.in-Some.before.now = search rules in
    has_written_of_eq _ _ _ _ _ (back_text-is c.args.path.now c.into_iter-step-iterator.result.iter.rest.now c.in-Some.last.now c.loop-step.yielded c.loop-step.step-iterator.iter.rest.now (c.in-Some.ensures.cases.0 ∙ ap (λ xs. xs ++ c.in-Some.last.now ∷ []) (sym before)) c.in-None.ensures.steps.0 c.loop-step.invariant.left)
    (has_written_append _ _ _ _ _ _ first (c.loop-step.invariant.wrote first.plain))
