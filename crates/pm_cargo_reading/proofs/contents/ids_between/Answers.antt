use Rattle.std.proofs.Common.{[], ◌∷◌, ◌++◌, ◌∙◌, ap, arith}
use Rattle.pm_cargo_reading.proofs.IdLemmas.{ids_between-end, ids_between-more, ids_between-none}
use Rattle.pm_cargo_reading.proofs.contents.ids_between.Goals as goal

pub loop-number-init : goal.loop-number-init
loop-number-init c = record { done = c.new-ids.ensures.items ∙ ids_between-none c.args.first; within = omega arith }

pub loop-number-preserved : goal.loop-number-preserved
loop-number-preserved c = record {
  done = c.in_ok-push.ensures.items ∙ ap (λ l. l ++ c.from_raw.result ∷ []) c.loop-number.invariant.done
      ∙ ids_between-more c.args.first c.loop-number.number c.from_raw.result c.loop-number.auto.number c.from_raw.ensures;
  within = omega arith;
}

pub returns : goal.returns
returns c = c.new.ensures ∙ c.loop-number.invariant.done
    ∙ ids_between-end c.args.first c.loop-number.number c.args.end c.loop-number.auto.number c.loop-number-test.false c.loop-number.invariant.within
