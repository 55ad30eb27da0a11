use Rattle.std.proofs.Common.{arith, ◌∙◌, sym, true≢false}
use Rattle.std.proofs.lemmas.Slice.Eq.{bytes_eq-Decides}
use Rattle.live_config.proofs.Numbers.{other_none, refused_none, says}
use Rattle.live_config.proofs.values.read_number.Goals as goal

pub returns-in_default-clause-usage : goal.returns-in_default-clause-usage
returns-in_default-clause-usage c =
    λ _. refused_none c.args.most c.args.text.now c.parse.result c.in_default.field-0 (omega (arith, c.ranges.most.fits)) c.parse.ensures.value.0 c.in_default.is

pub returns-then-number-most-clause-usage : goal.returns-then-number-most-clause-usage
returns-then-number-most-clause-usage c =
    λ _. other_none c.args.most c.in-Ok.number c.args.text.now c.parse.result (omega (arith, c.ranges.most.fits)) c.parse.ensures.value.0 c.in-Ok.is
    (λ is within. omega (arith, c.if-number-most.true, within))

pub returns-then-eq-clause-ok : goal.returns-then-eq-clause-ok
returns-then-eq-clause-ok c = says c.args.most c.in-Ok.number c.args.text.now (omega (arith, c.ranges.most.fits, c.if-number-most.false))
    (sym ((bytes_eq-Decides c.as_str.result.now c.args.text.now).0 (sym c.eq.ensures ∙ c.if-eq.true)) ∙ c.as_str.ensures.value ∙ c.in_ok-written.ensures.ok) (omega (arith, c.if-number-most.false))

pub returns-clause-usage : goal.returns-clause-usage
returns-clause-usage c =
    λ _. other_none c.args.most c.in-Ok.number c.args.text.now c.parse.result (omega (arith, c.ranges.most.fits)) c.parse.ensures.value.0 c.in-Ok.is
    (λ is within. absurd (true≢false (sym ((bytes_eq-Decides c.as_str.result.now c.args.text.now).1 (c.as_str.ensures.value ∙ c.in_ok-written.ensures.ok ∙ sym is)) ∙ sym c.eq.ensures ∙ c.if-eq.false)))
