use Rattle.std.proofs.Common.{Some, ap, ◌∙◌}
use Rattle.base_text.proofs.Parts.{item-long, item-whole}
use Rattle.base_text.proofs.part.LinePart.finish.Goals as goal

pub returns-then-self-clause-line : goal.returns-then-self-clause-line
returns-then-self-clause-line c = rw (← c.self.view_is) (λ part h. item-long _ part h c.if-self.true)

pub returns-clause-line : goal.returns-clause-line
returns-clause-line c = rw (← c.self.view_is) (λ part h. ap Some (c.new-2.ensures ∙ ap (λ v. v.items) c.replace-bytes.ensures.value) ∙ item-whole _ part h c.if-self.false)
