use Rattle.std.proofs.Common.{arith}
use Rattle.json_fields.specs.Laws.Wholes.{if_both}
use Rattle.json_fields.proofs.document.of_text.Goals as goal

pub returns-in-Ok-clause-nests : goal.returns-in-Ok-clause-nests
returns-in-Ok-clause-nests g c = λ writes height kept.
    if_both c.of_value.result (λ x within. omega (arith, within, c.in-Ok.ensures.nests)) (c.of_value.ensures.nests writes height kept)
