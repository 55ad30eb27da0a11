use Rattle.std.proofs.Common.{sym, ap, ◌∙◌}
use Rattle.json_fields.specs.Versions.{first_mark}
use Rattle.json_fields.specs.Laws.ReadAgain.{bare_answer_again}
use Rattle.json_fields.proofs.bare.bare_version.Goals as goal

pub returns-in-None-clause-again : goal.returns-in-None-clause-again
returns-in-None-clause-again c =
    bare_answer_again c.args.text.now c.completed_version.result (ap first_mark (sym c.as_bytes.ensures.value) ∙ sym c.in-None.ensures) c.completed_version.ensures.exact
