use Rattle.std.proofs.Common.{◌∙◌, codes, refl, sym}
use Rattle.std.proofs.lemmas.Str.Pattern.{starts_text}
use Rattle.pm_cargo_fetch.proofs.answers.begins_error.Goals as goal

pub returns-then-starts_with : goal.returns-then-starts_with
returns-then-starts_with c =
    let error = starts_text c.starts_with.result (codes "error") c.args.line.now c.starts_with.ensures.cases in
    rw (c.if-starts_with.true, sym error ∙ c.if-starts_with.true) refl

pub returns-else-starts_with : goal.returns-else-starts_with
returns-else-starts_with c =
    let error = starts_text c.starts_with.result (codes "error") c.args.line.now c.starts_with.ensures.cases in
    let warning = starts_text c.starts_with-else-starts_with.result (codes "warning") c.args.line.now c.starts_with-else-starts_with.ensures.cases in
    rw (sym error ∙ c.if-starts_with.false) warning
