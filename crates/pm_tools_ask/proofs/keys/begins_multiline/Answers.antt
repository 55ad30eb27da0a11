use Rattle.std.proofs.Common.{[], ◌∷◌, ◌∙◌, refl, sym}
use Rattle.std.proofs.lemmas.Str.Pattern.{starts_text}
use Rattle.pm_tools_ask.specs.Line.{begins_multiline}
use Rattle.pm_tools_ask.proofs.keys.begins_multiline.Goals as goal

pub returns-then-starts_with : goal.returns-then-starts_with
unfolding begins_multiline
returns-then-starts_with c =
    let double = starts_text c.starts_with.result (34 ∷ 34 ∷ 34 ∷ []) c.args.part.now c.starts_with.ensures.cases in
    rw (c.if-starts_with.true, sym double ∙ c.if-starts_with.true) refl

pub returns-else-starts_with : goal.returns-else-starts_with
unfolding begins_multiline
returns-else-starts_with c =
    let double = starts_text c.starts_with.result (34 ∷ 34 ∷ 34 ∷ []) c.args.part.now c.starts_with.ensures.cases in
    let literal = starts_text c.starts_with-else-starts_with.result (39 ∷ 39 ∷ 39 ∷ []) c.args.part.now c.starts_with-else-starts_with.ensures.cases in
    rw (sym double ∙ c.if-starts_with.false) literal
