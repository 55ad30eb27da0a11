use Rattle.std.proofs.Common.{ap, ◌∙◌, sym}
use Rattle.std.specs.List.{join_with_byte}
use Rattle.base_text_paths.proofs.Prefixes.{text_below-none, text_below-some}
use Rattle.base_text_paths.proofs.paths.abs_path.AbsPath.strip_prefix.Goals as goal

pub returns-in_err-rest-clause-text : goal.returns-in_err-rest-clause-text
returns-in_err-rest-clause-text c =
    let rest = rw (c.row_of.ensures.components_are, c.row_of-2.ensures.components_are, c.as_str.ensures.text, c.as_str-2.ensures.text) at c.in_err-rest.ensures.is in
    rw c.from_residual.ensures (sym (text_below-none _ _ (sym rest)))

pub returns-clause-text : goal.returns-clause-text
returns-clause-text c =
    let is = rw (c.row_of.ensures.components_are, c.row_of-2.ensures.components_are, c.as_str.ensures.text, c.as_str-2.ensures.text) at c.in_ok-rest.ensures.is in
    let rest = rw (c.row_of.ensures.components_are, c.row_of-2.ensures.components_are, c.as_str.ensures.text, c.as_str-2.ensures.text) at c.in_ok-rest.ensures.rest in
    sym (text_below-some _ _ _ (sym is) (c.new.ensures ∙ c.below_slash.ensures.text ∙ ap (join_with_byte 47) rest.components_are))
