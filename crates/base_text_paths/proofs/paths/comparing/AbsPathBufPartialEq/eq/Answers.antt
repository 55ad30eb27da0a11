use Rattle.std.proofs.Common.{◌∙◌}
use Rattle.base_text_paths.proofs.Comparing.{texts_eq}
use Rattle.base_text_paths.proofs.paths.comparing.AbsPathBufPartialEq.eq.Goals as goal

pub returns : goal.returns
returns c = c.eq.ensures ∙ texts_eq _ _ _ _ c.as_str.ensures.text c.as_str-2.ensures.text c.as_str.ensures.clean c.as_str-2.ensures.clean
