use Rattle.std.proofs.Common.{refl, ap, ◌∙◌}
use Rattle.pm_tools_info.specs.Version.{first_word}
use Rattle.pm_tools_info.proofs.Words.{first_word_is}
use Rattle.pm_tools_info.proofs.version_text.first_word.Goals as goal

pub returns : goal.returns
returns c =
    first_word_is _ _ _ _ _ _ c.next.ensures.steps (ap (λ word. word.now) c.unwrap_or.ensures) refl c.unwrap_or.utf8
    ∙ ap first_word c.split_whitespace.ensures.rest
