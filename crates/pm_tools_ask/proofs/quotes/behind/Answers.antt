use Rattle.std.proofs.lemmas.Str.Pattern.{strip_prefix_char}
use Rattle.pm_tools_ask.proofs.Scans.{behind_is}
use Rattle.pm_tools_ask.proofs.quotes.behind.Goals as goal

pub returns : goal.returns
returns c = behind_is _ _ _ (strip_prefix_char _ _ _ c.strip_prefix.ensures.cases c.requires)
