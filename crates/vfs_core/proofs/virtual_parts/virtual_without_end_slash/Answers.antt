use Rattle.std.proofs.Common.{lit<, sym, Some, None}
use Rattle.std.proofs.lemmas.Str.Pattern.{strip_suffix_char}
use Rattle.vfs_core.proofs.PartLemmas.{virtual_without_end_slash_end, virtual_without_end_slash_other}
use Rattle.vfs_core.proofs.virtual_parts.virtual_without_end_slash.Goals as goal

pub returns-in-Some : goal.returns-in-Some
returns-in-Some c =
    sym (virtual_without_end_slash_end c.args.text.now c.in-Some.front.now
    (strip_suffix_char 47 c.args.text.now (Some c.in-Some.front) c.in-Some.ensures.cases (lit< tt)))

pub returns-in-None : goal.returns-in-None
returns-in-None c =
    sym (virtual_without_end_slash_other c.args.text.now
    (strip_suffix_char 47 c.args.text.now None c.in-None.ensures.cases (lit< tt)))
