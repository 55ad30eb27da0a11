use Rattle.std.proofs.Common.{sym, rules}
use Rattle.pm_tools_info.proofs.Texts.{behind_front}
use Rattle.pm_tools_info.proofs.version_text.version_behind.Goals as goal

pub returns-in-Some : goal.returns-in-Some
returns-in-Some c =
    let rest = behind_front c.strip_prefix.result c.args.front.now c.args.text.now c.strip_prefix.ensures.cases in
    search (rules, sym rest, c.in-Some.is, c.first_word.ensures)

pub returns-in-None : goal.returns-in-None
returns-in-None c =
    let rest = behind_front c.strip_prefix.result c.args.front.now c.args.text.now c.strip_prefix.ensures.cases in
    search (rules, sym rest, c.in-None.is)
