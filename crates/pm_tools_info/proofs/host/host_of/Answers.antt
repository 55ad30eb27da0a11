use Rattle.std.proofs.Common.{[], ◌∷◌, ◌++◌, drop, sym, ap, ◌∙◌, ◌≡◌, Some, None, arith, codes, length}
use Rattle.std.proofs.lemmas.Iterator.Consumers.{YieldsList-at, YieldsList-end, YieldsList-turn}
use Rattle.std.proofs.lemmas.Iterator.Splits.{YieldsList-from_lines}
use Rattle.std.proofs.lemmas.List.{at_drop_all, length_push}
use Rattle.std.specs.Option.{option_copied}
use Rattle.std.specs.Str.Lines.{lines}
use Rattle.pm_tools_info.specs.Behind.{behind}
use Rattle.pm_tools_info.specs.Host.{host_in}
use Rattle.pm_tools_info.proofs.Hosts.{host_found, host_lacks}
use Rattle.pm_tools_info.proofs.Lines.{one_further}
use Rattle.pm_tools_info.proofs.Texts.{behind_front}
use Rattle.pm_tools_info.proofs.host.host_of.Goals as goal

pub returns-in-Some-strip_prefix : goal.returns-in-Some-strip_prefix
returns-in-Some-strip_prefix c =
    let all = YieldsList-at c.into_iter-line-iterator.ensures.into_iter_gives (YieldsList-from_lines c.args.text.now c.lines-line-items.ensures.rest) in
    let turn = YieldsList-turn all c.loop-line.yielded _ c.loop-line.yielded_by _ _ c.in-Some.line c.in-Some.is c.next.ensures.steps in
    let step = one_further host_in (lines c.args.text.now) _ _ c.in-Some.line.now turn.0 turn.1 (length_push c.loop-line.yielded c.in-Some.line) in
    let found : Some c.in-Some-strip_prefix.host.now ≡ behind (codes "host: ") c.in-Some.line.now =
    ap option_copied (sym c.in-Some-strip_prefix.is) ∙ behind_front c.strip_prefix.result (codes "host: ") c.in-Some.line.now c.strip_prefix.ensures.cases in
    host_found c.in-Some.line.now _ (drop (length (c.loop-line.yielded ++ c.in-Some.line ∷ [])) (lines c.args.text.now)) found ∙ sym step ∙ c.loop-line.invariant

pub loop-line-preserved : goal.loop-line-preserved
loop-line-preserved c =
    let all = YieldsList-at c.into_iter-line-iterator.ensures.into_iter_gives (YieldsList-from_lines c.args.text.now c.lines-line-items.ensures.rest) in
    let turn = YieldsList-turn all c.loop-line.yielded _ c.loop-line.yielded_by _ _ c.in-Some.line c.in-Some.is c.next.ensures.steps in
    let step = one_further host_in (lines c.args.text.now) _ _ c.in-Some.line.now turn.0 turn.1 (length_push c.loop-line.yielded c.in-Some.line) in
    let lacks : None ≡ behind (codes "host: ") c.in-Some.line.now =
    ap option_copied (sym c.in_default.is) ∙ behind_front c.strip_prefix.result (codes "host: ") c.in-Some.line.now c.strip_prefix.ensures.cases in
    host_lacks c.in-Some.line.now (drop (length (c.loop-line.yielded ++ c.in-Some.line ∷ [])) (lines c.args.text.now)) lacks ∙ sym step ∙ c.loop-line.invariant

pub returns : goal.returns
returns c =
    let all = YieldsList-at c.into_iter-line-iterator.ensures.into_iter_gives (YieldsList-from_lines c.args.text.now c.lines-line-items.ensures.rest) in
    let done = YieldsList-end all c.loop-line.yielded _ c.loop-line.yielded_by _ _ c.in-None.is c.next.ensures.steps in
    sym (at_drop_all host_in (lines c.args.text.now) (length c.loop-line.yielded) (omega (arith, done.1))) ∙ c.loop-line.invariant
