use Rattle.std.proofs.Common.{◌++◌, [], sym, ap, ◌∙◌}
use Rattle.std.proofs.lemmas.Iterator.Consumers.{YieldsList-at, YieldsList-end, YieldsList-turn}
use Rattle.std.proofs.lemmas.Iterator.Splits.{YieldsList-from_lines}
use Rattle.std.proofs.lemmas.List.{length_push}
use Rattle.pm_tools_ask.proofs.Lines.{ended, left_open, none_open, turned}
use Rattle.pm_tools_ask.specs.Reader.{statements_left}
use Rattle.pm_tools_ask.proofs.statement.statements.Goals.{in-Some-list-2+in_ok-push, in_default}
use Rattle.pm_tools_ask.proofs.statement.statements.Goals as goal

pub loop-line-preserved-in_ok-list-in-None-list : goal.loop-line-preserved-in_ok-list-in-None-list
loop-line-preserved-in_ok-list-in-None-list c =
    let all = YieldsList-at c.into_iter-line-iterator.ensures.into_iter_gives (YieldsList-from_lines c.args.text.now c.lines-line-items.ensures.rest) in
    let turn = YieldsList-turn all c.loop-line.yielded _ c.loop-line.yielded_by _ _ c.in-Some.line c.in-Some.is c.next.ensures.steps in
    turned _ _ _ _ _ _ _ _ _ _ turn.0 turn.1 (length_push c.loop-line.yielded c.in-Some.line) c.in-None-list.is c.loop-line.invariant c.in_ok-list-in-None-list.ensures

pub loop-line-preserved : goal.loop-line-preserved
loop-line-preserved c =
    let all = YieldsList-at c.into_iter-line-iterator.ensures.into_iter_gives (YieldsList-from_lines c.args.text.now c.lines-line-items.ensures.rest) in
    let turn = YieldsList-turn all c.loop-line.yielded _ c.loop-line.yielded_by _ _ c.in-Some.line c.in-Some.is c.next.ensures.steps in
    turned _ _ _ _ _ _ _ _ _ _ turn.0 turn.1 (length_push c.loop-line.yielded c.in-Some.line) c.in-Some-list.is c.loop-line.invariant c.in_ok-list-in-Some-list.ensures

pub returns : goal.returns
returns c =
    let all = YieldsList-at c.into_iter-line-iterator.ensures.into_iter_gives (YieldsList-from_lines c.args.text.now c.lines-line-items.ensures.rest) in
    let done = YieldsList-end all c.loop-line.yielded _ c.loop-line.yielded_by _ _ c.in-None.is c.next.ensures.steps in
    let whole = ended _ _ _ _ _ done.1 c.loop-line.invariant in
    c.new.ensures ∙ (elim c.match-list-2.branch [
      | in-Some-list-2+in_ok-push w ↦
          ap (λ v. v.items) w.whole-is ∙ left_open _ _ _ w.in-Some-list-2.list w.in_ok-push.ensures.items w.close.ensures
          ∙ ap (λ o. c.loop-line.whole.items ++ statements_left o []) (sym w.in-Some-list-2.is) ∙ whole
      | in_default w ↦ ap (λ v. v.items) w.whole-is ∙ none_open _ _ w.in_default.is ∙ whole
    ])
