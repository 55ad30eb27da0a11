use Rattle.std.proofs.Common.{◌≡◌, ◌∙◌, length, lit<, ap, arith}
use Rattle.std.proofs.lemmas.Iterator.Consumers.{YieldsList-at, YieldsList-end, YieldsList-turn}
use Rattle.std.proofs.lemmas.Iterator.Splits.{YieldsList-from_str_split}
use Rattle.std.specs.List.{list_any}
use Rattle.live_config.specs.Values.{is_empty_text}
use Rattle.live_config.proofs.ValueLemmas.{feature_names-are, feature_names-none}
use Rattle.live_config.proofs.values.feature_names.Goals as goal

pub returns-then-is_empty-clause-usage : goal.returns-then-is_empty-clause-usage
returns-then-is_empty-clause-usage c =
    let split = YieldsList-from_str_split 44 c.args.text.now (lit< tt) c.split-name-items.ensures.text c.split-name-items.ensures.has_more c.split-name-items.ensures.pattern in
    let turn = YieldsList-turn (YieldsList-at c.into_iter-name-iterator.ensures.into_iter_gives split) c.loop-name.yielded _ c.loop-name.yielded_by _ _ c.in-Some.name c.in-Some.is c.next.ensures.steps in
    let empty : length c.in-Some.name.now ≡ 0 = grind (arith, c.if-is_empty.ensures) in
    λ _. feature_names-none c.args.text.now c.in-Some.name.now (length c.loop-name.yielded) turn.0 turn.1 empty

pub returns-clause-ok : goal.returns-clause-ok
returns-clause-ok c =
    let split = YieldsList-from_str_split 44 c.args.text.now (lit< tt) c.split-name-items.ensures.text c.split-name-items.ensures.has_more c.split-name-items.ensures.pattern in
    let done = YieldsList-end (YieldsList-at c.into_iter-name-iterator.ensures.into_iter_gives split) c.loop-name.yielded _ c.loop-name.yielded_by _ _ c.in-None.is c.next.ensures.steps in
    feature_names-are c.args.text.now c.new.result (c.new.ensures ∙ c.loop-name.invariant.read ∙ done.0)
    (ap (list_any is_empty_text) c.new.ensures ∙ c.loop-name.invariant.named)
