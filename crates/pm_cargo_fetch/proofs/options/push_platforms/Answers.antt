use Rattle.std.proofs.Common.{◌∙◌}
use Rattle.pm_cargo_fetch.proofs.Asked.{next_platform}
use Rattle.pm_cargo_fetch.proofs.options.push_platforms.Goals as goal

pub loop-target-preserved : goal.loop-target-preserved
loop-target-preserved c =
    next_platform c.loop-target.options.items c.push_word.new.words.items c.push_word-in-loop-target.new.words.items
    c.args.targets.now c.loop-target.target-index c.target-item.result c.target-item.is c.loop-target-test.true
    c.in_ok-push_word.ensures.ok (rw c.as_str.ensures at c.in_ok-push_word-2.ensures.ok)
    ∙ c.loop-target.invariant
