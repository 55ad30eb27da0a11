use Rattle.std.proofs.Common.{◌≡◌, ◌++◌, length}
use Rattle.pm_cargo_fetch.specs.Options.{unstable_pairs}
use Rattle.pm_cargo_fetch.proofs.options.push_unstable_pairs.Given as goal

-- the options so far, and those among the words that are left
abbrev pub invariant-loop-left : goal.invariant-loop-left
invariant-loop-left l = l.options.items ++ unstable_pairs l.left ≡ l.initial.options.items ++ unstable_pairs l.words

abbrev pub decreases-loop-left : goal.decreases-loop-left
decreases-loop-left l = length l.left
