use Rattle.std.proofs.Common.{◌≡◌, ◌++◌, drop}
use Rattle.pm_cargo_fetch.specs.Options.{filter_words}
use Rattle.pm_cargo_fetch.proofs.options.push_platforms.Given as goal

-- the options so far, and the words of the platforms that are left
abbrev pub invariant-loop-target : goal.invariant-loop-target
invariant-loop-target l =
    l.options.items ++ filter_words (drop l.target-index l.targets) ≡ l.initial.options.items ++ filter_words l.targets
