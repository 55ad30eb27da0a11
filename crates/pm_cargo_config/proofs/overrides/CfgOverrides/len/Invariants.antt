use Rattle.std.proofs.Common.{◌≡◌, ◌+◌, ◌-◌, ◌^◌, ◌≤◌, map, min, sum}
use Rattle.base_values.specs.ByText.{text_entries}
use Rattle.pm_cargo_config.specs.Overrides.{count_of, diff_count}
use Rattle.pm_cargo_config.proofs.overrides.CfgOverrides.len.Given as goal

-- what is counted and what is left to count are the whole count
abbrev pub invariant-loop-diff : goal.invariant-loop-diff
invariant-loop-diff l =
    (l.count ≤ 2 ^ 64 - 1)
    × (min (l.count + sum (map (λ e. diff_count e.1) (text_entries l.diff-iterator))) (2 ^ 64 - 1) ≡ count_of l.self)
