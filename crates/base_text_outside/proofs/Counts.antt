-- How far a count rises: by one at most for each step.
use Rattle.std.proofs.Common.{ℕ, zero, suc, ◌+◌, ◌≤◌, arith}
use Rattle.base_text_outside.specs.Causes.{next_count, raised_by}

pub raised_by-most : (steps count : ℕ) → raised_by steps count ≤ count + steps
raised_by-most zero count = omega arith
raised_by-most (suc steps) count =
    let more = raised_by-most steps count in
    let step : next_count (raised_by steps count) ≤ raised_by steps count + 1 = raised-most (raised_by steps count) in
    omega (arith, more, step)
  where
    raised-most : (n : ℕ) → next_count n ≤ n + 1
    raised-most n = omega arith
