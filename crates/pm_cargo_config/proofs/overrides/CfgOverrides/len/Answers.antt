use Rattle.std.proofs.Common.{◌≡◌, ◌+◌, ◌-◌, ◌^◌, arith, min}
use Rattle.pm_cargo_config.specs.Overrides.{count_of}
use Rattle.pm_cargo_config.proofs.overrides.CfgOverrides.len.Goals as goal

-- nothing is left to count
pub returns : goal.returns
returns c =
    let counted : min (c.loop-diff.count + 0) (2 ^ 64 - 1) ≡ count_of c.args.self.now
    = rw c.in-None.ensures.steps.0 at c.loop-diff.invariant.1 in
    omega (arith, counted, c.loop-diff.invariant.0)
