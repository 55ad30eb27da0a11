use Rattle.std.proofs.Common.{◌≡◌, length, map}
use Rattle.std.specs.Prelude.{string_bytes}
use Rattle.live_config.specs.Options.{FitsGiven, with_options}
use Rattle.live_config.proofs.options.Given.read.Given as goal

abbrev pub invariant-loop-word : goal.invariant-loop-word
invariant-loop-word l = record {
  same : with_options l.initial.self (map string_bytes l.words) ≡ with_options l.self (map string_bytes l.left);
  fits : FitsGiven l.initial.self.limits → FitsGiven l.self.limits;
}

abbrev pub decreases-loop-word : goal.decreases-loop-word
decreases-loop-word l = length l.left
