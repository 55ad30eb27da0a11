use Rattle.std.proofs.Common.{rules}
use Rattle.cargo_meta_values.specs.Target.{target_data}
use Rattle.cargo_meta_values.specs.laws.Target.{target-round_trips}
use Rattle.cargo_meta_values.proofs.target.Target.of_value.Goals as goal

pub returns-clause-again : goal.returns-clause-again
returns-clause-again c = let again = c.of_value.ensures.again target_data 2 target-round_trips in search rules
