use Rattle.std.proofs.Common.{rules}
use Rattle.cargo_meta.specs.Metadata.{metadata_data}
use Rattle.cargo_meta.specs.laws.Metadata.{metadata-round_trips}
use Rattle.cargo_meta.proofs.metadata.Metadata.of_value.Goals as goal

pub returns-clause-again : goal.returns-clause-again
returns-clause-again c = let again = c.of_value.ensures.again metadata_data 7 metadata-round_trips in search rules
