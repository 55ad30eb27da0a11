use Rattle.std.proofs.Common.{rules}
use Rattle.cargo_meta.specs.Metadata.{metadata_data}
use Rattle.cargo_meta.specs.laws.Metadata.{metadata-round_trips}
use Rattle.cargo_meta.proofs.command.MetadataCommand.parse.Goals as goal

pub returns-clause-again : goal.returns-clause-again
returns-clause-again c = let again = c.of_text.ensures.again metadata_data 7 metadata-round_trips in search rules
