use Rattle.base_values.proofs.Equalities.{texts, versions}
use Rattle.base_values.proofs.laws.equality_is_content.Goals as goal

pub returns : goal.returns
returns c = record { texts = texts; shared_texts = texts; versions = versions }
