use Rattle.input_db.proofs.ContentLaws.{identities_equal}
use Rattle.input_db.proofs.laws.equality_of_identities.Goals as goal

pub returns : goal.returns
returns c = identities_equal
