use Rattle.pm_lower_crates.proofs.ShownLemmas.{shows_own}
use Rattle.pm_lower_crates.proofs.laws.rows_in_their_own_order_keep_their_numbers.Goals as goal

pub returns : goal.returns
returns c = shows_own
