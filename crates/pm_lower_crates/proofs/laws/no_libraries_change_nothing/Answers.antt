use Rattle.pm_lower_crates.proofs.LoweringLemmas.{no_libraries}
use Rattle.pm_lower_crates.proofs.laws.no_libraries_change_nothing.Goals as goal

pub returns : goal.returns
returns c = no_libraries
