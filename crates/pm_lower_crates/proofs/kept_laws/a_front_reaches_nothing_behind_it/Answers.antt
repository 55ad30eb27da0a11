use Rattle.pm_lower_crates.proofs.ReachLemmas.{below_stays, front_reaches, front_stays}
use Rattle.pm_lower_crates.proofs.kept_laws.a_front_reaches_nothing_behind_it.Goals as goal

pub returns : goal.returns
returns c = record { same = front_reaches; stays = front_stays; below = below_stays }
