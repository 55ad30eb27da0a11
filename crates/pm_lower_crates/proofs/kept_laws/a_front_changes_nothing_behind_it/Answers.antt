use Rattle.pm_lower_crates.proofs.ClosedFrontLemmas.{front_apart}
use Rattle.pm_lower_crates.proofs.KeepLemmas.{kept_from-append}
use Rattle.pm_lower_crates.proofs.ReachLemmas.{front_into}
use Rattle.pm_lower_crates.proofs.TargetLemmas.{targets_behind, targets_in_front}
use Rattle.pm_lower_crates.proofs.kept_laws.a_front_changes_nothing_behind_it.Goals as goal

pub returns : goal.returns
returns c = record {
  apart = front_apart;
  into = front_into;
  in_front = λ in_front front wanted a is. targets_in_front in_front front wanted is a;
  behind = λ in_front front wanted a is. targets_behind in_front front wanted is a;
  in_parts = kept_from-append;
}
