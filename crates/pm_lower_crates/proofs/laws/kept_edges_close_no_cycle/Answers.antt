use Rattle.pm_lower_crates.proofs.FoldLemmas.{fold_keeps}
use Rattle.pm_lower_crates.proofs.KeptLemmas.{kept_once}
use Rattle.pm_lower_crates.proofs.laws.kept_edges_close_no_cycle.Goals as goal

pub returns : goal.returns
returns c = record { kept = fold_keeps; unique = λ count want a b x y. kept_once x y }
