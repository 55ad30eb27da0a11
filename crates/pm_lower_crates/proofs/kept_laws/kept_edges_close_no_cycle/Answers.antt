use Rattle.pm_lower_crates.proofs.RelationLemmas.{acyclic_from, fold_keeps, kept_iff, kept_once}
use Rattle.pm_lower_crates.proofs.kept_laws.kept_edges_close_no_cycle.Goals as goal

pub returns : goal.returns
returns c = record {
  kept = fold_keeps;
  unique = λ count front wanted a b x y. kept_once x y;
  acyclic = acyclic_from;
  exactly = kept_iff;
}
