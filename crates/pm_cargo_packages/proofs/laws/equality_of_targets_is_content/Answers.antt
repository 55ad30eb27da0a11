use Rattle.crate_graph_values.specs.contracts.target_kind.TargetKindPartialEq.TheImpl as kind
use Rattle.pm_cargo_packages.proofs.Equalities.{targets_are_equal}
use Rattle.pm_cargo_packages.proofs.laws.equality_of_targets_is_content.Goals as goal

pub returns : goal.returns
returns c = targets_are_equal _ (kind.ghosts).eq c.equality_of_numbers_is_content.ensures.packages c.equality_of_kinds_is_content.ensures
