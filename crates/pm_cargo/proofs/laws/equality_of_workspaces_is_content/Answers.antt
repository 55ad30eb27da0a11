use Rattle.crate_graph_values.specs.contracts.env.EnvPartialEq.TheImpl as env
use Rattle.pm_cargo_packages.specs.contracts.package.PackageDataPartialEq.TheImpl as member
use Rattle.pm_cargo_packages.specs.contracts.target.TargetDataPartialEq.TheImpl as target
use Rattle.pm_cargo.proofs.Equalities.{workspaces_are_equal}
use Rattle.pm_cargo.proofs.laws.equality_of_workspaces_is_content.Goals as goal

pub returns : goal.returns
returns c =
    workspaces_are_equal (member.ghosts).eq (target.ghosts).eq (env.ghosts).eq
    c.equality_of_packages_is_content.ensures c.equality_of_targets_is_content.ensures c.equality_of_environments_is_content.ensures
