use Rattle.pm_cargo.specs.contracts.output.BuildScriptOutputPartialEq.TheImpl as output
use Rattle.pm_tools.proofs.Equalities.{scripts_are_equal}
use Rattle.pm_tools.proofs.laws.equality_of_build_scripts_is_content.Goals as goal

pub returns : goal.returns
returns c = scripts_are_equal (output.ghosts).eq c.equality_of_outputs_is_content.ensures
