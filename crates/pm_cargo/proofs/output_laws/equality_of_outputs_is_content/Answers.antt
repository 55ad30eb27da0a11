use Rattle.base_text_outside.specs.contracts.cfg.CfgAtomPartialEq.TheImpl as atom
use Rattle.crate_graph_values.specs.contracts.env.EnvPartialEq.TheImpl as env
use Rattle.pm_cargo.specs.contracts.output.ProcMacroDylibPathPartialEq.TheImpl as library
use Rattle.pm_cargo.proofs.OutputEqualities.{outputs_are_equal}
use Rattle.pm_cargo.proofs.output_laws.equality_of_outputs_is_content.Goals as goal

pub returns : goal.returns
returns c =
    outputs_are_equal (atom.ghosts).eq (env.ghosts).eq (library.ghosts).eq
    c.equality_is_content.ensures.atoms c.equality_of_environments_is_content.ensures c.equality_of_libraries_is_content.ensures
