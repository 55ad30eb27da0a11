use Rattle.base_text_paths.specs.contracts.cfg_options.CfgOptionsPartialEq.TheImpl as options
use Rattle.crate_graph_values.specs.contracts.builder.ExtraCrateDataPartialEq.TheImpl as extra
use Rattle.crate_graph_values.specs.contracts.env.EnvPartialEq.TheImpl as env
use Rattle.crate_graph_values.specs.contracts.workspace_data.CrateWorkspaceDataPartialEq.TheImpl as workspace
use Rattle.crate_graph_values.proofs.LawLemmas.{builders_are_equal}
use Rattle.crate_graph_values.proofs.laws.equality_of_crate_builders_is_content.Goals as goal

pub returns : goal.returns
returns c =
    builders_are_equal _ (extra.ghosts).eq (options.ghosts).eq (env.ghosts).eq (workspace.ghosts).eq
    (c.equality_of_crates_is_content.ensures c.equality_of_numbers_is_content.ensures) c.equality_of_extra_data_is_content.ensures c.equality_of_options_is_content.ensures c.equality_of_environments_is_content.ensures c.equality_of_workspace_data_is_content.ensures
