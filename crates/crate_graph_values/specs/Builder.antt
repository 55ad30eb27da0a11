-- A crate of a builder, of its parts, and what is asked of it.
use Rattle.std.specs.Prelude.{ℕ, List}
use Rattle.base_text_paths.specs.declared.arena.Idx.{Idx}
use Rattle.base_text_outside.specs.declared.cfg.CfgAtom.{CfgAtom}
use Rattle.crate_graph_values.specs.declared.builder.CrateBuilder.{CrateBuilder}
use Rattle.crate_graph_values.specs.declared.builder.ExtraCrateData.{ExtraCrateData}
use Rattle.crate_graph_values.specs.declared.crate_data.CrateData.{CrateData}
use Rattle.crate_graph_values.specs.declared.crate_data.CrateTag.{CrateTag}
use Rattle.crate_graph_values.specs.declared.workspace_data.CrateWorkspaceData.{CrateWorkspaceData}

-- what the crate shares with its workspace
abbrev pub workspace_of : CrateBuilder → CrateWorkspaceData
workspace_of krate = krate.ws_data

-- the crate of such data, such conditional compilation and environment, and such a workspace
abbrev pub crate_of_parts : CrateData (Idx CrateTag) → ExtraCrateData → List CfgAtom → List (List ℕ × List ℕ)
    → CrateWorkspaceData → CrateBuilder
crate_of_parts basic extra cfgs env workspace = record {
  basic = basic;
  extra = extra;
  cfg_options = cfgs;
  env = env;
  ws_data = workspace;
}
