-- What is set of the command that asks for metadata, before its options are.
use Rattle.std.specs.Prelude.{ℕ, false, List, [], Some}
use Rattle.cargo_meta.specs.Command.{Settings}
use Rattle.base_text.specs.Tools.{tool_command}
use Rattle.pm_cargo_config.specs.declared.metadata_config.CargoMetadataConfig.{CargoMetadataConfig}
use Rattle.base_text.specs.declared.tool.Tool.TheVariants.{Cargo}
use Rattle.base_text.specs.declared.tool_root.ToolRoot.{ToolRoot}
use Rattle.pm_cargo_fetch.specs.Questions.{enables_all, leaves_default_out, named_features, question_variables}

-- everything but the options
abbrev pub settings_of : List ℕ → List ℕ → CargoMetadataConfig → ToolRoot → Settings
settings_of manifest dir config root =
    let start = tool_command root Cargo dir config.extra_env in
    record {
      cargo_path = Some start.program;
      manifest_path = Some manifest;
      current_dir = Some dir;
      no_deps = false;
      features = named_features config.features;
      all_features = enables_all config.features;
      no_default_features = leaves_default_out config.features;
      other_options = [];
      env = question_variables start.env;
      verbose = false;
    }
