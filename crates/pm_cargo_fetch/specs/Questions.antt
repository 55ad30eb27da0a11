-- The questions for metadata: what `cargo` is asked, and where. The light question is for the members alone,
-- the full one for all packages.
use Rattle.std.specs.Prelude.{ℕ, Bool, true, false, List, [], ◌∷◌, ◌++◌, codes, fold, Some, unwrap_or}
use Rattle.base_values.specs.ByText.{with_value}
use Rattle.base_text_outside.specs.declared.command.CommandLine.{CommandLine}
use Rattle.cargo_meta.specs.Command.{feature_words}
use Rattle.base_text_outside.specs.CommandWords.{flag_word}
use Rattle.base_text.specs.Tools.{Variables, tool_command}
use Rattle.pm_cargo_config.specs.Variables.{with_channel}
use Rattle.pm_cargo_config.specs.declared.features.CargoFeatures.{CargoFeatures}
use Rattle.pm_cargo_config.specs.declared.features.CargoFeatures.TheVariants.{All, Selected}
use Rattle.pm_cargo_config.specs.declared.metadata_config.CargoMetadataConfig.{CargoMetadataConfig}
use Rattle.base_text.specs.declared.tool.Tool.TheVariants.{Cargo}
use Rattle.base_text.specs.declared.tool_root.ToolRoot.{ToolRoot}
use Rattle.pm_cargo_fetch.specs.Options.{full_options, has_unstable, options_of}

-- the features that are named
abbrev pub named_features : CargoFeatures → List (List ℕ)
named_features All = []
named_features (Selected features no_default) = features

-- all features are enabled
abbrev pub enables_all : CargoFeatures → Bool
enables_all All = true
enables_all (Selected features no_default) = false

-- the default features are left out
abbrev pub leaves_default_out : CargoFeatures → Bool
leaves_default_out All = false
leaves_default_out (Selected features no_default) = no_default

-- the variables so far, with more of them set; one that is removed becomes the empty text
abbrev pub with_variables : Variables → Variables → Variables
with_variables variables so_far =
    fold (λ env variable. with_value variable.0 (Some (unwrap_or variable.1 [])) env) so_far variables

-- the variables of a metadata question: `rustup` installs nothing, unless a user says otherwise
abbrev pub question_variables : Variables → Variables
question_variables variables = with_variables variables ((codes "RUSTUP_AUTO_INSTALL", Some (codes "0")) ∷ [])

-- a metadata question, with the word that limits it and the options that it ends with
abbrev pub metadata_question : List (List ℕ) → List (List ℕ) → List ℕ → List ℕ → CargoMetadataConfig
    → ToolRoot → CommandLine
metadata_question limit options manifest dir config root =
    let start = tool_command root Cargo dir config.extra_env in
    record {
      program = start.program;
      words =
          codes "metadata" ∷ codes "--format-version" ∷ codes "1" ∷ []
          ++ limit
          ++ feature_words (named_features config.features)
          ++ flag_word (enables_all config.features) (codes "--all-features")
          ++ flag_word (leaves_default_out config.features) (codes "--no-default-features")
          ++ codes "--manifest-path" ∷ manifest ∷ []
          ++ options;
      dir = dir;
      env = question_variables start.env;
    }

-- the light question
abbrev pub light_question : List ℕ → List ℕ → CargoMetadataConfig → ToolRoot → CommandLine
light_question manifest dir config =
    metadata_question (codes "--no-deps" ∷ []) (options_of manifest config) manifest dir config

-- the full question, before it is said whether the lockfile is kept: where unstable options are allowed,
-- `cargo` takes itself for one of the nightly channel
abbrev pub full_question : List ℕ → List ℕ → CargoMetadataConfig → ToolRoot → CommandLine
full_question manifest dir config root =
    let options = options_of manifest config in
    with_channel (has_unstable options) (metadata_question [] (full_options options) manifest dir config root)

-- a question that keeps the lockfile as it is, where that is asked for
abbrev pub locked_question : CommandLine → Bool → CommandLine
locked_question line locked = record line { words = line.words ++ flag_word locked (codes "--locked") }
