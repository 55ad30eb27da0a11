-- The question by which `cargo` prints its configuration: an unstable command, which a variable allows.
use Rattle.std.specs.Prelude.{ℕ, List, [], ◌∷◌, ◌++◌, codes, Option}
use Rattle.base_text_outside.specs.declared.command.CommandLine.{CommandLine}
use Rattle.base_text_outside.specs.CommandWords.{flag_word, option_words}
use Rattle.pm_cargo_config.specs.Variables.{with_last_variable}
use Rattle.base_text.specs.declared.tool.Tool.TheVariants.{Cargo}
use Rattle.base_text_paths.specs.ManifestPath.{is_rust_manifest, directory_of}
use Rattle.pm_tools_ask.specs.Answers.{serving_answer}
use Rattle.pm_tools_ask.specs.Ask.{Means}
use Rattle.pm_tools_ask.specs.Questions.{question}
use Rattle.pm_tools_ask.specs.Toolchain.{Toolchain}

-- the words, with the configuration file that is given, and with leave for a manifest in a Rust file
abbrev pub config_words : List ℕ → Option (List ℕ) → List (List ℕ)
config_words manifest config_path =
    codes "-Z" ∷ codes "unstable-options" ∷ codes "config" ∷ codes "get" ∷ codes "--format" ∷ codes "toml"
    ∷ codes "--show-origin" ∷ []
    ++ option_words (codes "--config") config_path
    ++ flag_word (is_rust_manifest manifest) (codes "-Zscript")

-- the question, which is asked in the manifest's directory
abbrev pub config_question : List ℕ → Toolchain → Option (List ℕ) → Means → CommandLine
config_question manifest sysroot config_path means =
    with_last_variable (codes "RUSTC_BOOTSTRAP") (codes "1")
    (question sysroot.root Cargo (directory_of manifest) (config_words manifest config_path) means)

-- the configuration that is printed, where an answer serves
abbrev pub printed_config : List ℕ → Toolchain → Option (List ℕ) → Means → Option (List ℕ)
printed_config manifest sysroot config_path means =
    serving_answer means.answers (config_question manifest sysroot config_path means)
