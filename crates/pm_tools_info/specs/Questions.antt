-- The questions that the tools of a toolchain are asked, in the order in which they are asked: programs,
-- words, directories and variables.
use Rattle.std.specs.Prelude.{ℕ, true, false, if◌then◌else◌, List, [], ◌∷◌, ◌++◌, Option, Some, None, codes}
use Rattle.std.specs.Option.{option_map_or}
use Rattle.base_values.specs.Version.{Parts}
use Rattle.base_text_outside.specs.declared.command.CommandLine.{CommandLine}
use Rattle.base_text_outside.specs.CommandWords.{flag_word, option_words}
use Rattle.pm_cargo_config.specs.Variables.{with_channel, with_last_variable}
use Rattle.pm_cargo_config.specs.Versions.{needs_json_flag}
use Rattle.base_text.specs.declared.tool.Tool.TheVariants.{Cargo as cargo, Rustc as rustc}
use Rattle.pm_tools_ask.specs.Ask.{Means}
use Rattle.pm_tools_ask.specs.Questions.{question}
use Rattle.pm_tools_info.specs.Config.{Query, tool_of}
use Rattle.pm_tools_info.specs.declared.questions.Questions.{Questions}

-- one question
abbrev pub one_question : CommandLine → Questions
one_question line = record { first = None; last = line }

-- where cargo is asked, its question comes first; the compiler's comes last, or alone
abbrev pub in_turn : Query → CommandLine → CommandLine → Questions
in_turn query of_cargo of_rustc =
    record { first = if query.by_cargo then Some of_cargo else None; last = of_rustc }

-- the words for a platform, where one is given
abbrev pub target_words : Option (List ℕ) → List (List ℕ)
target_words target = option_words (codes "--target") target

-- which platform the compiler runs on
unfoldable pub host_questions : Query → Means → Questions
host_questions query means =
    one_question (question query.sysroot.root rustc query.dir (codes "-vV" ∷ []) means)

-- which version a tool is of
unfoldable pub version_questions : Query → Means → Questions
version_questions query means =
    one_question (question query.sysroot.root (tool_of query) query.dir (codes "--version" ∷ []) means)

-- the words that ask cargo for the atoms of a platform
abbrev pub cargo_cfg_words : Option (List ℕ) → List (List ℕ)
cargo_cfg_words target =
    (codes "rustc" ∷ codes "-Z" ∷ codes "unstable-options" ∷ codes "--print" ∷ codes "cfg" ∷ [])
    ++ target_words target
    ++ codes "--" ∷ codes "-O" ∷ []

-- the words that ask the compiler for them
abbrev pub rustc_cfg_words : Option (List ℕ) → List (List ℕ)
rustc_cfg_words target = (codes "--print" ∷ codes "cfg" ∷ codes "-O" ∷ []) ++ target_words target

-- which atoms hold for a platform, or for that of the configuration; cargo takes the options of a nightly for
-- this question
unfoldable pub cfg_questions : Query → Option (List ℕ) → Means → Questions
cfg_questions query target means =
    in_turn query
    (with_channel true (question query.sysroot.root cargo query.dir (cargo_cfg_words target) means))
    (question query.sysroot.root rustc query.dir (rustc_cfg_words target) means)

-- the words that ask cargo for the specification of a platform; the version is that of the toolchain
abbrev pub cargo_spec_words : Option (List ℕ) → Option Parts → List (List ℕ)
cargo_spec_words target version =
    (codes "rustc" ∷ codes "-Z" ∷ codes "unstable-options" ∷ codes "--print" ∷ codes "target-spec-json" ∷ [])
    ++ target_words target
    ++ flag_word (option_map_or (needs_json_flag version) target false) (codes "-Zjson-target-spec")
    ++ codes "--" ∷ codes "-Z" ∷ codes "unstable-options" ∷ []

-- the words that ask the compiler for it
abbrev pub rustc_spec_words : Option (List ℕ) → List (List ℕ)
rustc_spec_words target =
    (codes "-Z" ∷ codes "unstable-options" ∷ codes "--print" ∷ codes "target-spec-json" ∷ [])
    ++ target_words target

-- a question that a stable compiler answers too
abbrev pub with_bootstrap : CommandLine → CommandLine
with_bootstrap line = with_last_variable (codes "RUSTC_BOOTSTRAP") (codes "1") line

-- what the specification of a platform is, or of that of the configuration
unfoldable pub spec_questions : Query → Option (List ℕ) → Option Parts → Means → Questions
spec_questions query target version means =
    in_turn query
    (with_bootstrap (question query.sysroot.root cargo query.dir (cargo_spec_words target version) means))
    (with_bootstrap (question query.sysroot.root rustc query.dir (rustc_spec_words target) means))
