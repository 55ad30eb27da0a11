-- The options that metadata questions end with, by what a user configures.
use Rattle.std.specs.Prelude.{ℕ, Bool, if◌then◌else◌, nat_eq, bytes_eq, List, [], ◌∷◌, ◌++◌, codes, flat_map}
use Rattle.std.specs.List.{list_any, starts_with}
use Rattle.base_text_outside.specs.CommandWords.{flag_word, option_words}
use Rattle.pm_cargo_config.specs.Versions.{needs_json_flag}
use Rattle.pm_cargo_config.specs.declared.metadata_config.CargoMetadataConfig.{CargoMetadataConfig}
use Rattle.base_text_paths.specs.ManifestPath.{is_rust_manifest}

-- each `-Z` among some words, with the word behind it
unfoldable pub unstable_pairs : List (List ℕ) → List (List ℕ)
unstable_pairs [] = []
unstable_pairs (word ∷ []) = []
unstable_pairs (word ∷ next ∷ rest) =
    if bytes_eq word (codes "-Z") then word ∷ next ∷ unstable_pairs rest else unstable_pairs (next ∷ rest)

-- dependencies are wanted for these platforms alone
abbrev pub filter_words : List (List ℕ) → List (List ℕ)
filter_words targets = flat_map (λ target. codes "--filter-platform" ∷ target ∷ []) targets

-- the options of both questions
abbrev pub options_of : List ℕ → CargoMetadataConfig → List (List ℕ)
options_of manifest config =
    unstable_pairs config.extra_args
    ++ config.metadata_extra_args
    ++ option_words (codes "--config") config.config_path
    ++ flag_word (is_rust_manifest manifest) (codes "-Zscript")
    ++ filter_words config.targets
    ++ flag_word (list_any (needs_json_flag config.toolchain_version) config.targets)
    (codes "-Zjson-target-spec")

-- an unstable option
abbrev pub is_unstable_option : List ℕ → Bool
is_unstable_option option = starts_with nat_eq option (codes "-Z")

-- one of the options is unstable
abbrev pub has_unstable : List (List ℕ) → Bool
has_unstable options = list_any is_unstable_option options

-- the options of the full question, unless it is locked: unstable ones must be allowed
abbrev pub full_options : List (List ℕ) → List (List ℕ)
full_options options = options ++ flag_word (has_unstable options) (codes "-Zunstable-options")
