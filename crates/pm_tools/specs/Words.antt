-- The words of the build question: what `cargo check` is asked, by the configuration, the workspace and the
-- version of the toolchain. They are this project's own profile.
use Rattle.std.specs.Prelude.{ℕ, Bool, ◌||◌, false, if◌then◌else◌, List, [], ◌∷◌, ◌++◌, codes, filter, Option, Some, None}
use Rattle.base_values.specs.Version.{Parts}
use Rattle.cargo_meta.specs.Command.{joined_text}
use Rattle.base_text_outside.specs.CommandWords.{flag_word, option_words}
use Rattle.pm_cargo.specs.Queries.{is_feature}
use Rattle.pm_cargo.specs.Workspace.{Workspace}
use Rattle.pm_cargo_config.specs.TargetDir.{target_dir}
use Rattle.pm_cargo_config.specs.Versions.{is_at_least, needs_json_flag}
use Rattle.pm_cargo_config.specs.declared.config.CargoConfig.{CargoConfig}
use Rattle.pm_cargo_config.specs.declared.features.CargoFeatures.{CargoFeatures}
use Rattle.pm_cargo_config.specs.declared.features.CargoFeatures.TheVariants.{All, Selected}
use Rattle.base_text_paths.specs.ManifestPath.{is_rust_manifest}

-- whether a build can be limited to what is needed at compile time: the version is known to be 1.89.0 or
-- later
unfoldable pub takes_compile_time_deps : Option Parts → Bool
takes_compile_time_deps None = false
takes_compile_time_deps (Some version) = is_at_least (1, 89, 0) version

-- whether the build uses unstable options: that of a script, and one that is limited
abbrev pub is_unstable : List ℕ → Option Parts → Bool
is_unstable manifest version = is_rust_manifest manifest || takes_compile_time_deps version

-- the words that each build begins with
abbrev pub first_words : List (List ℕ)
first_words = codes "check" ∷ codes "--quiet" ∷ codes "--workspace" ∷ codes "--message-format=json" ∷ []

-- the configuration file, where one is set, the manifest, and the directory that is written into, where there
-- is one
abbrev pub place_words : CargoConfig → Workspace → List (List ℕ)
place_words config w =
    option_words (codes "--config") config.config_path
    ++ (codes "--manifest-path" ∷ w.manifest_path ∷ [])
    ++ option_words (codes "--target-dir") (target_dir config.target_dir_config (Some w.target_directory))

-- the platform that is built for, where one is set
abbrev pub platform_words : Option Parts → Option (List ℕ) → List (List ℕ)
platform_words version None = []
platform_words version (Some target) =
    codes "--target" ∷ target ∷ [] ++ flag_word (needs_json_flag version target) (codes "-Zjson-target-spec")

-- where features are selected, those of them that the workspace has
abbrev pub selected_words : Workspace → List (List ℕ) → List (List ℕ)
selected_words w [] = []
selected_words w (first ∷ others) =
    codes "--features" ∷ joined_text (codes ",") (filter (is_feature w) (first ∷ others)) ∷ []

-- the features that are enabled: all of them, or the selected ones beside the default, unless that is left
-- out
abbrev pub build_feature_words : Workspace → CargoFeatures → List (List ℕ)
build_feature_words w All = codes "--all-features" ∷ []
build_feature_words w (Selected features no_default) =
    flag_word no_default (codes "--no-default-features") ++ selected_words w features

-- which kinds of targets are built
abbrev pub coverage_words : Bool → Option Parts → List (List ℕ)
coverage_words all_targets version =
    if takes_compile_time_deps version then codes "--compile-time-deps" ∷ codes "--all-targets" ∷ []
    else flag_word all_targets (codes "--all-targets")

-- the words of a build, in order
unfoldable pub build_words : CargoConfig → Workspace → Option Parts → List (List ℕ)
build_words config w version =
    first_words
    ++ config.extra_args
    ++ place_words config w
    ++ platform_words version config.target
    ++ build_feature_words w config.features
    ++ flag_word (is_rust_manifest w.manifest_path) (codes "-Zscript")
    ++ (codes "--keep-going" ∷ [])
    ++ coverage_words config.all_targets version
    ++ flag_word (is_unstable w.manifest_path version) (codes "-Zunstable-options")
