-- the command that asks for metadata: the words of `cargo metadata`, by what was set
use Rattle.std.specs.Prelude.{◌≡◌, ℕ, List, [], ◌∷◌, ◌++◌, Bool, true, false, codes, Option, None, unwrap_or}
use Rattle.std.specs.List.{join_by}
use Rattle.base_values.specs.ByText.{with_value}
use Rattle.base_text_outside.specs.declared.command.CommandLine.{CommandLine}
use Rattle.cargo_meta.specs.declared.command.CargoOpt.{CargoOpt}
use Rattle.cargo_meta.specs.declared.command.CargoOpt.TheVariants.{AllFeatures, NoDefaultFeatures, SomeFeatures}
use Rattle.base_text_outside.specs.CommandWords.{flag_word, option_words}

-- what was set of a command; a variable without a value is removed
pub record Settings : Type 0 where
  pub cargo_path : Option (List ℕ)
  pub manifest_path : Option (List ℕ)
  pub current_dir : Option (List ℕ)
  pub no_deps : Bool
  pub features : List (List ℕ)
  pub all_features : Bool
  pub no_default_features : Bool
  pub other_options : List (List ℕ)
  pub env : List (List ℕ × Option (List ℕ))
  pub verbose : Bool

-- nothing is set
abbrev pub nothing_set : Settings
nothing_set = record {
  cargo_path = None;
  manifest_path = None;
  current_dir = None;
  no_deps = false;
  features = [];
  all_features = false;
  no_default_features = false;
  other_options = [];
  env = [];
  verbose = false;
}

-- features are named behind those named before; a flag is set
abbrev pub with_features : CargoOpt → Settings → Settings
with_features AllFeatures s = record s { all_features = true }
with_features NoDefaultFeatures s = record s { no_default_features = true }
with_features (SomeFeatures names) s = record s { features = s.features ++ names }

-- the flag was not given before
abbrev pub IsFirstGiven : CargoOpt → Settings → Type 0
IsFirstGiven AllFeatures s = s.all_features ≡ false
IsFirstGiven NoDefaultFeatures s = s.no_default_features ≡ false
IsFirstGiven (SomeFeatures names) s = Unit {0}

-- a variable is set, or removed where it has no value, in place of what was said of it before
abbrev pub with_env : List ℕ → Option (List ℕ) → Settings → Settings
with_env key value s = record s { env = with_value key value s.env }

-- the texts with one between each two
abbrev pub joined_text : List ℕ → List (List ℕ) → List ℕ
joined_text between texts = join_by (λ text. text) between texts

-- the features, joined by commas, where some are named
abbrev pub feature_words : List (List ℕ) → List (List ℕ)
feature_words [] = []
feature_words (name ∷ names) = codes "--features" ∷ joined_text (codes ",") (name ∷ names) ∷ []

-- the words of the command
unfoldable pub words_of : Settings → List (List ℕ)
words_of s =
    codes "metadata" ∷ codes "--format-version" ∷ codes "1" ∷ []
    ++ flag_word s.no_deps (codes "--no-deps")
    ++ feature_words s.features
    ++ flag_word s.all_features (codes "--all-features")
    ++ flag_word s.no_default_features (codes "--no-default-features")
    ++ option_words (codes "--manifest-path") s.manifest_path
    ++ s.other_options

-- the command: its program is `cargo`, and it runs where it is asked, unless another is set
abbrev pub metadata_command : Settings → CommandLine
metadata_command s = record {
  program = unwrap_or s.cargo_path (codes "cargo");
  words = words_of s;
  dir = unwrap_or s.current_dir [];
  env = s.env;
}
