-- The configuration of a session, and what the words of the command line make of it.
use Rattle.std.specs.Prelude.{◌≡◌, ℕ, List, [], Option, None, codes, unwrap_or, if◌then◌else◌}
use Rattle.std.specs.Option.{option_map}
use Rattle.live_config.specs.Limits.{FitsLimits, greatest}
use Rattle.live_config.specs.Options.{given_options}
use Rattle.live_config.specs.declared.config.Command.{Command}
use Rattle.live_config.specs.declared.config.Command.TheVariants.{Run}
use Rattle.live_config.specs.declared.config.LiveConfig.{LiveConfig}
use Rattle.live_config.specs.declared.options.Given.{Given}
use Rattle.live_config.specs.declared.options.GivenFeatures.{GivenFeatures}
use Rattle.live_config.specs.declared.options.GivenLimits.{GivenLimits}
use Rattle.base_text_outside.specs.declared.limits.Limits.{Limits}
use Rattle.pm_cargo_config.specs.Defaults.{default_config}
use Rattle.pm_cargo_config.specs.declared.config.CargoConfig.{CargoConfig}
use Rattle.pm_cargo_config.specs.declared.features.CargoFeatures.{CargoFeatures}
use Rattle.pm_cargo_config.specs.declared.features.CargoFeatures.TheVariants.{All, Selected}
use Rattle.base_text.specs.declared.tool.Tools.{Tools}

-- a configuration that a session can have: neither a toolchain's libraries nor sources of the compiler are
-- read yet
pub record Fits (config : LiveConfig) : Type 0 where
  pub limits : FitsLimits config.limits
  pub sysroot : config.cargo.sysroot ≡ None
  pub rustc_source : config.cargo.rustc_source ≡ None

-- the tools by their usual names
abbrev pub usual_tools : Tools
usual_tools = record {
  cargo = codes "cargo";
  rustc = codes "rustc";
  rustup = codes "rustup";
  myself = codes "live";
}

-- the configuration of no words
abbrev pub first_config : LiveConfig
first_config = record { cargo = default_config; process_env = []; tools = usual_tools; limits = greatest }

-- the features that options enable
abbrev pub features_by : GivenFeatures → CargoFeatures
features_by given = if given.all then All else Selected (unwrap_or given.names []) given.no_default

-- the limits that options set
abbrev pub limits_by : GivenLimits → Limits
limits_by given = record {
  bytes = unwrap_or given.bytes greatest.bytes;
  paths = unwrap_or given.paths greatest.paths;
  packages = unwrap_or given.packages greatest.packages;
  targets = unwrap_or given.targets greatest.targets;
  crates = unwrap_or given.crates greatest.crates;
}

-- what options set of how projects are loaded
abbrev pub cargo_by : Given → CargoConfig
cargo_by given = record default_config {
  features = features_by given.features;
  target = given.target;
  extra_includes = given.extra_includes;
  extra_env = given.env;
  no_deps = given.no_deps;
}

-- the configuration that options set
abbrev pub set_by : Given → LiveConfig
set_by given = record first_config {
  cargo = cargo_by given;
  process_env = given.process_env;
  limits = limits_by given.limits;
}

-- the configuration that words give
unfoldable pub config_of : List (List ℕ) → Option LiveConfig
config_of words = option_map set_by (given_options words)

-- what words ask for: to run a script with the configuration that they give
abbrev pub command_of : List (List ℕ) → Option Command
command_of words = option_map Run (config_of words)

-- a command whose configuration a session can have
abbrev pub FitsCommand : Command → Type 0
FitsCommand (Run config) = Fits config
