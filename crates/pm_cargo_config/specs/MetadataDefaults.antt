-- How metadata is asked for where a user says nothing.
use Rattle.std.specs.Prelude.{◌≡◌, [], None}
use Rattle.pm_cargo_config.specs.Defaults.{default_features}
use Rattle.pm_cargo_config.specs.declared.metadata_config.CargoMetadataConfig.{CargoMetadataConfig}

-- nothing is configured
pub record IsNothingConfigured (config : CargoMetadataConfig) : Type 0 where
  pub features : config.features ≡ default_features
  pub targets : config.targets ≡ []
  pub extra_args : config.extra_args ≡ []
  pub metadata_extra_args : config.metadata_extra_args ≡ []
  pub config_path : config.config_path ≡ None
  pub extra_env : config.extra_env ≡ []
  pub kind : config.kind.now ≡ []
  pub toolchain_version : config.toolchain_version ≡ None
