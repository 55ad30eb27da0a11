-- What is configured where a user says nothing: everything is off, empty or left to the type's default.
use Rattle.std.specs.Prelude.{false, [], None}
use Rattle.pm_cargo_config.specs.Overrides.{no_overrides}
use Rattle.pm_cargo_config.specs.declared.config.CargoConfig.{CargoConfig}
use Rattle.pm_cargo_config.specs.declared.config.InvocationStrategy.TheVariants.{PerWorkspace}
use Rattle.pm_cargo_config.specs.declared.features.CargoFeatures.{CargoFeatures}
use Rattle.pm_cargo_config.specs.declared.features.CargoFeatures.TheVariants.{Selected}
use Rattle.pm_cargo_config.specs.declared.target_dir.TargetDirectoryConfig.TheVariants as dir

-- the default features
abbrev pub default_features : CargoFeatures
default_features = Selected [] false

-- nothing is configured
abbrev pub default_config : CargoConfig
default_config = record {
  all_targets = false;
  features = default_features;
  target = None;
  sysroot = None;
  sysroot_src = None;
  rustc_source = None;
  extra_includes = [];
  cfg_overrides = no_overrides;
  wrap_rustc_in_build_scripts = false;
  run_build_script_command = None;
  extra_args = [];
  metadata_extra_args = [];
  config_path = None;
  extra_env = [];
  invocation_strategy = PerWorkspace;
  target_dir_config = dir.None;
  set_test = false;
  no_deps = false;
}
