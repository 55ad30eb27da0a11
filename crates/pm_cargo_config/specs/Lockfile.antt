-- How `cargo` is given the path of a lockfile: by a flag since 1.82.0, by a variable and an unstable option
-- since 1.95.0, by a variable alone since 1.97.0.
use Rattle.std.specs.Prelude.{if◌then◌else◌, Option, Some, None}
use Rattle.base_values.specs.Version.{Parts}
use Rattle.pm_cargo_config.specs.Versions.{is_at_least}
use Rattle.pm_cargo_config.specs.declared.lockfile.LockfileUsage.{LockfileUsage}
use Rattle.pm_cargo_config.specs.declared.lockfile.LockfileUsage.TheVariants.{WithFlag, WithEnvVarUnstable, WithEnvVar}

-- how a version is given it, where it can be
abbrev pub usage_of : Parts → Option LockfileUsage
usage_of version =
    if is_at_least (1, 97, 0) version then Some WithEnvVar
    else if is_at_least (1, 95, 0) version then Some WithEnvVarUnstable
    else if is_at_least (1, 82, 0) version then Some WithFlag
    else None
