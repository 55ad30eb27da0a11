-- What is asked of a toolchain's version, in the order of Cargo's `semver`.
use Rattle.std.specs.Prelude.{Bool, false, [], Option, Some, None}
use Rattle.std.specs.Ordering.{is_le}
use Rattle.base_values.specs.Version.{Parts, version_cmp}

-- a version that is known to be 1.87.0 or later
abbrev pub is_at_least_187 : Option Parts → Bool
is_at_least_187 None = false
is_at_least_187 (Some version) = is_le (version_cmp (1, 87, 0, [], []) version)
