-- The limits of a session: the greatest ones, and which limits a session can have.
use Rattle.std.specs.Prelude.{◌^◌, ◌≤◌}
use Rattle.base_text_outside.specs.declared.limits.Limits.{Limits}

-- the greatest limits, which hold where no word sets one
abbrev pub greatest : Limits
greatest = record { bytes = 2 ^ 30; paths = 2 ^ 20; packages = 2 ^ 16; targets = 2 ^ 18; crates = 2 ^ 18 }

-- no limit is above its greatest value
pub record FitsLimits (limits : Limits) : Type 0 where
  pub bytes : limits.bytes ≤ greatest.bytes
  pub paths : limits.paths ≤ greatest.paths
  pub packages : limits.packages ≤ greatest.packages
  pub targets : limits.targets ≤ greatest.targets
  pub crates : limits.crates ≤ greatest.crates
