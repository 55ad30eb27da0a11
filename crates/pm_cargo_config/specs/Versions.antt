-- From which version on something holds, in the order of Cargo's `semver`, where a pre-release comes before
-- its release.
use Rattle.std.specs.Prelude.{ℕ, Bool, false, ◌&&◌, nat_eq, List, [], codes, Option, Some, None}
use Rattle.std.specs.List.{ends_with}
use Rattle.std.specs.Ordering.{is_le}
use Rattle.base_values.specs.Version.{Parts, version_cmp}

-- the version is a release, or comes after it
abbrev pub is_at_least : ℕ × ℕ × ℕ → Parts → Bool
is_at_least release version = is_le (version_cmp (release.0, release.1, release.2, [], []) version)

-- a platform that a JSON file describes
abbrev pub is_json_target : List ℕ → Bool
is_json_target target = ends_with nat_eq target (codes ".json")

-- such a platform needs the option `-Zjson-target-spec`, where the version is known to be 1.95.0 or later
abbrev pub needs_json_flag : Option Parts → List ℕ → Bool
needs_json_flag None target = false
needs_json_flag (Some version) target = is_json_target target && is_at_least (1, 95, 0) version
