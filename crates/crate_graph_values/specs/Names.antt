-- Names of crates: Rust's code writes an underscore where Cargo's manifests may write a dash.
use Rattle.std.specs.Prelude.{ℕ, Bool, List, map, ◌==◌, if◌then◌else◌}
use Rattle.std.specs.List.{list_any}

-- whether a text holds a dash
abbrev pub has_dash : List ℕ → Bool
has_dash text = list_any (λ b. b == 45) text

-- a text with an underscore for each dash
abbrev pub with_underscores : List ℕ → List ℕ
with_underscores text = map (λ b. if b == 45 then 95 else b) text

-- the names under which a crate is shown
pub record DisplayName : Type 0 where
  -- with underscores
  pub crate_name : List ℕ
  -- as the crate calls itself
  pub canonical_name : List ℕ

-- the names of a crate that calls itself so
abbrev pub shown_as : List ℕ → DisplayName
shown_as name = record { crate_name = with_underscores name; canonical_name = name }
