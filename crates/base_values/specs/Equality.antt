-- What it is for an equality to be that of contents: no two values that differ are equal.
use Rattle.std.specs.Prelude.{◌≡◌, ◌↔◌, Bool, true}

-- a test that is true exactly of values that are the same
abbrev pub IsContentEquality : {A : Type 0} → (A → A → Bool) → Type 0
IsContentEquality {A} eq = (x y : A) → (eq x y ≡ true) ↔ (x ≡ y)
