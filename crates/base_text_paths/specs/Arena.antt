-- Numbers of values in an arena, which are the places at which the values stand.
use Rattle.std.specs.Prelude.{ℕ, List}
use Rattle.std.specs.List.{enumerate_from}
use Rattle.base_text_paths.specs.declared.arena.Idx.{Idx}

-- the place of the value that has the number
abbrev pub number_of : {K : Type 0} → Idx K → ℕ
number_of id = id.raw

-- each value with its number, from the first on
abbrev pub with_numbers : {T : Type 0} → List T → List (ℕ × T)
with_numbers values = enumerate_from 0 values
