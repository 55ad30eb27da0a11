-- The environment that a crate is built in: variables and values, ascending by the variables' bytes.
use Rattle.std.specs.Prelude.{◌≡◌, ◌≤◌, ℕ, List, fold, length, take, String, string_bytes}
use Rattle.std.specs.declared.alloc.Global.{Global}
use Rattle.base_values.specs.ByText.{with_value}

-- a variable and its value, as their bytes
abbrev pub pair_text : String Global × String Global → List ℕ × List ℕ
pair_text p = (string_bytes p.0, string_bytes p.1)

-- the environment with a variable set to its value
abbrev pub with_pair : List (List ℕ × List ℕ) → String Global × String Global → List (List ℕ × List ℕ)
with_pair env pair = with_value (string_bytes pair.0) (string_bytes pair.1) env

-- the environment with each of the pairs set in turn
abbrev pub with_pairs : List (List ℕ × List ℕ) → List (List ℕ × List ℕ) → List (List ℕ × List ℕ)
with_pairs env pairs = fold (λ set pair. with_value pair.0 pair.1 set) env pairs

-- the new environment has the first of the pairs set, and no other
pub record TakesSome (old pairs new : List (List ℕ × List ℕ)) : Type 0 where
  pub count : ℕ
  pub within : count ≤ length pairs
  pub is : new ≡ with_pairs old (take count pairs)
