-- The order of durabilities, from the documentation of inputs in the original's incremental database.
use Rattle.std.specs.Prelude.{ℕ}
use Rattle.input_db_files.specs.declared.durability.Durability.{Durability}
use Rattle.input_db_files.specs.declared.durability.Durability.TheVariants.{Low, Medium, High}

-- how seldom a value is expected to change: 0 for what changes often, and 2 for what hardly ever does
abbrev pub durability_level : Durability → ℕ
durability_level Low = 0
durability_level Medium = 1
durability_level High = 2
