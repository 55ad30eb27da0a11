-- The directories that the variables of a configuration's table `env` are relative to, by the statements of
-- their flags `relative`.
use Rattle.std.specs.Prelude.{ℕ, ◌&&◌, if◌then◌else◌, bytes_eq, List, [], ◌∷◌, codes, Option, Some, None}
use Rattle.std.specs.Option.{option_map}
use Rattle.pm_tools_ask.specs.Statements.{statement_of}
use Rattle.pm_tools_ask.specs.declared.statement.Statement.{Statement}
use Rattle.pm_tools_ask.specs.ConfigEnv.{relative_keys}

-- the variable whose flag `relative` stands at some keys
abbrev pub relative_variable : List (List ℕ) → Option (List ℕ)
relative_variable (table ∷ name ∷ flag ∷ []) =
    if bytes_eq table (codes "env") && bytes_eq flag (codes "relative") then Some name else None
relative_variable _ = None

-- the directory that one statement gives a variable: its own, where it is that of the variable's flag
abbrev pub root_for : List ℕ → Option (List ℕ) → Option (List ℕ) → Option (Option (List ℕ))
root_for name None root = None
root_for name (Some variable) root = if bytes_eq variable name then Some root else None

-- the directory of the first statement of a variable's flag, where there is such a statement
abbrev pub relative_root : List ℕ → List Statement → Option (Option (List ℕ))
relative_root name statements = option_map (λ s. s.root) (statement_of (relative_keys name) statements)
