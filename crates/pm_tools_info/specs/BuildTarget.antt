-- The platforms that a printed configuration states as `build.target`.
use Rattle.std.specs.Prelude.{ℕ, List, [], ◌∷◌, Option, codes}
use Rattle.std.specs.Option.{option_and_then}
use Rattle.std.specs.Str.Lines.{lines}
use Rattle.pm_tools_ask.specs.Statements.{statement_of, statements}
use Rattle.pm_tools_ask.specs.declared.statement.Statement.{Statement}
use Rattle.pm_tools_ask.specs.Config.{value_at_keys}
use Rattle.pm_tools_info.specs.StatedTargets.{statement_root, targets_at}

-- the keys of that value
abbrev pub build_target_keys : List (List ℕ)
build_target_keys = codes "build" ∷ codes "target" ∷ []

-- the statement of that value in the printed text, where there is one
abbrev pub build_target_statement : List ℕ → Option Statement
build_target_statement config = statement_of build_target_keys (statements (lines config))

-- the platforms that a configuration states, each JSON file below the directory that its text is relative to
abbrev pub build_targets : List ℕ → Option (List (List ℕ))
build_targets config =
    option_and_then (targets_at (statement_root (build_target_statement config)))
    (value_at_keys config build_target_keys)
