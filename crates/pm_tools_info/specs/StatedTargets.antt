-- The platforms that a configuration may state: a text, or a list of texts. A value of another shape states
-- none.
use Rattle.std.specs.Prelude.{ℕ, suc, if◌then◌else◌, List, [], ◌∷◌, Option, Some, None}
use Rattle.std.specs.Option.{option_and_then, option_map}
use Rattle.toml.specs.Data.{Data, as_str, string, integer, float, boolean, datetime, array, table, Items, no_items, item}
use Rattle.base_text_paths.specs.Paths.{components_with_tail, path_text}
use Rattle.pm_tools_ask.specs.declared.statement.Statement.{Statement}
use Rattle.pm_tools_ask.specs.Statements.{root_at}
use Rattle.pm_cargo_config.specs.Versions.{is_json_target}

-- the directory that the value of a statement is relative to, or an item of its list, where there is a
-- statement
abbrev pub statement_root : Option Statement → Option ℕ → Option (List ℕ)
statement_root statement place = option_and_then (root_at place) statement

-- a platform by the directory that its text is relative to: the path of a JSON file is joined to it
abbrev pub joined_target : Option (List ℕ) → List ℕ → List ℕ
joined_target None target = target
joined_target (Some root) target =
    if is_json_target target then path_text (components_with_tail root target) else target

-- the platforms of the items from position n on, where each is a text; `roots` has the directory of each item
abbrev pub targets_from : (Option ℕ → Option (List ℕ)) → ℕ → Items → Option (List (List ℕ))
targets_from roots n no_items = Some []
targets_from roots n (item d ds) =
    option_and_then
    (λ target. option_map (λ more. joined_target (roots (Some n)) target
    ∷ more) (targets_from roots (suc n) ds))
    (as_str d)

-- the platforms of a value; `roots` has the directory of the value, and of each item
abbrev pub targets_at : (Option ℕ → Option (List ℕ)) → Data → Option (List (List ℕ))
targets_at roots (string target) = Some (joined_target (roots None) target ∷ [])
targets_at roots (integer z) = None
targets_at roots (float x) = None
targets_at roots (boolean b) = None
targets_at roots (datetime dt) = None
targets_at roots (array ds) = targets_from roots 0 ds
targets_at roots (table ms) = None
