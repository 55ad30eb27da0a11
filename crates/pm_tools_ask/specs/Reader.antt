-- What readers have still to give, of the text that is left to them.
use Rattle.std.specs.Prelude.{ℕ, List, [], ◌∷◌, ◌++◌, map, Option, Some, None}
use Rattle.std.specs.Borrow.{Bor}
use Rattle.std.specs.Option.{option_map}
use Rattle.pm_tools_ask.specs.declared.statement.OpenList.{OpenList}
use Rattle.pm_tools_ask.specs.declared.statement.Statement.{Statement}
use Rattle.pm_tools_ask.specs.declared.quotes.Quotes.TheVariants.{Outside}
use Rattle.pm_tools_ask.specs.Line.{all_of, key_of}
use Rattle.pm_tools_ask.specs.Quotes.{parts_outside}
use Rattle.pm_tools_ask.specs.Statements.{items_in, root_of_list, statements, statements_behind}

-- the statements that a reader gives of the lines that are left: what it holds of an open list is completed
-- by them
abbrev pub statements_left : Option OpenList → List (List ℕ) → List Statement
statements_left None lines = statements lines
statements_left (Some list) lines =
    record { keys = list.keys; root = root_of_list lines; items = list.items.items ++ items_in lines }
    ∷ statements_behind lines

-- the parts of the text that is left, where there is one
abbrev pub parts_left : Option (Bor (List ℕ)) → List (List ℕ)
parts_left None = []
parts_left (Some text) = parts_outside 46 Outside text.now

-- the keys of that text
abbrev pub keys_left : Option (Bor (List ℕ)) → Option (List (List ℕ))
keys_left text = all_of (map key_of (parts_left text))

-- keys with those that were read before them
abbrev pub with_keys : List (List ℕ) → Option (List (List ℕ)) → Option (List (List ℕ))
with_keys before keys = option_map (λ more. before ++ more) keys
