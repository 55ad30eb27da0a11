-- The statements of a printed configuration and where their values come from: a function of the lines alone,
-- also where TOML refuses the text.
use Rattle.std.specs.Prelude.{ℕ, nat_eq, if◌then◌else◌, List, [], ◌∷◌, Option, Some, None, slice_get}
use Rattle.std.specs.Cmp.Lexicographic.{pointwise}
use Rattle.std.specs.Option.{option_and_then}
use Rattle.std.specs.Str.{trim_start}
use Rattle.std.specs.Str.Lines.{lines}
use Rattle.pm_tools_ask.specs.declared.form.Form.{Form}
use Rattle.pm_tools_ask.specs.declared.form.Form.TheVariants.{Value, Opens, Other}
use Rattle.pm_tools_ask.specs.declared.form.ItemForm.{ItemForm}
use Rattle.pm_tools_ask.specs.declared.form.ItemForm.TheVariants.{Item, Closes, Neither}
use Rattle.pm_tools_ask.specs.declared.statement.Statement.{Statement}
use Rattle.pm_tools_ask.specs.Line.{after_value, behind_byte, keys_of, opens_list, root_by_comment, sides_of}

-- KEYS before a VALUE with its REST, or before no VALUE
abbrev pub value_form : List (List ℕ) → Option (List ℕ) → Form
value_form keys None = Other
value_form keys (Some rest) = Value keys (root_by_comment rest)

-- KEYS before what is written behind `=`
abbrev pub keyed_form : List ℕ → Option (List (List ℕ)) → Form
keyed_form value None = Other
keyed_form value (Some keys) = if opens_list value then Opens keys else value_form keys (after_value value)

-- what stands on both sides of `=`
abbrev pub sided_form : Option (List ℕ × List ℕ) → Form
sided_form None = Other
sided_form (Some sides) = keyed_form sides.1 (keys_of sides.0)

-- what a line is where no list is open
unfoldable pub line_form : List ℕ → Form
line_form line = sided_form (sides_of line)

-- an item by its REST, where the line has a VALUE
abbrev pub value_item : Option (List ℕ) → ItemForm
value_item None = Neither
value_item (Some rest) = Item (root_by_comment rest)

-- the end of the list by its REST, or else what the text is
abbrev pub bracket_item : List ℕ → Option (List ℕ) → ItemForm
bracket_item text None = value_item (after_value text)
bracket_item text (Some rest) = Closes (root_by_comment rest)

-- what a line is where a list is open
unfoldable pub item_form : List ℕ → ItemForm
item_form line = bracket_item (trim_start line) (behind_byte 93 (trim_start line))

-- the roots of the items up to the line that closes the list: that of a line, before those of the lines
-- behind it
abbrev pub items_by : ItemForm → List (Option (List ℕ)) → List (Option (List ℕ))
items_by (Item root) more = root ∷ more
items_by (Closes root) more = []
items_by Neither more = more

-- the roots of the items of the list that is open before some lines
unfoldable pub items_in : List (List ℕ) → List (Option (List ℕ))
items_in [] = []
items_in (line ∷ lines) = items_by (item_form line) (items_in lines)

-- the root that a line gives its list, or else the one that a later line gives it
abbrev pub root_by_line : ItemForm → Option (List ℕ) → Option (List ℕ)
root_by_line (Item root) later = later
root_by_line (Closes root) later = root
root_by_line Neither later = later

-- the root of the list that is open before some lines, which stands on the line that closes it
unfoldable pub root_of_list : List (List ℕ) → Option (List ℕ)
root_of_list [] = None
root_of_list (line ∷ lines) = root_by_line (item_form line) (root_of_list lines)

-- what a line states, before the statements of the lines behind it: `next` where it opens no list, and
-- `behind` where it opens one
abbrev pub statements_of_form : Form → List (List ℕ) → List Statement → List Statement → List Statement
statements_of_form (Value keys root) lines next behind =
    record { keys = keys; root = root; items = [] } ∷ next
statements_of_form (Opens keys) lines next behind =
    record { keys = keys; root = root_of_list lines; items = items_in lines } ∷ behind
statements_of_form Other lines next behind = next

-- the statements behind a list: `next` from the line that closes it on
abbrev pub statements_of_item : ItemForm → List Statement → List Statement → List Statement
statements_of_item (Item root) next behind = behind
statements_of_item (Closes root) next behind = next
statements_of_item Neither next behind = behind

unfoldable mutual
  -- the statements of some lines
  pub statements : List (List ℕ) → List Statement
  statements [] = []
  statements (line ∷ lines) =
      statements_of_form (line_form line) lines (statements lines) (statements_behind lines)

  -- the statements behind the list that is open before some lines
  pub statements_behind : List (List ℕ) → List Statement
  statements_behind [] = []
  statements_behind (line ∷ lines) =
      statements_of_item (item_form line) (statements lines) (statements_behind lines)

-- the first statement of some keys
abbrev pub statement_of : List (List ℕ) → List Statement → Option Statement
statement_of keys [] = None
statement_of keys (s ∷ more) =
    if pointwise (pointwise nat_eq) s.keys keys then Some s else statement_of keys more

-- the root of a statement's value, or of an item of its list
abbrev pub root_at : Option ℕ → Statement → Option (List ℕ)
root_at None s = s.root
root_at (Some n) s = option_and_then (λ root. root) (slice_get s.items n)

-- the directory that a value of a printed configuration is relative to, or an item of a list, where its line
-- names a file
unfoldable pub origin_root : List ℕ → List (List ℕ) → Option ℕ → Option (List ℕ)
origin_root text keys item = option_and_then (root_at item) (statement_of keys (statements (lines text)))
