-- The environment that a configuration gives: the variables that are given beside it, and then those of its
-- table `env`.
use Rattle.std.specs.Prelude.{ℕ, Bool, false, if◌then◌else◌, List, [], ◌∷◌, Option, Some, None, codes, fold}
use Rattle.std.specs.Option.{option_and_then, option_map, option_map_or, option_or, unwrap_or}
use Rattle.toml.specs.Data.{Data, Members, no_members, member, string, table, as_bool, as_str, as_table, get}
use Rattle.toml.specs.Parse.{parse_document}
use Rattle.base_text_paths.specs.Paths.{components_with_tail, path_text}
use Rattle.base_values.specs.ByText.{value_at, with_value}
use Rattle.pm_tools_ask.specs.Statements.{origin_root}
use Rattle.base_text.specs.Tools.{Variables}
use Rattle.pm_tools_ask.specs.Ask.{Means}

-- variables with their values
abbrev pub Environment : Type 0
Environment = List (List ℕ × List ℕ)

-- the value that is given for a variable, where it has one
abbrev pub given_value : List ℕ → Variables → Option (List ℕ)
given_value name given = option_and_then (λ value. value) (value_at name given)

-- the environment with a variable set, where it gets a value
abbrev pub with_variable : List ℕ → Option (List ℕ) → Environment → Environment
with_variable name None env = env
with_variable name (Some value) env = with_value name value env

-- the environment of those given variables that have a value
abbrev pub given_env : Variables → Environment
given_env given = fold (λ env variable. with_variable variable.0 variable.1 env) [] given

-- the value that an entry states: it is a text, or a table with a text `value`
abbrev pub stated_value : Data → Option (List ℕ)
stated_value (string text) = Some text
stated_value entry = option_and_then as_str (get (codes "value") entry)

-- a flag of an entry is there and true
abbrev pub has_flag : List ℕ → Data → Bool
has_flag flag entry = option_map_or (λ is_set. is_set) (option_and_then as_bool (get flag entry)) false

-- the keys of the flag that makes a variable relative
abbrev pub relative_keys : List ℕ → List (List ℕ)
relative_keys name = codes "env" ∷ name ∷ codes "relative" ∷ []

-- a text below a directory, where there is one
abbrev pub below_directory : Option (List ℕ) → List ℕ → List ℕ
below_directory None text = text
below_directory (Some directory) text = path_text (components_with_tail directory text)

-- the value that an entry gives: the one that it states, below the directory that its flag `relative` comes
-- from, where that is true
abbrev pub entry_value : Option (List ℕ) → Data → List ℕ → List ℕ
entry_value root entry stated =
    if has_flag (codes "relative") entry then below_directory root stated else stated

-- the value that comes before that of an entry which is not forced: the one that is given beside the
-- configuration, or else that of the process
abbrev pub value_before : Means → List ℕ → Data → Option (List ℕ)
value_before means name entry =
    if has_flag (codes "force") entry then None
    else option_or (given_value name means.extra_env) (value_at name means.process_env)

-- the value that the variable of an entry gets, where the entry states one
abbrev pub variable_value : Means → List ℕ → Data → Option (List ℕ) → Option (List ℕ)
variable_value means name entry root =
    option_map (λ stated. unwrap_or (value_before means name entry) (entry_value root entry stated))
    (stated_value entry)

-- the environment with the variables of the entries of a table, in turn
unfoldable pub with_entries : List ℕ → Means → Environment → Members → Environment
with_entries text means env no_members = env
with_entries text means env (member name entry more) =
    with_entries text means
    (with_variable name (variable_value means name entry (origin_root text (relative_keys name) None)) env)
    more

-- the table `env` of a document, where it is one
abbrev pub env_table : Data → Option Members
env_table document = option_and_then as_table (get (codes "env") document)

-- the entries of that table of a configuration, where TOML reads its text as a document
unfoldable pub env_entries : List ℕ → Members
env_entries text =
    unwrap_or (option_and_then (λ document. env_table (table document)) (parse_document text)) no_members

-- the environment that a configuration gives, where there is one
abbrev pub config_env : Option (List ℕ) → Means → Environment
config_env None means = given_env means.extra_env
config_env (Some text) means = with_entries text means (given_env means.extra_env) (env_entries text)
