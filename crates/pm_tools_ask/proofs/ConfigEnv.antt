-- The entries of the table `env`, one after another.
use Rattle.std.proofs.Common.{◌≡◌, ◌∙◌, ℕ, List, Option, None, ap, sym}
use Rattle.std.specs.Option.{option_and_then}
use Rattle.std.specs.Str.Lines.{lines}
use Rattle.toml.specs.Data.{Data, Members, no_members, member}
use Rattle.base_values.specs.ByText.{value_at}
use Rattle.pm_tools_ask.specs.Statements.{origin_root, statements}
use Rattle.pm_tools_ask.specs.Ask.{Means}
use Rattle.pm_tools_ask.specs.ConfigEnv.{Environment, relative_keys, variable_value, with_entries, with_variable}
use Rattle.pm_tools_ask.specs.RelativeRoots.{relative_root}
use Rattle.pm_tools_ask.proofs.RelativeRoots.{origin_is}

-- what an entry's value is placed below, by the map of the directories
pub entry_root : (text name : List ℕ) (roots : List (List ℕ × Option (List ℕ))) (root : Option (List ℕ))
    → ((other : List ℕ) → value_at other roots ≡ relative_root other (statements (lines text)))
    → root ≡ option_and_then (λ r. r) (value_at name roots) → root ≡ origin_root text (relative_keys name) None
entry_root text name roots root all is = is ∙ ap (option_and_then (λ r. r)) (all name) ∙ origin_is text name

-- the first of the entries that are left is taken
pub take_entry : (text : List ℕ) (means : Means) (env after all : Environment) (name : List ℕ) (entry : Data) (root value : Option (List ℕ)) (left rest : Members)
    → left ≡ member name entry rest → root ≡ origin_root text (relative_keys name) None → value ≡ variable_value means name entry root
    → after ≡ with_variable name value env → with_entries text means env left ≡ all → with_entries text means after rest ≡ all
unfolding with_entries
take_entry text means env after all name entry root value left rest first is_root is_value is_after so_far =
    let set : after ≡ with_variable name (variable_value means name entry (origin_root text (relative_keys name) None)) env =
    is_after ∙ ap (λ v. with_variable name v env) (is_value ∙ ap (λ r. variable_value means name entry r) is_root) in
    ap (λ e. with_entries text means e rest) set ∙ ap (with_entries text means env) (sym first) ∙ so_far

-- and where none is left, all are
pub all_entries : (text : List ℕ) (means : Means) (env all : Environment) (left : Members) → left ≡ no_members → with_entries text means env left ≡ all → env ≡ all
unfolding with_entries
all_entries text means env all left none so_far = ap (with_entries text means env) (sym none) ∙ so_far
