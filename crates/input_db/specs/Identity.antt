-- What distinguishes the crates of a database, and the table of all crates that it was ever given: each
-- identity once, with what the database holds of its crate. The place of an entry is the number of its crate.
-- From the way in which a language server's inputs are made of a crate graph: the first crate of a root file
-- is known by that file alone, and each further one by its data and its conditional compilation as well.
use Rattle.std.specs.Prelude.{◌≡◌, ℕ, ◌<◌, ◌≤◌, ◌^◌, Bool, List, [], Option, Some, None, if◌then◌else◌, length, map, position}
use Rattle.std.specs.Prelude.{slice_get, slice_index_or}
use Rattle.std.specs.List.{All, position_or_len}
use Rattle.std.specs.Map.{keys_of, lookup}
use Rattle.std.specs.Option.{option_map, option_map_or}
use Rattle.indexmap.specs.IndexMap.{insert_entry}
use Rattle.base_text_paths.specs.Arena.{number_of}
use Rattle.base_text_paths.specs.Paths.{IsClean}
use Rattle.base_text_outside.specs.declared.cfg.CfgAtom.{CfgAtom}
use Rattle.crate_graph.specs.Extend.{Id}
use Rattle.crate_graph_values.specs.Builder.{workspace_of}
use Rattle.crate_graph_values.specs.Laws.{renamed_crate}
use Rattle.crate_graph_values.specs.declared.builder.CrateBuilder.{CrateBuilder}
use Rattle.crate_graph_values.specs.declared.crate_data.CrateData.{CrateData}
use Rattle.input_db.specs.contracts.crate_input.UniqueCrateDataPartialEq.TheImpl as identities
use Rattle.input_db.specs.contracts.crate_input.CrateInputPartialEq.TheImpl as inputs
use Rattle.input_db.specs.declared.crate_input.CrateInput.{CrateInput}
use Rattle.input_db.specs.declared.crate_input.UniqueCrateData.{UniqueCrateData}
use Rattle.input_db_files.specs.declared.durability.Durability.TheVariants.{Medium}

-- the `==` of identities: true exactly of the same root file with the same data and atoms, as the laws of
-- this crate say
abbrev pub unique_eq : UniqueCrateData → UniqueCrateData → Bool
unique_eq = (identities.eq-value).it

-- the `==` of inputs: true exactly where all that they hold is the same, as the laws of this crate say
abbrev pub input_eq : CrateInput → CrateInput → Bool
input_eq = (inputs.eq-value).it

-- the number in the database of a crate of the graph, by the list of these numbers
abbrev pub number_in : List ℕ → Id → ℕ
number_in numbers id = slice_index_or numbers (number_of id) 0

-- the data of a crate of the graph, its dependencies named by their numbers in the database
abbrev pub data_of : (Id → ℕ) → CrateBuilder → CrateData ℕ
data_of number krate = renamed_crate number krate.basic

-- what the database is to hold of a crate of the graph
abbrev pub input_of : (Id → ℕ) → CrateBuilder → CrateInput
input_of number krate = record {
  crate_data = data_of number krate;
  extra_data = krate.extra;
  workspace_data = workspace_of krate;
  cfg_options = krate.cfg_options;
  env = krate.env;
  durability = Medium;
}

-- the identity of a root file alone
abbrev pub root_identity : ℕ → UniqueCrateData
root_identity file = record { root_file_id = file; disambiguator = None }

-- the identity of a root file with crate data and atoms
abbrev pub full_identity : ℕ → CrateData ℕ → List CfgAtom → UniqueCrateData
full_identity file krate cfgs = record { root_file_id = file; disambiguator = Some (krate, cfgs) }

-- the identity of a crate of the graph: its root file alone, where it is finished as the first of that
abbrev pub identity_of : Bool → (Id → ℕ) → CrateBuilder → UniqueCrateData
identity_of is_first number krate =
    if is_first then root_identity krate.basic.root_file_id
    else full_identity krate.basic.root_file_id (data_of number krate) krate.cfg_options

-- each identity with what is held of its crate
abbrev pub Table : Type 0
Table = List (UniqueCrateData × CrateInput)

-- the crates that crate data depends on
abbrev pub named_in : CrateData ℕ → List ℕ
named_in krate = map (λ dep. dep.crate_id) krate.dependencies

-- the crates that an identity names
abbrev pub names_of : UniqueCrateData → List ℕ
names_of unique = option_map_or (λ pair. named_in pair.0) unique.disambiguator []

-- the crate data of an identity, where it has some, runs procedural macros in a clean path, as every
-- `AbsPathBuf` is
abbrev pub HasCleanIdentity : UniqueCrateData → Type 0
HasCleanIdentity unique =
    (krate : CrateData ℕ) (cfgs : List CfgAtom) → unique.disambiguator ≡ Some (krate, cfgs)
    → IsClean krate.proc_macro_cwd

-- the crate data of an input runs procedural macros in a clean path
abbrev pub HasCleanInput : CrateInput → Type 0
HasCleanInput input = IsClean input.crate_data.proc_macro_cwd

-- the identities, each at the place of its crate
abbrev pub uniques_in : Table → List UniqueCrateData
uniques_in table = keys_of table

-- the crate of an identity, where it has one
abbrev pub crate_in : Table → UniqueCrateData → Option ℕ
crate_in table unique = position (unique_eq unique) (keys_of table)

-- the crate that an identity has, or that it is given: one greater than all before
abbrev pub crate_for : Table → UniqueCrateData → ℕ
crate_for table unique = position_or_len (unique_eq unique) (keys_of table)

-- what is held of an identity's crate, where it has one
abbrev pub input_under : Table → UniqueCrateData → Option CrateInput
input_under table unique = lookup (unique_eq unique) table

-- what is held of a crate
abbrev pub input_in : Table → ℕ → Option CrateInput
input_in table krate = option_map (λ entry. entry.1) (slice_get table krate)

-- the table with an input for the crate of an identity, which keeps its place, or comes last where it is new
abbrev pub with_entry : Table → UniqueCrateData → CrateInput → Table
with_entry table unique input = insert_entry unique_eq table unique input

-- the edges between the crates of a table: from each to those that it depends on
abbrev pub crate_edges : Table → List (List ℕ)
crate_edges table = map (λ entry. named_in entry.1.crate_data) table

-- crates are numbered within 32 bits; an identity names older crates alone; an input names crates of the
-- table
pub record IsTable (table : Table) : Type 0 where
  pub few : length table < 2 ^ 32
  pub older : (krate : ℕ) (unique : UniqueCrateData) → slice_get (keys_of table) krate ≡ Some unique
      → All (λ named. named < krate) (names_of unique)
  pub present : (krate : ℕ) (input : CrateInput) → input_in table krate ≡ Some input
      → All (λ named. named < length table) (named_in input.crate_data)

-- an identity's crate is given an input: it is the one that the identity had, or greater than all before, and
-- every other identity keeps its crate, and every other crate its input
pub record PutsCrate (old new : Table) (unique : UniqueCrateData) (input : CrateInput) (krate : ℕ)
    : Type 0 where
  pub named : crate_in new unique ≡ Some krate
  pub had : (n : ℕ) → crate_in old unique ≡ Some n → krate ≡ n
  pub greater : crate_in old unique ≡ None → length old ≤ krate
  pub held : input_in new krate ≡ Some input
  pub identities : (other : UniqueCrateData) (n : ℕ) → crate_in old other ≡ Some n
      → crate_in new other ≡ Some n
  pub inputs : (other : ℕ) → (other ≡ krate → ⊥) → input_in new other ≡ input_in old other
