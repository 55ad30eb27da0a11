-- What a database is once the crates of a graph are set in it: the crate of each, what is held of it, and
-- what stays. From the way in which a language server's inputs are made of a crate graph: crates are finished
-- depth first, the first of a root file is known by that alone, and only further crates of one root file are
-- distinguished by all that they hold.
use Rattle.std.specs.Prelude.{◌≡◌, ◌↔◌, ◌⊎◌, ◌==◌, ℕ, ◌<◌, ◌≤◌, Bool, false, List, [], ◌∷◌, ◌++◌, Option, Some}
use Rattle.std.specs.Prelude.{fold, if◌then◌else◌, length, map, nat_eq, not, slice_get, slice_index_or, take}
use Rattle.std.specs.BTreeMap as tree
use Rattle.std.specs.List.{list_any}
use Rattle.std.specs.Option.{option_and_then, option_map, unwrap_or}
use Rattle.std.specs.declared.cmp.Ordering.{Ordering}
use Rattle.base_text_paths.specs.Arena.{number_of}
use Rattle.graph_base.specs.Finish.{IsBehindTargets, IsFinishOrder}
use Rattle.crate_graph.specs.Graph.{edges}
use Rattle.crate_graph_values.specs.declared.builder.CrateBuilder.{CrateBuilder}
use Rattle.input_db.specs.Database.{Database}
use Rattle.crate_graph.specs.Extend.{Id}
use Rattle.input_db.specs.Identity.{IsTable, Table, crate_in, data_of, identity_of, input_in, input_of, number_in, uniques_in}
use Rattle.input_db.specs.declared.crate_input.UniqueCrateData.{UniqueCrateData}

-- the crate of the graph that is finished at a place of the order
abbrev pub finished_crate : List CrateBuilder → List ℕ → ℕ → Option CrateBuilder
finished_crate crates order k = option_and_then (slice_get crates) (slice_get order k)

-- the number in the database of the crate that is finished at a place of the order
abbrev pub finished_number : List ℕ → List ℕ → ℕ → ℕ
finished_number numbers order k = slice_index_or numbers (slice_index_or order k 0) 0

-- whether a crate of the graph is of a root file
abbrev pub is_of_root : List CrateBuilder → ℕ → ℕ → Bool
is_of_root crates file n =
    unwrap_or (option_map (λ krate. file == krate.basic.root_file_id) (slice_get crates n)) false

-- whether the crate that is finished at a place of the order is the first of its root file
abbrev pub is_first_at : List CrateBuilder → List ℕ → ℕ → CrateBuilder → Bool
is_first_at crates order k krate = not (list_any (is_of_root crates krate.basic.root_file_id) (take k order))

-- the identity of the crate that is finished at a place of the order
abbrev pub identity_at : List CrateBuilder → List ℕ → List ℕ → ℕ → CrateBuilder → UniqueCrateData
identity_at crates order numbers k krate =
    identity_of (is_first_at crates order k krate) (number_in numbers) krate

-- a list with one more member at its end, unless it has it already
abbrev pub with_member : List ℕ → ℕ → List ℕ
with_member ns n = if list_any (nat_eq n) ns then ns else ns ++ n ∷ []

-- the numbers of a list, each at its first place alone
abbrev pub first_places : List ℕ → List ℕ
first_places ns = fold with_member [] ns

-- the crates that a database is to list: the numbers of the graph's crates in the order in which they are
-- finished, each once
abbrev pub listed_crates : List ℕ → List ℕ → List ℕ
listed_crates order numbers = first_places (map (λ n. slice_index_or numbers n 0) order)

-- two crates of a graph have the same data, dependencies named by their numbers in the database, and the same
-- atoms
pub record AreAlike (numbers : List ℕ) (x y : CrateBuilder) : Type 0 where
  pub crate_data : data_of (number_in numbers) x ≡ data_of (number_in numbers) y
  pub cfg_options : x.cfg_options ≡ y.cfg_options

-- each crate of the graph has the number of its identity
abbrev pub HaveIdentities : List CrateBuilder → List ℕ → List ℕ → Table → Type 0
HaveIdentities crates order numbers table =
    (k : ℕ) (krate : CrateBuilder) → finished_crate crates order k ≡ Some krate
    → crate_in table (identity_at crates order numbers k krate) ≡ Some (finished_number numbers order k)

-- two crates of the graph have one number exactly where they are one, or where neither is the first of its
-- root file and both are alike
abbrev pub ShareWhereAlike : List CrateBuilder → List ℕ → List ℕ → Type 0
ShareWhereAlike crates order numbers = (i j : ℕ) (x y : CrateBuilder) → finished_crate crates order i ≡ Some x
    → finished_crate crates order j ≡ Some y
    → (finished_number numbers order i ≡ finished_number numbers order j)
    ↔ ((i ≡ j)
    ⊎ ((is_first_at crates order i x ≡ false) × (is_first_at crates order j y ≡ false)
    × AreAlike numbers x y))

-- no two crates of the graph have one number
abbrev pub HaveOwnNumbers : List ℕ → List ℕ → Type 0
HaveOwnNumbers order numbers = (i j : ℕ) → i < length order → j < length order
    → finished_number numbers order i ≡ finished_number numbers order j → i ≡ j

-- what is held under a number is of the last crate of the graph that has it
abbrev pub HoldLastInputs : List CrateBuilder → List ℕ → List ℕ → Table → Type 0
HoldLastInputs crates order numbers table =
    (k : ℕ) (krate : CrateBuilder) → finished_crate crates order k ≡ Some krate
    → ((later : ℕ) → k < later → later < length order
    → finished_number numbers order later ≡ finished_number numbers order k → ⊥)
    → input_in table (finished_number numbers order k) ≡ Some (input_of (number_in numbers) krate)

-- the table keeps what it had: every identity its number, and every input but those of the numbers that are
-- given. What is new in it is given
pub record KeepsOtherEntries (order numbers : List ℕ) (old new : Table) : Type 0 where
  pub identities : (n : ℕ) → n < length old → slice_get (uniques_in new) n ≡ slice_get (uniques_in old) n
  pub inputs : (n : ℕ) → n < length old
      → ((k : ℕ) → k < length order → finished_number numbers order k ≡ n → ⊥)
      → input_in new n ≡ input_in old n
  pub longer : length old ≤ length new
  pub fresh : (n : ℕ) → length old ≤ n → n < length new
      → (k : ℕ) × (k < length order) × (finished_number numbers order k ≡ n)

-- what is no crate is as it was
pub record KeepsFiles (old new : Database) : Type 0 where
  pub files : new.files ≡ old.files
  pub local : new.local ≡ old.local
  pub library : new.library ≡ old.library
  pub nonce : new.nonce ≡ old.nonce

-- the crates of a graph are set in a database, and the answer gives their numbers there
pub record IsSetInDb (cmp : Id → Id → Ordering) (crates : List CrateBuilder) (old new : Database)
    (ids : tree.BTreeMap Id ℕ) : Type 0 where
  -- the order in which they are finished, and their numbers
  pub order : List ℕ
  pub numbers : List ℕ
  pub finish_order : IsFinishOrder (edges crates) order
  pub behind : IsBehindTargets (edges crates) order
  pub every : length numbers ≡ length crates
  pub answer : (id : Id) → tree.get cmp ids id ≡ slice_get numbers (number_of id)
  -- what the numbers are
  pub identities : HaveIdentities crates order numbers new.crates
  pub shared : ShareWhereAlike crates order numbers
  -- what is held under them
  pub inputs : HoldLastInputs crates order numbers new.crates
  pub kept : KeepsOtherEntries order numbers old.crates new.crates
  pub table : IsTable new.crates
  -- the list
  pub listed : new.listed ≡ listed_crates order numbers
  pub beside : KeepsFiles old new
