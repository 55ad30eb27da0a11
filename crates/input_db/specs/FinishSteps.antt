-- The crates of a graph, set in a database one after the other, in the order in which they are finished.
use Rattle.std.specs.Prelude.{◌≡◌, ℕ, Bool, List, [], fold, length, nat_eq, not, replicate, slice_get, slice_set, if◌then◌else◌}
use Rattle.std.specs.BTreeMap as tree
use Rattle.std.specs.List.{list_any}
use Rattle.std.specs.Cmp.Lexicographic.{pointwise}
use Rattle.std.specs.Option.{option_map_or}
use Rattle.std.specs.declared.cmp.Ordering.{Ordering}
use Rattle.crate_graph_values.specs.declared.builder.CrateBuilder.{CrateBuilder}
use Rattle.input_db.specs.Database.{Database, with_crate_input, with_crate_list}
use Rattle.crate_graph.specs.Extend.{Id}
use Rattle.input_db.specs.Identity.{crate_for, identity_of, input_of, number_in}
use Rattle.input_db.specs.SetInDb.{HaveOwnNumbers, IsSetInDb, listed_crates, with_member}
use Rattle.input_db.specs.declared.crate_input.CrateInput.{CrateInput}
use Rattle.input_db.specs.declared.crate_input.UniqueCrateData.{UniqueCrateData}
use Rattle.input_db_files.specs.declared.durability.Durability.TheVariants.{Medium}

-- the crates of a graph that are finished
pub record FinishedCrates : Type 0 where
  -- of each crate of the graph, its number in the database; 0 as long as it is not finished
  pub numbers : List ℕ
  -- the root files of those that are finished, each once
  pub roots : List ℕ
  -- their numbers in the database, each once
  pub given : List ℕ

-- how far the crates of a graph are set in a database
pub record Progress : Type 0 where
  pub db : Database
  pub finished : FinishedCrates

-- none of so many crates is finished
abbrev pub none_finished : ℕ → FinishedCrates
none_finished count = record { numbers = replicate count 0; roots = []; given = [] }

-- a crate of the graph, of a root file, is finished under a number in the database
abbrev pub with_finished_crate : FinishedCrates → ℕ → ℕ → ℕ → FinishedCrates
with_finished_crate f n file krate = record {
  numbers = slice_set f.numbers n krate;
  roots = with_member f.roots file;
  given = with_member f.given krate;
}

-- whether no crate of the root file is finished
abbrev pub is_first_of_root : List ℕ → ℕ → Bool
is_first_of_root roots file = not (list_any (nat_eq file) roots)

-- a crate of the graph is given an identity and its input
abbrev pub with_put_crate : Progress → ℕ → CrateBuilder → UniqueCrateData → CrateInput → Progress
with_put_crate l n krate unique input = record {
  db = with_crate_input l.db unique input;
  finished = with_finished_crate l.finished n krate.basic.root_file_id (crate_for l.db.crates unique);
}

-- a crate of the graph is finished, under the number that it has there
abbrev pub finish_crate : Progress → ℕ → CrateBuilder → Progress
finish_crate l n krate =
    with_put_crate l n krate
    (identity_of (is_first_of_root l.finished.roots krate.basic.root_file_id) (number_in l.finished.numbers) krate)
    (input_of (number_in l.finished.numbers) krate)

-- the crate of a number of the graph is finished
unfoldable pub finish : List CrateBuilder → Progress → ℕ → Progress
finish crates l n = option_map_or (finish_crate l n) (slice_get crates n) l

-- no crate of the graph is finished
abbrev pub initial_progress : List CrateBuilder → Database → Progress
initial_progress crates db = record { db = db; finished = none_finished (length crates) }

-- the crates of the graph are finished, in the order of their numbers in a list
abbrev pub progress_after : List CrateBuilder → Database → List ℕ → Progress
progress_after crates db order = fold (finish crates) (initial_progress crates db) order

-- the database with other crates as its list, which is stored where it differs
abbrev pub with_new_list : Database → List ℕ → Database
with_new_list db crates = if pointwise nat_eq db.listed crates then db else with_crate_list db crates Medium

-- the crates of a graph are set in a database, which is what finishing them one after the other makes of it:
-- so what `IsSetInDb` does not name is as it was, and the list and its durability are stored exactly where
-- the list differs
pub record IsSetInSteps (cmp : Id → Id → Ordering) (crates : List CrateBuilder) (old new : Database)
    (ids : tree.BTreeMap Id ℕ) : Type 0 where
  pub set : IsSetInDb cmp crates old new ids
  pub numbers : set.numbers ≡ (progress_after crates old set.order).finished.numbers
  pub steps :
      new ≡ with_new_list (progress_after crates old set.order).db (listed_crates set.order set.numbers)

-- a graph that was set last, and whose crates have each a number of its own, leaves the database as it is
abbrev pub LeavesWhatWasSet : (Id → Id → Ordering) → List CrateBuilder → Database → Database → Type 0
LeavesWhatWasSet cmp crates old new =
    (earlier : Database) (ids : tree.BTreeMap Id ℕ) (last : IsSetInSteps cmp crates earlier old ids)
    → HaveOwnNumbers last.set.order last.set.numbers → new ≡ old
