-- What a database says of a project's crates after a flush, under the numbers that they have there: the list
-- names each crate once and after its dependencies, and a wanted edge is missing exactly where it would close
-- a cycle.
use Rattle.std.specs.Prelude.{◌≡◌, ◌↔◌, ℕ, ◌<◌, List, [], length, map, nat_eq, slice_get, slice_index_or, Option, Some, None, Ok}
use Rattle.std.specs.List.{Contains, IsDistinct}
use Rattle.std.specs.Option.{option_and_then, option_map}
use Rattle.graph_base.specs.Reach.{Reaches}
use Rattle.crate_graph_values.specs.CrateData.{prelude_of, is_of_sysroot}
use Rattle.crate_graph_values.specs.declared.crate_data.Dependency.{Dependency}
use Rattle.input_db.specs.Database.{Database}
use Rattle.input_db.specs.Identity.{Table, crate_edges, input_in, named_in}
use Rattle.input_db.specs.declared.crate_input.CrateInput.{CrateInput}
use Rattle.live_project.specs.Crates.{project_lowered}
use Rattle.live_project.specs.Project.{ProjectContent}
use Rattle.pm_lower_crates.specs.Lowering.{Crate}
use Rattle.pm_lower_crates.specs.WantedEdges.{Dep, Edge}
use Rattle.vfs_core.specs.VfsPath.{PathContent}

-- ---- the list

-- each crate is listed once, and after those that it depends on
pub record ListsInOrder (db : Database) : Type 0 where
  pub once : IsDistinct nat_eq db.listed
  pub behind : (place krate dep : ℕ) (input : CrateInput) → slice_get db.listed place ≡ Some krate
      → input_in db.crates krate ≡ Some input → Contains (named_in input.crate_data) dep
      → (earlier : ℕ) × (earlier < place) × (slice_get db.listed earlier ≡ Some dep)

-- ---- the crates of a project

-- the number in a database of a crate of a project
abbrev pub database_number : List ℕ → ℕ → ℕ
database_number numbers krate = slice_index_or numbers krate 0

-- what a database holds of a crate of a project
abbrev pub input_at : Table → List ℕ → ℕ → Option CrateInput
input_at table numbers krate = option_and_then (input_in table) (slice_get numbers krate)

-- a dependency with its crate's number in a database
abbrev pub renamed_dep : List ℕ → Dep → Dep
renamed_dep numbers dep = record dep { target = database_number numbers dep.target }

-- a dependency as a database has it
abbrev pub dep_held : Dependency ℕ → Dep
dep_held dep = record {
  name = dep.name;
  target = dep.crate_id;
  prelude = prelude_of dep;
  sysroot = is_of_sysroot dep;
}

-- what a database holds of a crate: the file that it begins in, and its dependencies
abbrev pub crate_held : CrateInput → ℕ × List Dep
crate_held input = (input.crate_data.root_file_id, map dep_held input.crate_data.dependencies)

-- the same of a crate of a project, under the numbers of a database
abbrev pub crate_renamed : List ℕ → Crate → ℕ × List Dep
crate_renamed numbers krate = (krate.root, map (renamed_dep numbers) krate.deps)

-- the crates of a project are those that a database lists: each has a number there, under which the database
-- holds it
pub record AreInDatabase (db : Database) (numbers : List ℕ) (crates : List Crate) : Type 0 where
  pub every : length numbers ≡ length crates
  pub listed : (krate : ℕ) → Contains db.listed krate ↔ Contains numbers krate
  pub held : (place : ℕ) (krate : Crate) → slice_get crates place ≡ Some krate
      → option_map crate_held (input_at db.crates numbers place) ≡ Some (crate_renamed numbers krate)

-- ---- missing edges

-- a database has the dependency of an edge
pub record HasDepIn (table : Table) (numbers : List ℕ) (e : Edge) : Type 0 where
  pub input : CrateInput
  pub source : input_at table numbers e.source ≡ Some input
  pub has : Contains (map dep_held input.crate_data.dependencies) (renamed_dep numbers e.dep)

-- a wanted edge is a dependency exactly where its target does not reach its source
abbrev pub LacksCyclesIn : List Edge → Database → List ℕ → Type 0
LacksCyclesIn edges db numbers = (e : Edge) → Contains edges e
    → HasDepIn db.crates numbers e
    ↔ (Reaches (crate_edges db.crates) (database_number numbers e.dep.target) (database_number numbers e.source)
    → ⊥)

-- a database shows the crates that a project has by these files
pub record ShowsProject (db : Database) (p : ProjectContent) (files : List (ℕ × PathContent)) : Type 0 where
  pub crates : List Crate
  pub lowers : (project_lowered p files).crates ≡ Ok crates
  pub numbers : List ℕ
  pub are : AreInDatabase db numbers crates
  pub missing : LacksCyclesIn (project_lowered p files).wants db numbers

-- and none where no project was loaded
abbrev pub ShowsCrates : Database → Option ProjectContent → List (ℕ × PathContent) → Type 0
ShowsCrates db None files = db.listed ≡ []
ShowsCrates db (Some p) files = ShowsProject db p files
