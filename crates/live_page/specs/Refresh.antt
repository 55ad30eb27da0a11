-- What a flush brings into a database: the sets of files as source roots, those changes whose file has a
-- root, and the crates of a graph, where one is given. From the way in which rust-analyzer hands changes to
-- its database.
use Rattle.std.specs.Prelude.{◌≡◌, ℕ, List, [], Option, Some, None, map, nat_eq, slice_get, if◌then◌else◌}
use Rattle.std.specs.BTreeMap as tree
use Rattle.std.specs.List.{IsDistinct, filter}
use Rattle.std.specs.Map.{keys_of}
use Rattle.std.specs.Option.{option_and_then}
use Rattle.std.specs.Str.{is_utf8}
use Rattle.std.specs.declared.cmp.Ordering.{Ordering}
use Rattle.vfs_core.specs.declared.changed_file.Change.{Change}
use Rattle.vfs_core.specs.declared.changed_file.ChangedFile.{ChangedFile}
use Rattle.vfs_core.specs.Files.{Files, existing_files}
use Rattle.vfs_core.specs.Texts.{contents_left}
use Rattle.vfs_sets.specs.FileSet.{FileSetContent}
use Rattle.vfs_sets.specs.Partition.{IsPartition}
use Rattle.crate_graph.specs.Graph.{Graph}
use Rattle.input_db.specs.Change.{IsChanged, fits_file}
use Rattle.input_db.specs.Database.{Database}
use Rattle.input_db.specs.FinishSteps.{IsSetInSteps}
use Rattle.input_db.specs.Identity.{Table, crate_in, uniques_in}
use Rattle.crate_graph.specs.Extend.{Id}
use Rattle.input_db.specs.declared.change.FileChange.{FileChange}
use Rattle.input_db.specs.declared.crate_input.UniqueCrateData.{UniqueCrateData}
use Rattle.input_db_files.specs.Files.{FileTables}
use Rattle.input_db_files.specs.declared.source_root.SourceRoot.{SourceRoot}
use Rattle.vfs_sets.specs.FileRoots.{root_lists}
use Rattle.live_page.specs.SourceRoots.{source_roots}
use Rattle.vfs_sets.specs.declared.file_root.FileRoot.{FileRoot}

-- the text of bytes, where they are one
abbrev pub text_if : List ℕ → Option (List ℕ)
text_if bytes = if is_utf8 bytes then Some bytes else None

-- the text that a change leaves
abbrev pub text_left : Change → Option (List ℕ)
text_left change = option_and_then text_if (contents_left change)

-- those changes whose file has a root, each with the text that it leaves
abbrev pub changes_taken : FileTables → List SourceRoot → List (ℕ × ChangedFile) → List (ℕ × Option (List ℕ))
changes_taken files roots batch =
    map (λ entry. (entry.0, text_left entry.1.change)) (filter (λ entry. fits_file files roots entry.0) batch)

-- no crate is new or changed: the crates of a database, those that there are now, and the count of writes are
-- as they were
pub record KeepsDatabaseCrates (old new : Database) : Type 0 where
  pub crates : new.crates ≡ old.crates
  pub listed : new.listed ≡ old.listed
  pub durability : new.listed_durability ≡ old.listed_durability
  pub writes : new.writes ≡ old.writes

-- the crates of a graph are set in a database that has the crates of an old one, and nothing else is written
pub record RefreshesGraph (cmp : Id → Id → Ordering) (graph : Graph) (old new : Database) : Type 0 where
  pub before : Database
  pub kept : KeepsDatabaseCrates old before
  pub ids : tree.BTreeMap Id ℕ
  pub set : IsSetInSteps cmp graph.crates before new ids

-- the crates of a graph are set, where one is given; else they stay
abbrev pub GivesCrates : (Id → Id → Ordering) → Option Graph → Database → Database → Type 0
GivesCrates cmp None old new = KeepsDatabaseCrates old new
GivesCrates cmp (Some graph) old new = RefreshesGraph cmp graph old new

-- each identity that has a crate in a table keeps it, and each crate its identity
pub record KeepsIdentities (old new : Table) : Type 0 where
  pub crates : (unique : UniqueCrateData) (krate : ℕ) → crate_in old unique ≡ Some krate
      → crate_in new unique ≡ Some krate
  pub identities : (krate : ℕ) (unique : UniqueCrateData) → slice_get (uniques_in old) krate ≡ Some unique
      → slice_get (uniques_in new) krate ≡ Some unique

-- source roots are given to a database, and nothing else
pub record GivesRoots (roots : List SourceRoot) (old new : Database) : Type 0 where
  pub change : FileChange
  pub given : change.roots ≡ Some roots
  pub no_file : change.files_changed ≡ []
  pub changed : IsChanged change old new
  pub crates : KeepsDatabaseCrates old new

-- those changes whose file has a root in a database are given to it, and nothing else
pub record GivesChanges (batch : List (ℕ × ChangedFile)) (old new : Database) : Type 0 where
  pub change : FileChange
  pub no_roots : change.roots ≡ None
  pub taken : change.files_changed ≡ changes_taken old.files [] batch
  pub changed : IsChanged change old new
  pub crates : KeepsDatabaseCrates old new

-- the sets of the files that exist by these roots, and those changes whose file is in one or has a root
-- already, are in the database
pub record Refreshes (roots : List FileRoot) (files : Files) (old new : Database) : Type 0 where
  pub sets : List FileSetContent
  pub partition : IsPartition (root_lists roots) (existing_files files) sets
  pub change : FileChange
  pub given : change.roots ≡ Some (source_roots roots sets)
  pub taken : change.files_changed ≡ changes_taken old.files (source_roots roots sets) files.batch
  pub distinct : IsDistinct nat_eq (keys_of files.batch)
  pub changed : IsChanged change old new
