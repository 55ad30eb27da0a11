-- Source roots, and then changes of files, that are given to a database, as one change.
use Rattle.std.proofs.Common.{◌≡◌, ℕ, zero, suc, ◌+◌, ◌<◌, Bool, true, false, ◌||◌, List, [], ◌∷◌, Option, Some, None, is_some, refl, sym, ◌∙◌, ap, subst, arith, length, map, nat_eq, nat_lt, if◌then◌else◌}
use Rattle.std.proofs.lemmas.Bool.Decides.{nat_tests}
use Rattle.std.specs.BTreeMap as tree
use Rattle.std.specs.List.{IsDistinct, filter, slice_get}
use Rattle.std.specs.Map.{keys_of}
use Rattle.std.specs.Option.{option_map, option_or, unwrap_or}
use Rattle.std.specs.declared.cmp.Ordering.{Ordering}
use Rattle.vfs_core.specs.declared.changed_file.ChangedFile.{ChangedFile}
use Rattle.vfs_core.specs.Files.{Files, existing_files}
use Rattle.vfs_sets.specs.FileSet as sets
use Rattle.vfs_sets.specs.Partition.{IsPartition}
use Rattle.input_db.specs.Applied.{database_after_change, with_roots_if_any}
use Rattle.input_db.specs.Change.{IsChanged, SetsCrates, fits_file, is_in_some, is_root, keeps_root, local_after, library_after, place_after, place_given, root_after, root_given, text_after, text_given}
use Rattle.input_db.specs.Database.{Database}
use Rattle.input_db_files.specs.Files.{FileTables, durability_of_file, file_root_of, source_root_at, stored_place, stored_text, text_of_file}
use Rattle.crate_graph.specs.Extend.{Id}
use Rattle.input_db_files.specs.SourceRoot.{has_file, root_durability}
use Rattle.input_db.specs.declared.change.FileChange.{FileChange}
use Rattle.input_db_files.specs.declared.durability.Durability.{Durability}
use Rattle.input_db_files.specs.declared.inputs.FileSourceRootInput.{FileSourceRootInput}
use Rattle.input_db_files.specs.declared.inputs.SourceRootInput.{SourceRootInput}
use Rattle.input_db_files.specs.declared.source_root.SourceRoot.{SourceRoot}
use Rattle.crate_graph.specs.Graph.{Graph}
use Rattle.input_db.specs.SetInDb.{KeepsFiles}
use Rattle.vfs_sets.specs.FileRoots.{root_lists}
use Rattle.live_page.specs.SourceRoots.{source_roots}
use Rattle.live_page.specs.Refresh.{GivesChanges, GivesCrates, GivesRoots, KeepsDatabaseCrates, Refreshes, changes_taken, text_left}
use Rattle.vfs_sets.specs.declared.file_root.FileRoot.{FileRoot}

-- a number is that of an item, where it is less than the length
given-told : (roots : List SourceRoot) (number : ℕ) → nat_lt number (length roots) ≡ is_some (slice_get roots number)
given-told [] number = grind (arith, nat_tests)
given-told (root ∷ roots) zero = grind (arith, nat_tests)
given-told (root ∷ roots) (suc number) =
    let more = given-told roots number in
    let less : nat_lt (suc number) (length (root ∷ roots)) ≡ nat_lt number (length roots) = grind (arith, nat_tests) in
    less ∙ more

-- no number is less than none
none-below : (number : ℕ) → nat_lt number 0 ≡ false
none-below number = grind (arith, nat_tests)

-- whether a root is there after roots were given: the same by what was given, and what was there
root-split : (given : Option SourceRoot) (old : Option SourceRootInput) (number count : ℕ) → nat_lt number count ≡ is_some given
    → (is_some (option_or (option_map root_given given) old) || nat_lt number 0) ≡ (is_some old || nat_lt number count)
root-split None None number count told = none-below number ∙ sym told
root-split None (Some input) number count told = refl
root-split (Some root) None number count told = sym told
root-split (Some root) (Some input) number count told = refl

-- whether a file is in one of some roots, and which place it has by them, numbered from here on
abbrev IsPlacedBy : ℕ → List SourceRoot → ℕ → Option FileSourceRootInput → Type 0
IsPlacedBy number roots file None = is_in_some roots file ≡ false
IsPlacedBy number roots file (Some place) = (is_in_some roots file ≡ true) × (place.source_root_id < number + length roots)

-- one root more: the same by whether the file is in it, and by the place that those behind it give
placed-split : (number : ℕ) (root : SourceRoot) (roots : List SourceRoot) (file : ℕ) (durability : Durability) (is_here : Bool)
    (behind : Option FileSourceRootInput) → has_file root file ≡ is_here → IsPlacedBy (suc number) roots file behind
    → IsPlacedBy number (root ∷ roots) file (option_or behind (if is_here then Some (stored_place number durability) else None))
placed-split number root roots file durability true None here more = (rw here refl, omega arith)
placed-split number root roots file durability true (Some place) here more = (rw here refl, omega (arith, more.1))
placed-split number root roots file durability false None here more = rw here more
placed-split number root roots file durability false (Some place) here more = (rw here more.0, omega (arith, more.1))

placed_by : (number : ℕ) (roots : List SourceRoot) (file : ℕ) → IsPlacedBy number roots file (place_given number roots file)
placed_by number [] file = refl
placed_by number (root ∷ roots) file =
    placed-split number root roots file (root_durability root) (has_file root file) (place_given (suc number) roots file) refl
    (placed_by (suc number) roots file)

-- after the roots were given a file has a root there exactly where it fits them before
module _ (roots : List SourceRoot) (old now : FileTables) (roots_are : (number : ℕ) → source_root_at now number ≡ root_after roots old number) (places_are : (file : ℕ) → file_root_of now file ≡ place_after roots old file) where
  is_root-given : (number : ℕ) → is_root now [] number ≡ is_root old roots number
  is_root-given number =
      ap (λ (r : Option SourceRootInput). is_some r || nat_lt number 0) (roots_are number)
      ∙ root-split (slice_get roots number) (source_root_at old number) number (length roots) (given-told roots number)

  -- the same by the place that the file had
  kept-split : (place : Option FileSourceRootInput)
      → unwrap_or (option_map (λ p. is_root now [] p.source_root_id) place) false
      ≡ unwrap_or (option_map (λ p. is_root old roots p.source_root_id) place) false
  kept-split None = refl
  kept-split (Some place) = is_root-given place.source_root_id

  -- a number of a root that is given is there
  there : (old_root : Bool) (number : ℕ) → number < length roots → (old_root || nat_lt number (length roots)) ≡ true
  there true number less = refl
  there false number less = grind (arith, nat_tests)

  -- the same by the place that the roots give
  place-split : (file : ℕ) (place : Option FileSourceRootInput) → IsPlacedBy 0 roots file place
      → unwrap_or (option_map (λ p. is_root now [] p.source_root_id) (option_or place (file_root_of old file))) false
      ≡ (is_in_some roots file || keeps_root old roots file)
  place-split file None apart = kept-split (file_root_of old file) ∙ rw apart refl
  place-split file (Some place) own =
      is_root-given place.source_root_id
      ∙ there (is_some (source_root_at old place.source_root_id)) place.source_root_id (omega (arith, own.1))
      ∙ rw own.0 refl

  fits-given : (file : ℕ) → fits_file now [] file ≡ fits_file old roots file
  fits-given file =
      ap (λ (p : Option FileSourceRootInput). unwrap_or (option_map (λ q. is_root now [] q.source_root_id) p) false) (places_are file)
      ∙ place-split file (place_given 0 roots file) (placed_by 0 roots file)

  -- so the same changes are taken
  pub taken-given : (batch : List (ℕ × ChangedFile)) → changes_taken now [] batch ≡ changes_taken old roots batch
  taken-given batch =
      let tests : (λ (entry : ℕ × ChangedFile). fits_file now [] entry.0) ≡ (λ entry. fits_file old roots entry.0) =
      λ i entry. fits-given entry.0 i in
      ap (λ test. map (λ (entry : ℕ × ChangedFile). (entry.0, text_left entry.1.change)) (filter test batch)) tests

-- a database with the roots that are given has its crates
ready-crates : (db : Database) (roots : Option (List SourceRoot)) → KeepsDatabaseCrates db (with_roots_if_any db roots)
ready-crates db None = record { crates = refl; listed = refl; durability = refl; writes = refl }
ready-crates db (Some roots) = record { crates = refl; listed = refl; durability = refl; writes = refl }

-- and so has one to which a change without a graph was made
module _ (cmp : Id → Id → Ordering) (change : FileChange) (old new : Database) (ids : Option (tree.BTreeMap Id ℕ)) where
  crates-kept : change.crate_graph ≡ None → SetsCrates cmp change.crate_graph (database_after_change change old) new ids → KeepsDatabaseCrates old new
  crates-kept none steps =
      let set : (ids ≡ None) × (new ≡ database_after_change change old) =
      subst (λ g. SetsCrates cmp g (database_after_change change old) new ids) none steps in
      let ready = ready-crates old change.roots in record {
        crates = ap (λ d. d.crates) set.1 ∙ ready.crates;
        listed = ap (λ d. d.listed) set.1 ∙ ready.listed;
        durability = ap (λ d. d.listed_durability) set.1 ∙ ready.durability;
        writes = ap (λ d. d.writes) set.1 ∙ ready.writes;
      }

  pub gives_roots : (roots : List SourceRoot) → change.roots ≡ Some roots → change.files_changed ≡ [] → change.crate_graph ≡ None
      → IsChanged change old new → SetsCrates cmp change.crate_graph (database_after_change change old) new ids → GivesRoots roots old new
  gives_roots roots given no_file none changed steps =
      record { change = change; given = given; no_file = no_file; changed = changed; crates = crates-kept none steps }

  pub gives_changes : (batch : List (ℕ × ChangedFile)) → change.roots ≡ None → change.files_changed ≡ changes_taken old.files [] batch
      → change.crate_graph ≡ None → IsChanged change old new → SetsCrates cmp change.crate_graph (database_after_change change old) new ids
      → GivesChanges batch old new
  gives_changes batch no_roots taken none changed steps =
      record { change = change; no_roots = no_roots; taken = taken; changed = changed; crates = crates-kept none steps }

-- both as one change
module _ (roots : List SourceRoot) (batch : List (ℕ × ChangedFile)) (old placed new : Database) (first : GivesRoots roots old placed) (second : GivesChanges batch placed new) where
  abbrev both : FileChange
  both = record second.change { roots = Some roots }

  roots-placed : (number : ℕ) → source_root_at placed.files number ≡ root_after roots old.files number
  roots-placed number = first.changed.roots number ∙ ap (λ r. root_after (unwrap_or r []) old.files number) first.given

  places-placed : (file : ℕ) → file_root_of placed.files file ≡ place_after roots old.files file
  places-placed file = first.changed.places file ∙ ap (λ r. place_after (unwrap_or r []) old.files file) first.given

  texts-placed : (file : ℕ) → text_of_file placed.files file ≡ text_of_file old.files file
  texts-placed file = first.changed.texts file ∙ ap (λ c. text_after c old.files placed.files file) first.no_file

  pub both-taken : both.files_changed ≡ changes_taken old.files roots batch
  both-taken = second.taken ∙ taken-given roots old.files placed.files roots-placed places-placed batch

  pub both-changed : IsChanged both old new
  both-changed = record {
    local = second.changed.local ∙ ap (λ r. local_after r placed.local) second.no_roots
        ∙ first.changed.local ∙ ap (λ r. local_after r old.local) first.given;
    library = second.changed.library ∙ ap (λ r. library_after r placed.library) second.no_roots
        ∙ first.changed.library ∙ ap (λ r. library_after r old.library) first.given;
    nonce = second.changed.nonce ∙ first.changed.nonce;
    roots = λ number.
        second.changed.roots number ∙ ap (λ r. root_after (unwrap_or r []) placed.files number) second.no_roots
        ∙ roots-placed number;
    places = λ file.
        second.changed.places file ∙ ap (λ r. place_after (unwrap_or r []) placed.files file) second.no_roots
        ∙ places-placed file;
    texts = λ file.
        second.changed.texts file
        ∙ ap (λ t. option_or (option_map (λ text. stored_text file text (durability_of_file new.files file))
        (text_given second.change.files_changed file)) t) (texts-placed file);
  }

-- two steps that keep the crates
pub both_kept : {old placed new : Database} → KeepsDatabaseCrates old placed → KeepsDatabaseCrates placed new → KeepsDatabaseCrates old new
both_kept first second = record {
  crates = second.crates ∙ first.crates;
  listed = second.listed ∙ first.listed;
  durability = second.durability ∙ first.durability;
  writes = second.writes ∙ first.writes;
}

-- a database into which the sets of the files that exist were brought as roots, and then the changes of these files
pub refreshes : (roots : List FileRoot) (files : Files) (parts : List sets.FileSetContent) (old placed new : Database)
    → IsPartition (root_lists roots) (existing_files files) parts
    → GivesRoots (source_roots roots parts) old placed → GivesChanges files.batch placed new
    → IsDistinct nat_eq (keys_of files.batch) → Refreshes roots files old new
refreshes roots files parts old placed new partition first second distinct = record {
  sets = parts;
  partition = partition;
  change = both (source_roots roots parts) files.batch old placed new first second;
  given = refl;
  taken = both-taken (source_roots roots parts) files.batch old placed new first second;
  distinct = distinct;
  changed = both-changed (source_roots roots parts) files.batch old placed new first second;
}

-- a database that has the files, the lists and the nonce of one into which they were brought
pub refreshes_too : (roots : List FileRoot) (files : Files) (old new later : Database) → KeepsFiles new later → Refreshes roots files old new → Refreshes roots files old later
refreshes_too roots files old new later keeps r = record {
  sets = r.sets;
  partition = r.partition;
  change = r.change;
  given = r.given;
  taken = r.taken;
  distinct = r.distinct;
  changed = record {
    local = keeps.local ∙ r.changed.local;
    library = keeps.library ∙ r.changed.library;
    nonce = keeps.nonce ∙ r.changed.nonce;
    roots = λ number. ap (λ f. source_root_at f number) keeps.files ∙ r.changed.roots number;
    places = λ file. ap (λ f. file_root_of f file) keeps.files ∙ r.changed.places file;
    texts = λ file. subst (λ f. text_of_file f file ≡ text_after r.change.files_changed old.files f file) (sym keeps.files) (r.changed.texts file);
  };
}

-- the crates of a graph, where one is given, set in a database that has those of an old one
pub gives_crates : (cmp : Id → Id → Ordering) (graph : Option Graph) (old before new : Database) → KeepsDatabaseCrates old before → GivesCrates cmp graph before new
    → GivesCrates cmp graph old new
gives_crates cmp None old before new kept given = both_kept kept given
gives_crates cmp (Some graph) old before new kept given = record {
  before = given.before;
  kept = both_kept kept given.kept;
  ids = given.ids;
  set = given.set;
}
