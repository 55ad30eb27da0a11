-- What a change makes of a database, entry by entry: the roots that are given, the places of their files,
-- the lists of roots, the texts of the files that changed, and the crates of a graph that is given.
-- From the database's documentation of file changes.
use Rattle.std.specs.Prelude.{◌≡◌, ℕ, suc, ◌==◌, ◌||◌, Bool, true, false, List, [], ◌∷◌, Option, Some, None}
use Rattle.std.specs.Prelude.{is_some, nat_lt, length, if◌then◌else◌}
use Rattle.std.specs.BTreeMap as tree
use Rattle.std.specs.Bool.{beq}
use Rattle.std.specs.List.{list_all, list_any, slice_get}
use Rattle.std.specs.Option.{option_map, option_or, unwrap_or}
use Rattle.std.specs.declared.cmp.Ordering.{Ordering}
use Rattle.crate_graph.specs.Graph.{Graph}
use Rattle.input_db.specs.Database.{Database, library_numbers, local_numbers}
use Rattle.input_db_files.specs.Files.{FileTables, durability_of_file, file_root_of, source_root_at, stored_place, stored_root}
use Rattle.input_db_files.specs.Files.{stored_text, text_of_file}
use Rattle.input_db.specs.FinishSteps.{IsSetInSteps}
use Rattle.crate_graph.specs.Extend.{Id}
use Rattle.input_db_files.specs.SourceRoot.{has_file, root_durability}
use Rattle.input_db.specs.declared.change.FileChange.{FileChange}
use Rattle.input_db_files.specs.declared.inputs.FileText.{FileText}
use Rattle.input_db_files.specs.declared.inputs.FileSourceRootInput.{FileSourceRootInput}
use Rattle.input_db_files.specs.declared.inputs.SourceRootInput.{SourceRootInput}
use Rattle.input_db_files.specs.declared.roots.LocalRoots.{LocalRoots}
use Rattle.input_db_files.specs.declared.roots.LibraryRoots.{LibraryRoots}
use Rattle.input_db_files.specs.declared.source_root.SourceRoot.{SourceRoot}

-- the roots that a change gives, where it gives some
abbrev pub given_roots : FileChange → List SourceRoot
given_roots change = unwrap_or change.roots []

-- whether a file is in one of the roots
abbrev pub is_in_some : List SourceRoot → ℕ → Bool
is_in_some roots file = list_any (λ root. has_file root file) roots

-- whether a root is there, or is given
abbrev pub is_root : FileTables → List SourceRoot → ℕ → Bool
is_root files roots number = is_some (source_root_at files number) || nat_lt number (length roots)

-- whether a file has a source root already that is there or is given
abbrev pub keeps_root : FileTables → List SourceRoot → ℕ → Bool
keeps_root files roots file =
    unwrap_or (option_map (λ place. is_root files roots place.source_root_id) (file_root_of files file)) false

-- whether a file will have a source root that is there: it is in a root that is given, or has one already
-- that is there or is given
abbrev pub fits_file : FileTables → List SourceRoot → ℕ → Bool
fits_file files roots file = is_in_some roots file || keeps_root files roots file

-- whether each file that changed will have a source root that is there
abbrev pub fits : FileTables → FileChange → Bool
fits files change = list_all (λ changed. fits_file files (given_roots change) changed.0) change.files_changed

-- the numbers of the roots that are libraries, or of those that are not, numbered from here on
abbrev pub numbers_from : Bool → ℕ → List SourceRoot → List ℕ
numbers_from is_library number [] = []
numbers_from is_library number (root ∷ roots) =
    if beq root.is_library is_library then number ∷ numbers_from is_library (suc number) roots
    else numbers_from is_library (suc number) roots

-- the same of all roots
abbrev pub numbers_of : Bool → List SourceRoot → List ℕ
numbers_of is_library roots = numbers_from is_library 0 roots

-- the list of local roots: of the roots that are given, or as it was
abbrev pub local_after : Option (List SourceRoot) → LocalRoots → LocalRoots
local_after None old = old
local_after (Some roots) old = local_numbers (numbers_of false roots)

-- the list of libraries
abbrev pub library_after : Option (List SourceRoot) → LibraryRoots → LibraryRoots
library_after None old = old
library_after (Some roots) old = library_numbers (numbers_of true roots)

-- a root that is given, as it is stored
abbrev pub root_given : SourceRoot → SourceRootInput
root_given root = stored_root root (root_durability root)

-- the root of a number: the one that is given, or the one that was there. No root goes
abbrev pub root_after : List SourceRoot → FileTables → ℕ → Option SourceRootInput
root_after roots old number =
    option_or (option_map root_given (slice_get roots number)) (source_root_at old number)

-- the place of a file by the last root that has it, of those that are given, numbered from here on
abbrev pub place_given : ℕ → List SourceRoot → ℕ → Option FileSourceRootInput
place_given number [] file = None
place_given number (root ∷ roots) file =
    option_or (place_given (suc number) roots file)
    (if has_file root file then Some (stored_place number (root_durability root)) else None)

-- the place of a file: the one that is given, or its old one
abbrev pub place_after : List SourceRoot → FileTables → ℕ → Option FileSourceRootInput
place_after roots old file = option_or (place_given 0 roots file) (file_root_of old file)

-- the last new text of a file, where it changed. A file that was deleted has no bytes
abbrev pub text_given : List (ℕ × Option (List ℕ)) → ℕ → Option (List ℕ)
text_given [] file = None
text_given (changed ∷ rest) file =
    option_or (text_given rest file) (if file == changed.0 then Some (unwrap_or changed.1 []) else None)

-- the text of a file: the last that is given, as durable as the file's root makes it, or its old one
abbrev pub text_after : List (ℕ × Option (List ℕ)) → FileTables → FileTables → ℕ → Option FileText
text_after changed old new file =
    option_or
    (option_map (λ text. stored_text file text (durability_of_file new file)) (text_given changed file))
    (text_of_file old file)

-- what a change makes of a database beside its crates
pub record IsChanged (change : FileChange) (old new : Database) : Type 0 where
  pub local : new.local ≡ local_after change.roots old.local
  pub library : new.library ≡ library_after change.roots old.library
  pub nonce : new.nonce ≡ old.nonce
  pub roots : (number : ℕ)
      → source_root_at new.files number ≡ root_after (given_roots change) old.files number
  pub places : (file : ℕ) → file_root_of new.files file ≡ place_after (given_roots change) old.files file
  pub texts : (file : ℕ)
      → text_of_file new.files file ≡ text_after change.files_changed old.files new.files file

-- the crates of a graph are set in a database, where one is given, and the answer gives their numbers there
abbrev pub SetsCrates : (Id → Id → Ordering) → Option Graph → Database → Database
    → Option (tree.BTreeMap Id ℕ) → Type 0
SetsCrates cmp None old new ids = (ids ≡ None) × (new ≡ old)
SetsCrates cmp (Some graph) old new None = ⊥
SetsCrates cmp (Some graph) old new (Some ids) = IsSetInSteps cmp graph.crates old new ids
