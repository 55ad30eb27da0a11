-- A change made step by step, except for its crates: the roots in order, each with its files, then the lists
-- of roots, then the texts in order.
use Rattle.std.specs.Prelude.{ℕ, suc, List, [], ◌∷◌, Option, Some, None}
use Rattle.std.specs.List.{fold}
use Rattle.std.specs.Option.{unwrap_or}
use Rattle.input_db.specs.Change.{library_after, local_after}
use Rattle.input_db.specs.Database.{Database}
use Rattle.input_db_files.specs.Files.{FileTables, durability_of_file, with_file_root, with_root, with_text}
use Rattle.input_db_files.specs.SourceRoot.{files_in, root_durability}
use Rattle.input_db.specs.declared.change.FileChange.{FileChange}
use Rattle.input_db_files.specs.declared.durability.Durability.{Durability}
use Rattle.input_db_files.specs.declared.source_root.SourceRoot.{SourceRoot}

-- the files of a root have it as theirs
abbrev pub with_members : FileTables → List ℕ → ℕ → Durability → FileTables
with_members files members root durability =
    fold (λ f member. with_file_root f member root durability) files members

-- one more root that is given, by its number
abbrev pub with_given_root : FileTables → ℕ → SourceRoot → FileTables
with_given_root files number root =
    with_root (with_members files (files_in root) number (root_durability root)) number root
    (root_durability root)

-- the roots that are given, numbered from here on
abbrev pub with_roots_from : ℕ → FileTables → List SourceRoot → FileTables
with_roots_from number files [] = files
with_roots_from number files (root ∷ roots) =
    with_roots_from (suc number) (with_given_root files number root) roots

-- a database with the roots that are given, and only these in its lists
abbrev pub with_roots : Database → List SourceRoot → Database
with_roots db roots = record db {
  files = with_roots_from 0 db.files roots;
  local = local_after (Some roots) db.local;
  library = library_after (Some roots) db.library;
}

-- a database with the roots that are given, where some are
abbrev pub with_roots_if_any : Database → Option (List SourceRoot) → Database
with_roots_if_any db None = db
with_roots_if_any db (Some roots) = with_roots db roots

-- one more file that changed: its text, and no bytes where it was deleted
abbrev pub with_file_change : FileTables → ℕ × Option (List ℕ) → FileTables
with_file_change files changed =
    with_text files changed.0 (unwrap_or changed.1 []) (durability_of_file files changed.0)

-- the files that changed, in order
abbrev pub with_changed_files : FileTables → List (ℕ × Option (List ℕ)) → FileTables
with_changed_files files changed = fold with_file_change files changed

-- what a change makes of a database: the roots that are given, then the files that changed
abbrev pub database_after_change : FileChange → Database → Database
database_after_change change db =
    let ready = with_roots_if_any db change.roots in
    record ready { files = with_changed_files ready.files change.files_changed }
