-- The files of a database: the text of each, the source roots, and the root of each file, all by number.
-- A setter changes the entry that it names, and no other.
use Rattle.std.specs.Prelude.{◌≡◌, ℕ, ◌==◌, List, Option, Some, None, refl, if◌then◌else◌}
use Rattle.std.specs.Coded.{Coded, code_by, coded×, coded_ℕ}
use Rattle.std.specs.FinMap as map
use Rattle.std.specs.Option.{option_and_then, option_map, unwrap_or}
use Rattle.std.specs.Ordering.{nat_cmp}
use Rattle.vfs_sets.specs.FileSet.{resolved_file}
use Rattle.input_db_files.specs.SourceRoot.{set_of_root, text_durability}
use Rattle.input_db_files.specs.contracts.inputs.FileSourceRootInput as place
use Rattle.input_db_files.specs.contracts.inputs.FileText as text
use Rattle.input_db_files.specs.contracts.inputs.SourceRootInput as root
use Rattle.input_db_files.specs.declared.durability.Durability.{Durability}
use Rattle.input_db_files.specs.declared.durability.Durability.TheVariants.{Low}
use Rattle.input_db_files.specs.declared.inputs.FileText.{FileText}
use Rattle.input_db_files.specs.declared.inputs.FileSourceRootInput.{FileSourceRootInput}
use Rattle.input_db_files.specs.declared.inputs.SourceRootInput.{SourceRootInput}
use Rattle.input_db_files.specs.declared.source_root.SourceRoot.{SourceRoot}

-- what is held, by number
pub record FileTables : Type 0 where
  -- the texts of files
  pub texts : map.FinMap nat_cmp FileText
  -- the source roots
  pub roots : map.FinMap nat_cmp SourceRootInput
  -- the source roots that files are in
  pub file_roots : map.FinMap nat_cmp FileSourceRootInput

-- what is held is stored as the three maps
abbrev pub file_tables_code : Coded FileTables
file_tables_code =
    code_by
    (map.FinMap nat_cmp FileText
    × (map.FinMap nat_cmp SourceRootInput × map.FinMap nat_cmp FileSourceRootInput))
    (coded× (map.code {R = nat_cmp} coded_ℕ text.the_row.coded)
    (coded× (map.code {R = nat_cmp} coded_ℕ root.the_row.coded)
    (map.code {R = nat_cmp} coded_ℕ place.the_row.coded)))
    (λ h. (h.texts, (h.roots, h.file_roots)))
    (λ p. record { texts = p.0; roots = p.1.0; file_roots = p.1.1 }) (λ _. refl)

-- no texts and no roots
abbrev pub no_file_tables : FileTables
no_file_tables = record { texts = map.empty; roots = map.empty; file_roots = map.empty }

-- the text of a file, where it has one
abbrev pub text_of_file : FileTables → ℕ → Option FileText
text_of_file files file = map.get files.texts file

-- a source root, where it is there
abbrev pub source_root_at : FileTables → ℕ → Option SourceRootInput
source_root_at files root = map.get files.roots root

-- the source root of a file, where it has one
abbrev pub file_root_of : FileTables → ℕ → Option FileSourceRootInput
file_root_of files file = map.get files.file_roots file

-- the source root that a file is in, where it is there
abbrev pub root_of_file : FileTables → ℕ → Option SourceRoot
root_of_file files file =
    option_and_then
    (λ place. option_map (λ input. input.source_root) (source_root_at files place.source_root_id))
    (file_root_of files file)

-- how durable the text of a file is to be: by the root that it is in, where that is there
abbrev pub durability_of_file : FileTables → ℕ → Durability
durability_of_file files file = unwrap_or (option_map text_durability (root_of_file files file)) Low

-- the file beside another one, by the root of that one
abbrev pub resolved_from : FileTables → ℕ → List ℕ → Option ℕ
resolved_from files anchor tail =
    option_and_then (λ root. resolved_file (set_of_root root) anchor tail) (root_of_file files anchor)

-- a text as it is stored
abbrev pub stored_text : ℕ → List ℕ → Durability → FileText
stored_text file text durability = record { text = text; file_id = file; durability = durability }

-- a source root as it is stored
abbrev pub stored_root : SourceRoot → Durability → SourceRootInput
stored_root root durability = record { source_root = root; durability = durability }

-- the root of a file as it is stored
abbrev pub stored_place : ℕ → Durability → FileSourceRootInput
stored_place root durability = record { source_root_id = root; durability = durability }

-- the files, with a text for a file
abbrev pub with_text : FileTables → ℕ → List ℕ → Durability → FileTables
with_text files file text durability =
    record files { texts = map.insert files.texts file (stored_text file text durability) }

-- the durability of a text that is there, and Low of one that is not
abbrev pub kept_durability : Option FileText → Durability
kept_durability None = Low
kept_durability (Some text) = text.durability

-- the files, with a text for a file, as durable as the one that was there
abbrev pub with_same_durability : FileTables → ℕ → List ℕ → FileTables
with_same_durability files file text = with_text files file text (kept_durability (text_of_file files file))

-- the files, with a source root
abbrev pub with_root : FileTables → ℕ → SourceRoot → Durability → FileTables
with_root files root source_root durability =
    record files { roots = map.insert files.roots root (stored_root source_root durability) }

-- the files, with a source root for a file
abbrev pub with_file_root : FileTables → ℕ → ℕ → Durability → FileTables
with_file_root files file root durability =
    record files { file_roots = map.insert files.file_roots file (stored_place root durability) }

-- one text is set, and each other is as it was
abbrev pub SetsText : FileTables → FileTables → ℕ → FileText → Type 0
SetsText old new file text =
    (other : ℕ) → text_of_file new other ≡ (if other == file then Some text else text_of_file old other)

-- one source root is set, and each other is as it was
abbrev pub SetsRoot : FileTables → FileTables → ℕ → SourceRootInput → Type 0
SetsRoot old new root input =
    (other : ℕ) → source_root_at new other ≡ (if other == root then Some input else source_root_at old other)

-- the source root of one file is set, and that of each other is as it was
abbrev pub SetsFileRoot : FileTables → FileTables → ℕ → FileSourceRootInput → Type 0
SetsFileRoot old new file place =
    (other : ℕ) → file_root_of new other ≡ (if other == file then Some place else file_root_of old other)
