-- What a whole change makes of a database, entry by entry.
use Rattle.std.proofs.Common.{◌≡◌, ◌==◌, ℕ, Bool, true, false, List, [], ◌∷◌, Option, Some, None, cond, refl}
use Rattle.std.proofs.Common.{sym, ap, ◌∙◌, eqb-true}
use Rattle.std.specs.FinMap as map
use Rattle.std.specs.Option.{option_map, option_or, unwrap_or}
use Rattle.input_db.specs.Applied.{database_after_change, with_file_change, with_changed_files, with_roots_from}
use Rattle.input_db.specs.Change.{IsChanged, text_after, text_given}
use Rattle.input_db.specs.Database.{Database}
use Rattle.input_db_files.specs.Files.{FileTables, durability_of_file, stored_text, text_of_file}
use Rattle.input_db.specs.declared.change.FileChange.{FileChange}
use Rattle.input_db_files.specs.declared.inputs.FileText.{FileText}
use Rattle.input_db_files.specs.declared.source_root.SourceRoot.{SourceRoot}
use Rattle.input_db_files.proofs.Entries.{get_set}
use Rattle.input_db.proofs.GivenRoots.{places_given, roots_from-texts, roots_given}

files-roots : (files : FileTables) (changed : List (ℕ × Option (List ℕ)))
    → (with_changed_files files changed).roots ≡ files.roots
files-roots files [] = refl
files-roots files (c ∷ changed) = files-roots (with_file_change files c) changed

files-places : (files : FileTables) (changed : List (ℕ × Option (List ℕ)))
    → (with_changed_files files changed).file_roots ≡ files.file_roots
files-places files [] = refl
files-places files (c ∷ changed) = files-places (with_file_change files c) changed

-- texts play no part in how durable a file's text is to be
files-durability : (files : FileTables) (changed : List (ℕ × Option (List ℕ))) (q : ℕ)
    → durability_of_file (with_changed_files files changed) q ≡ durability_of_file files q
files-durability files [] q = refl
files-durability files (c ∷ changed) q = files-durability (with_file_change files c) changed q

-- a text as a file of this root has it
stored_in : FileTables → ℕ → List ℕ → FileText
stored_in files q text = stored_text q text (durability_of_file files q)

-- what a later change gives counts, else what this one gives, else what was there
or_changed : (later : Option (List ℕ)) (files : FileTables) (q c : ℕ) (is_here : Bool) (text : List ℕ)
    (old : Option FileText)
    → (q == c) ≡ is_here
    → option_or (option_map (λ t. stored_text q t (durability_of_file files q)) later)
    (cond is_here (Some (stored_text c text (durability_of_file files c))) old)
    ≡ option_or (option_map (λ t. stored_text q t (durability_of_file files q))
    (option_or later (cond is_here (Some text) None))) old
or_changed None files q c true text old e =
    ap (λ (k : ℕ). Some (stored_text k text (durability_of_file files k))) (sym (eqb-true q c e))
or_changed None files q c false text old e = refl
or_changed (Some t) files q c is_here text old e = refl

files-texts : (files : FileTables) (changed : List (ℕ × Option (List ℕ))) (q : ℕ)
    → text_of_file (with_changed_files files changed) q
    ≡ option_or (option_map (λ t. stored_text q t (durability_of_file files q)) (text_given changed q))
    (text_of_file files q)
files-texts files [] q = refl
files-texts files (c ∷ changed) q =
    files-texts (with_file_change files c) changed q
    ∙ ap
    (λ o. option_or (option_map (λ t. stored_text q t (durability_of_file files q)) (text_given changed q)) o)
    (get_set files.texts c.0 (stored_text c.0 (unwrap_or c.1 []) (durability_of_file files c.0)) q)
    ∙ or_changed (text_given changed q) files q c.0 (q == c.0) (unwrap_or c.1 []) (text_of_file files q) refl

-- the texts after a change, by the files with their roots
texts_changed : (old ready : FileTables) (changed : List (ℕ × Option (List ℕ))) (q : ℕ) → ready.texts ≡ old.texts
    → text_of_file (with_changed_files ready changed) q
    ≡ text_after changed old (with_changed_files ready changed) q
texts_changed old ready changed q same =
    files-texts ready changed q
    ∙ ap (λ d. option_or (option_map (λ t. stored_text q t d) (text_given changed q)) (text_of_file ready q))
    (sym (files-durability ready changed q))
    ∙ ap
    (λ texts. option_or
    (option_map (λ t. stored_text q t (durability_of_file (with_changed_files ready changed) q))
    (text_given changed q))
    (map.get texts q))
    same

-- a change whose roots are given, or not
changed_by : (change : FileChange) (roots : Option (List SourceRoot)) (db : Database) → change.roots ≡ roots
    → IsChanged (record change { roots = roots }) db (database_after_change (record change { roots = roots }) db)
changed_by change None db e = record {
  local = refl;
  library = refl;
  nonce = refl;
  roots = λ number. ap (λ m. map.get m number) (files-roots db.files change.files_changed);
  places = λ file. ap (λ m. map.get m file) (files-places db.files change.files_changed);
  texts = λ file. texts_changed db.files db.files change.files_changed file refl;
}
changed_by change (Some roots) db e =
    let ready : FileTables = with_roots_from 0 db.files roots in
    record {
      local = refl;
      library = refl;
      nonce = refl;
      roots = λ number.
          ap (λ m. map.get m number) (files-roots ready change.files_changed)
          ∙ roots_given db.files roots number;
      places = λ file.
          ap (λ m. map.get m file) (files-places ready change.files_changed)
          ∙ places_given db.files roots file;
      texts = λ file.
          texts_changed db.files ready change.files_changed file (roots_from-texts 0 db.files roots);
    }

-- a change that is made step by step makes each entry as it is said
pub applied_changes : (change : FileChange) (db : Database) → IsChanged change db (database_after_change change db)
applied_changes change db = changed_by change change.roots db refl
