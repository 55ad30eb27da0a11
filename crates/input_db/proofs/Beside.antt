-- What a change makes of files and roots stands after its crates are set.
use Rattle.std.proofs.Common.{◌≡◌, ℕ, Option, Some, None, ap, subst, sym, ◌∙◌}
use Rattle.std.specs.BTreeMap as tree
use Rattle.std.specs.declared.cmp.Ordering.{Ordering}
use Rattle.crate_graph.specs.Graph.{Graph}
use Rattle.input_db.specs.Change.{IsChanged, SetsCrates, text_after}
use Rattle.input_db.specs.Database.{Database}
use Rattle.input_db_files.specs.Files.{FileTables, file_root_of, source_root_at, text_of_file}
use Rattle.crate_graph.specs.Extend.{Id}
use Rattle.input_db.specs.SetInDb.{KeepsFiles}
use Rattle.input_db.specs.declared.change.FileChange.{FileChange}

-- what is no crate is as it was
keeps : (cmp : Id → Id → Ordering) (graph : Option Graph) (old new : Database) (ids : Option (tree.BTreeMap Id ℕ))
    → SetsCrates cmp graph old new ids → KeepsFiles old new
keeps cmp None old new ids set = record {
  files = ap (λ (d : Database). d.files) set.1;
  local = ap (λ (d : Database). d.local) set.1;
  library = ap (λ (d : Database). d.library) set.1;
  nonce = ap (λ (d : Database). d.nonce) set.1;
}
keeps cmp (Some graph) old new None set = absurd set
keeps cmp (Some graph) old new (Some ids) set = set.set.beside

-- a change is made, and then its crates are set
pub IsChanged_set : (change : FileChange) (cmp : Id → Id → Ordering) (graph : Option Graph) (old there new : Database)
    (ids : Option (tree.BTreeMap Id ℕ)) → IsChanged change old there → SetsCrates cmp graph there new ids
    → IsChanged change old new
IsChanged_set change cmp graph old there new ids changed set =
    let kept = keeps cmp graph there new ids set in
    record {
      local = kept.local ∙ changed.local;
      library = kept.library ∙ changed.library;
      nonce = kept.nonce ∙ changed.nonce;
      roots = λ number. ap (λ (f : FileTables). source_root_at f number) kept.files ∙ changed.roots number;
      places = λ file. ap (λ (f : FileTables). file_root_of f file) kept.files ∙ changed.places file;
      texts = λ file. subst (λ (f : FileTables). text_of_file f file ≡ text_after change.files_changed old.files f file) (sym kept.files)
          (changed.texts file);
    }
