-- What passes in a batch passes after one more change whose contents pass.
use Rattle.std.proofs.Common.{◌≡◌, ℕ, Bool, true, false, ◌&&◌, List, [], ◌∷◌, Option, Some, None, refl, ◌∙◌, ap, nat_eq, if◌then◌else◌}
use Rattle.std.proofs.lemmas.Bool.{and_parts}
use Rattle.std.specs.Option.{option_map}
use Rattle.indexmap.specs.IndexMap.{insert_entry}
use Rattle.vfs_core.specs.declared.changed_file.Change.{Change}
use Rattle.vfs_core.specs.declared.changed_file.Change.TheVariants.{Create, Modify, Delete}
use Rattle.vfs_core.specs.declared.changed_file.ChangedFile.{ChangedFile}
use Rattle.vfs_core.specs.declared.changed_file.ChangeKind.{ChangeKind}
use Rattle.vfs_core.specs.declared.changed_file.ChangeKind.TheVariants.{Create as CreateKind, Modify as ModifyKind, Delete as DeleteKind}
use Rattle.vfs_core.specs.declared.file_state.FileState.{FileState}
use Rattle.vfs_core.specs.declared.file_state.FileState.TheVariants.{Exists, Deleted, Excluded}
use Rattle.vfs_core.specs.Batch.{changed_file, kind_in, merged_change, with_changed_file}
use Rattle.vfs_core.specs.FileState.{change_made}
use Rattle.vfs_core.specs.Files.{Files, call_made, number_for, state_at}
use Rattle.vfs_core.specs.Hash.{content_hash}
use Rattle.vfs_core.specs.Texts.{KeepsPassing, all_pass, contents_pass, passes}
use Rattle.vfs_core.specs.VfsPath.{PathContent}

-- a batch with one more change passes: the same by whether the change is of the first file
passes-split : (test : List ℕ → Bool) (file : ℕ) (call : ChangedFile) (first : ℕ × ChangedFile) (rest : List (ℕ × ChangedFile)) (is_first : Bool)
    → passes test call.change ≡ true → passes test first.1.change && all_pass test rest ≡ true
    → (all_pass test rest ≡ true → all_pass test (insert_entry nat_eq rest file call) ≡ true)
    → all_pass test (if is_first then (first.0, call) ∷ rest else first ∷ insert_entry nat_eq rest file call) ≡ true
passes-split test file call first rest true passed all more = rw passed (and_parts (passes test first.1.change) (all_pass test rest) all).1
passes-split test file call first rest false passed all more =
    let both = and_parts (passes test first.1.change) (all_pass test rest) all in
    rw (both.0, more both.1) refl

-- one more change that passes
passes-insert : (test : List ℕ → Bool) (batch : List (ℕ × ChangedFile)) (file : ℕ) (call : ChangedFile)
    → passes test call.change ≡ true → all_pass test batch ≡ true → all_pass test (insert_entry nat_eq batch file call) ≡ true
passes-insert test [] file call passed all = rw passed refl
passes-insert test (entry ∷ rest) file call passed all =
    passes-split test file call entry rest (nat_eq file entry.0) passed all (passes-insert test rest file call passed)

-- a change in place of an earlier one, and another, passes as that other
passes-merged : (test : List ℕ → Bool) (earlier : Option ChangeKind) (change : Change)
    → passes test (merged_change earlier change) ≡ passes test change
passes-merged test None change = refl
passes-merged test (Some CreateKind) (Create bytes hash) = refl
passes-merged test (Some CreateKind) (Modify bytes hash) = refl
passes-merged test (Some CreateKind) Delete = refl
passes-merged test (Some ModifyKind) (Create bytes hash) = refl
passes-merged test (Some ModifyKind) (Modify bytes hash) = refl
passes-merged test (Some ModifyKind) Delete = refl
passes-merged test (Some DeleteKind) (Create bytes hash) = refl
passes-merged test (Some DeleteKind) (Modify bytes hash) = refl
passes-merged test (Some DeleteKind) Delete = refl

-- the change that contents make of a file passes with them
made-split : (test : List ℕ → Bool) (bytes : List ℕ) (batch : List (ℕ × ChangedFile)) (file hash : ℕ) (same : Bool)
    → test bytes ≡ true → all_pass test batch ≡ true
    → all_pass test (with_changed_file (option_map (changed_file file) (if same then None else Some (Modify bytes hash))) batch) ≡ true
made-split test bytes batch file hash true passed all = all
made-split test bytes batch file hash false passed all =
    passes-insert test batch file _ (passes-merged test (kind_in batch file) (Modify bytes hash) ∙ passed) all

-- by the state of the file
passes-made : (test : List ℕ → Bool) (contents : Option (List ℕ)) (state : FileState) (batch : List (ℕ × ChangedFile)) (file : ℕ)
    → contents_pass test contents ≡ true → all_pass test batch ≡ true
    → all_pass test (with_changed_file (option_map (changed_file file) (change_made state contents)) batch) ≡ true
passes-made test contents Excluded batch file passed all = all
passes-made test None Deleted batch file passed all = all
passes-made test (Some bytes) Deleted batch file passed all =
    passes-insert test batch file _ (passes-merged test (kind_in batch file) (Create bytes (content_hash bytes)) ∙ passed) all
passes-made test None (Exists hash) batch file passed all =
    passes-insert test batch file _ (passes-merged test (kind_in batch file) Delete) all
passes-made test (Some bytes) (Exists hash) batch file passed all =
    made-split test bytes batch file (content_hash bytes) (nat_eq hash (content_hash bytes)) passed all

-- what passed in the batch passes with these contents, where they do
pub KeepsPassing_call : (old new : Files) (path : PathContent) (contents : Option (List ℕ))
    → new.batch ≡ with_changed_file (call_made old path contents) old.batch → KeepsPassing old new contents
KeepsPassing_call old new path contents batch = record {
  each = λ test passed all.
      ap (all_pass test) batch ∙ passes-made test contents (state_at old path) old.batch (number_for old path) passed all;
}
