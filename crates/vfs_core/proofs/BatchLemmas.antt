-- One more call: what it makes of the batch of the calls before it.
use Rattle.std.proofs.Common.{◌≡◌, ℕ, Bool, true, false, List, [], ◌∷◌, Option, Some, None, refl, sym, ◌∙◌, ap, subst, nat_eq, eqb-true, eq-eqb, true≢false, map, if◌then◌else◌}
use Rattle.std.proofs.lemmas.Bool.{false_from_ne_true}
use Rattle.std.specs.List.{filter}
use Rattle.std.specs.Map.{lookup}
use Rattle.std.specs.Option.{option_map}
use Rattle.indexmap.specs.IndexMap.{insert_entry}
use Rattle.vfs_core.specs.declared.changed_file.Change.{Change}
use Rattle.vfs_core.specs.declared.changed_file.Change.TheVariants.{Create, Modify, Delete}
use Rattle.vfs_core.specs.declared.changed_file.ChangedFile.{ChangedFile}
use Rattle.vfs_core.specs.Batch.{began_with_creation, changed_file, changes_of, create_or_modify, net_change, is_new, kind_in, kind_of_change, merged_change, with_change, with_call, with_changed_file, IsBatch}
use Rattle.vfs_core.specs.Distinct.{with_item}
use Rattle.vfs_core.specs.Files.{Files, KeepsCalls}
use Rattle.vfs_core.proofs.DistinctLemmas.{keys_of_insert_entry}
use Rattle.std.proofs.Math.Bool.{and-false}

-- a change behind one whose kind says whether the file is new
merged-deletion : (is_new : Bool) (bytes : List ℕ) (hash : ℕ)
    → merged_change (Some (kind_of_change (create_or_modify is_new bytes hash))) Delete ≡ Delete
merged-deletion true bytes hash = refl
merged-deletion false bytes hash = refl

merged-creation : (is_new : Bool) (bytes bytes' : List ℕ) (hash hash' : ℕ)
    → merged_change (Some (kind_of_change (create_or_modify is_new bytes hash))) (Create bytes' hash') ≡ create_or_modify is_new bytes' hash'
merged-creation true bytes bytes' hash hash' = refl
merged-creation false bytes bytes' hash hash' = refl

merged-modification : (is_new : Bool) (bytes bytes' : List ℕ) (hash hash' : ℕ)
    → merged_change (Some (kind_of_change (create_or_modify is_new bytes hash))) (Modify bytes' hash') ≡ create_or_modify is_new bytes' hash'
merged-modification true bytes bytes' hash hash' = refl
merged-modification false bytes bytes' hash hash' = refl

-- one change in place of all is that of the earlier ones, merged with the last
net_change-cons : (change : Change) (changes : List Change)
    → net_change (change ∷ changes) ≡ Some (merged_change (option_map kind_of_change (net_change changes)) change)
net_change-cons Delete [] = refl
net_change-cons (Create bytes hash) [] = refl
net_change-cons (Modify bytes hash) [] = refl
net_change-cons Delete (Delete ∷ changes) = refl
net_change-cons Delete (Create bytes hash ∷ changes) =
    ap Some (sym (merged-deletion (is_new (Create bytes hash ∷ changes)) bytes hash))
net_change-cons Delete (Modify bytes hash ∷ changes) =
    ap Some (sym (merged-deletion (is_new (Modify bytes hash ∷ changes)) bytes hash))
net_change-cons (Create bytes hash) (Delete ∷ changes) =
    ap (λ (n : Bool). Some (create_or_modify n bytes hash)) (and-false (began_with_creation (Delete ∷ changes)))
net_change-cons (Create bytes hash) (Create bytes' hash' ∷ changes) =
    ap Some (sym (merged-creation (is_new (Create bytes' hash' ∷ changes)) bytes' bytes hash' hash))
net_change-cons (Create bytes hash) (Modify bytes' hash' ∷ changes) =
    ap Some (sym (merged-creation (is_new (Modify bytes' hash' ∷ changes)) bytes' bytes hash' hash))
net_change-cons (Modify bytes hash) (Delete ∷ changes) =
    ap (λ (n : Bool). Some (create_or_modify n bytes hash)) (and-false (began_with_creation (Delete ∷ changes)))
net_change-cons (Modify bytes hash) (Create bytes' hash' ∷ changes) =
    ap Some (sym (merged-modification (is_new (Create bytes' hash' ∷ changes)) bytes' bytes hash' hash))
net_change-cons (Modify bytes hash) (Modify bytes' hash' ∷ changes) =
    ap Some (sym (merged-modification (is_new (Modify bytes' hash' ∷ changes)) bytes' bytes hash' hash))

-- the call of a file after an insertion: the same with both tests of the first entry known
found-split : (file other : ℕ) (call : ChangedFile) (first : ℕ × ChangedFile) (rest : List (ℕ × ChangedFile))
    (is_first is_other : Bool) → nat_eq file first.0 ≡ is_first → nat_eq other first.0 ≡ is_other
    → lookup (nat_eq other) (insert_entry nat_eq rest file call) ≡ (if nat_eq other file then Some call else lookup (nat_eq other) rest)
    → lookup (nat_eq other) (if is_first then (first.0, call) ∷ rest else first ∷ insert_entry nat_eq rest file call)
    ≡ (if nat_eq other file then Some call else (if is_other then Some first.1 else lookup (nat_eq other) rest))
found-split file other call first rest true true f o more =
    let one : file ≡ first.0 = eqb-true file first.0 f in
    let same : nat_eq other file ≡ true = ap (nat_eq other) one ∙ o in
    rw (o, same)
found-split file other call first rest true false f o more =
    let one : file ≡ first.0 = eqb-true file first.0 f in
    let same : nat_eq other file ≡ false = ap (nat_eq other) one ∙ o in
    rw (o, same)
found-split file other call first rest false true f o more =
    let one : other ≡ first.0 = eqb-true other first.0 o in
    let apart : nat_eq other file ≡ false = false_from_ne_true (nat_eq other file)
    (λ (e : nat_eq other file ≡ true). true≢false (sym (eq-eqb file first.0 (sym (eqb-true other file e) ∙ one)) ∙ f)) in
    rw (o, apart)
found-split file other call first rest false false f o more = rw o more

-- the call that a batch holds for a file after an insertion
pub found_insert_entry : (batch : List (ℕ × ChangedFile)) (file other : ℕ) (call : ChangedFile)
    → lookup (nat_eq other) (insert_entry nat_eq batch file call) ≡ (if nat_eq other file then Some call else lookup (nat_eq other) batch)
found_insert_entry [] file other call = refl
found_insert_entry (entry ∷ batch) file other call =
    found-split file other call entry batch (nat_eq file entry.0) (nat_eq other entry.0) refl refl
    (found_insert_entry batch file other call)

-- what calls did to a file, with one more: the same by whether it is of the file
done-split : (other : ℕ) (call : ChangedFile) (calls : List ChangedFile) (batch : List (ℕ × ChangedFile)) (is_own : Bool)
    → nat_eq other call.file_id ≡ is_own → IsBatch batch calls
    → (if is_own then Some (changed_file call.file_id (merged_change (kind_in batch call.file_id) call.change)) else lookup (nat_eq other) batch)
    ≡ option_map (changed_file other)
    (net_change (map (λ c. c.change) (if is_own then call ∷ filter (λ c. nat_eq other c.file_id) calls else filter (λ c. nat_eq other c.file_id) calls)))
done-split other call calls batch true own before =
    let one : other ≡ call.file_id = eqb-true other call.file_id own in
    let kinds : (found : Option ChangedFile) (change : Option Change) → found ≡ option_map (changed_file call.file_id) change
    → option_map (λ c. kind_of_change c.change) found ≡ option_map kind_of_change change = kinds_of call.file_id in
    let kind : kind_in batch call.file_id ≡ option_map kind_of_change (net_change (changes_of call.file_id calls)) =
    kinds _ _ (before.changes call.file_id) in
    ap (λ k. Some (changed_file call.file_id (merged_change k call.change))) kind
    ∙ sym (ap (option_map (changed_file call.file_id)) (net_change-cons call.change (changes_of call.file_id calls)))
    ∙ ap (λ file. option_map (changed_file file) (net_change (call.change ∷ changes_of file calls))) (sym one)
  where
    kinds_of : (file : ℕ) (found : Option ChangedFile) (change : Option Change) → found ≡ option_map (changed_file file) change
        → option_map (λ c. kind_of_change c.change) found ≡ option_map kind_of_change change
    kinds_of file found None e = ap (option_map (λ c. kind_of_change c.change)) e
    kinds_of file found (Some change) e = ap (option_map (λ c. kind_of_change c.change)) e
done-split other call calls batch false own before = before.changes other

-- no calls, no changes
pub batch_of_none : IsBatch [] []
batch_of_none = record { order = refl; changes = λ file. refl }

-- one more call
IsBatch-with_change : (batch : List (ℕ × ChangedFile)) (calls : List ChangedFile) (call : ChangedFile)
    → IsBatch batch calls → IsBatch (with_change batch call.file_id call.change) (call ∷ calls)
IsBatch-with_change batch calls call before = record {
  order = keys_of_insert_entry nat_eq batch call.file_id _ ∙ ap (with_item nat_eq call.file_id) before.order;
  changes = λ file. found_insert_entry batch call.file_id file _
      ∙ done-split file call calls batch (nat_eq file call.file_id) refl before;
}

-- the same where the call may have changed nothing
IsBatch-with : (call : Option ChangedFile) (batch : List (ℕ × ChangedFile)) (calls : List ChangedFile)
    → IsBatch batch calls → IsBatch (with_changed_file call batch) (with_call call calls)
IsBatch-with None batch calls before = before
IsBatch-with (Some call) batch calls before = IsBatch-with_change batch calls call before

-- a batch with one more call noted is that of one more call
pub IsBatch_called : (before after : List (ℕ × ChangedFile)) (call : Option ChangedFile)
    → after ≡ with_changed_file call before → (calls : List ChangedFile)
    → IsBatch before calls → IsBatch after (with_call call calls)
IsBatch_called before after call e calls is =
    subst (λ batch. IsBatch batch (with_call call calls)) (sym e) (IsBatch-with call before calls is)

-- where the batch stays, so do its calls
pub KeepsCalls_same : (old new : Files) → new.batch ≡ old.batch → KeepsCalls old new
KeepsCalls_same old new e = λ calls before. subst (λ batch. IsBatch batch calls) (sym e) before
