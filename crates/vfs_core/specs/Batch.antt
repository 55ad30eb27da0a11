-- What a batch holds after some calls: one change for each file, in order of first change.
-- From the documentation of the virtual file system's changes.
use Rattle.std.specs.Prelude.{◌≡◌, ℕ, Bool, true, false, ◌&&◌, not, List, [], ◌∷◌, Option, Some, None, nat_eq, map}
use Rattle.std.specs.List.{filter, list_any}
use Rattle.std.specs.Map.{keys_of, lookup}
use Rattle.std.specs.Option.{option_map}
use Rattle.indexmap.specs.IndexMap.{insert_entry}
use Rattle.vfs_core.specs.Distinct.{with_item}
use Rattle.vfs_core.specs.declared.changed_file.Change.{Change}
use Rattle.vfs_core.specs.declared.changed_file.Change.TheVariants.{Create, Modify, Delete}
use Rattle.vfs_core.specs.declared.changed_file.ChangeKind.{ChangeKind}
use Rattle.vfs_core.specs.declared.changed_file.ChangeKind.TheVariants.{Create as CreateKind, Modify as ModifyKind, Delete as DeleteKind}
use Rattle.vfs_core.specs.declared.changed_file.ChangedFile.{ChangedFile}

-- a change without the contents
abbrev pub kind_of_change : Change → ChangeKind
kind_of_change (Create bytes hash) = CreateKind
kind_of_change (Modify bytes hash) = ModifyKind
kind_of_change Delete = DeleteKind

-- whether a change made the file
abbrev pub is_creation : Change → Bool
is_creation (Create bytes hash) = true
is_creation (Modify bytes hash) = false
is_creation Delete = false

-- whether it left a file that was there
abbrev pub is_modification : Change → Bool
is_modification (Create bytes hash) = false
is_modification (Modify bytes hash) = true
is_modification Delete = false

-- whether it deleted the file
abbrev pub is_deletion : Change → Bool
is_deletion (Create bytes hash) = false
is_deletion (Modify bytes hash) = false
is_deletion Delete = true

-- whether the file was made or deleted
abbrev pub is_creation_or_deletion : Change → Bool
is_creation_or_deletion (Create bytes hash) = true
is_creation_or_deletion (Modify bytes hash) = false
is_creation_or_deletion Delete = true

-- whether the file exists after a change
abbrev pub exists_after : Change → Bool
exists_after change = not (is_deletion change)

-- what some calls did to one file, newest first
abbrev pub changes_of : ℕ → List ChangedFile → List Change
changes_of file calls = map (λ call. call.change) (filter (λ call. nat_eq file call.file_id) calls)

-- whether the first of these made the file
abbrev pub began_with_creation : List Change → Bool
began_with_creation [] = false
began_with_creation (change ∷ []) = is_creation change
began_with_creation (change ∷ next ∷ changes) = began_with_creation (next ∷ changes)

-- whether the file is a new one: the first of these made it, and no deletion came
abbrev pub is_new : List Change → Bool
is_new changes = began_with_creation changes && not (list_any is_deletion changes)

-- these contents of a file that is new, or of one that was there
abbrev pub create_or_modify : Bool → List ℕ → ℕ → Change
create_or_modify true bytes hash = Create bytes hash
create_or_modify false bytes hash = Modify bytes hash

-- one change in place of all, newest first: a deletion where the last was one, else the last contents
abbrev pub net_change : List Change → Option Change
net_change [] = None
net_change (Delete ∷ changes) = Some Delete
net_change (Create bytes hash ∷ changes) =
    Some (create_or_modify (is_new (Create bytes hash ∷ changes)) bytes hash)
net_change (Modify bytes hash ∷ changes) =
    Some (create_or_modify (is_new (Modify bytes hash ∷ changes)) bytes hash)

-- the files that calls changed, in order of first change; the calls stand newest first
abbrev pub files_of_calls : List ChangedFile → List ℕ
files_of_calls [] = []
files_of_calls (call ∷ calls) = with_item nat_eq call.file_id (files_of_calls calls)

-- a file with its change
abbrev pub changed_file : ℕ → Change → ChangedFile
changed_file file change = record { file_id = file; change = change }

-- the batch of calls that answered true, newest first: each changed file has one change, in order of first
-- change
pub record IsBatch (batch : List (ℕ × ChangedFile)) (calls : List ChangedFile) : Type 0 where
  pub order : keys_of batch ≡ files_of_calls calls
  pub changes : (file : ℕ)
      → lookup (nat_eq file) batch ≡ option_map (changed_file file) (net_change (changes_of file calls))

-- calls, with one more where it changed its file
abbrev pub with_call : Option ChangedFile → List ChangedFile → List ChangedFile
with_call None calls = calls
with_call (Some call) calls = call ∷ calls

-- one change in place of an earlier one, of which the kind is left, and another
abbrev pub merged_change : Option ChangeKind → Change → Change
merged_change None change = change
merged_change (Some CreateKind) Delete = Delete
merged_change (Some CreateKind) (Create bytes hash) = Create bytes hash
merged_change (Some CreateKind) (Modify bytes hash) = Create bytes hash
merged_change (Some ModifyKind) Delete = Delete
merged_change (Some ModifyKind) (Create bytes hash) = Modify bytes hash
merged_change (Some ModifyKind) (Modify bytes hash) = Modify bytes hash
merged_change (Some DeleteKind) Delete = Delete
merged_change (Some DeleteKind) (Create bytes hash) = Modify bytes hash
merged_change (Some DeleteKind) (Modify bytes hash) = Modify bytes hash

-- the kind of change that a batch holds for a file
abbrev pub kind_in : List (ℕ × ChangedFile) → ℕ → Option ChangeKind
kind_in batch file = option_map (λ call. kind_of_change call.change) (lookup (nat_eq file) batch)

-- a batch, with one more change of a file
abbrev pub with_change : List (ℕ × ChangedFile) → ℕ → Change → List (ℕ × ChangedFile)
with_change batch file change =
    insert_entry nat_eq batch file (changed_file file (merged_change (kind_in batch file) change))

-- a batch, with one more call where it changed its file
abbrev pub with_changed_file : Option ChangedFile → List (ℕ × ChangedFile) → List (ℕ × ChangedFile)
with_changed_file None batch = batch
with_changed_file (Some call) batch = with_change batch call.file_id call.change
