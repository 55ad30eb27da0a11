-- What contracts see of the file system: the limit, each path with its state, in order of first mention, and
-- the batch. The position of a path in that order is its number.
use Rattle.std.specs.Prelude.{◌≡◌, ℕ, ◌+◌, ◌≤◌, Bool, List, [], ◌∷◌, Option, Some, None, length, map, position, slice_get, if◌then◌else◌}
use Rattle.std.specs.Option.{option_map, option_and_then, unwrap_or}
use Rattle.std.specs.List.{IsDistinct, position_or_len}
use Rattle.std.specs.Map.{keys_of, lookup}
use Rattle.std.specs.declared.vec.Vec.{Vec}
use Rattle.std.specs.Borrow.{Bor}
use Rattle.indexmap.specs.IndexMap.{insert_entry}
use Rattle.vfs_core.specs.declared.file_state.FileState.{FileState}
use Rattle.vfs_core.specs.declared.file_state.FileState.TheVariants.{Deleted, Excluded}
use Rattle.vfs_core.specs.declared.changed_file.ChangedFile.{ChangedFile}
use Rattle.vfs_core.specs.Batch.{changed_file, with_call, with_changed_file, IsBatch}
use Rattle.vfs_core.specs.declared.file_state.FileExcluded.{FileExcluded}
use Rattle.vfs_core.specs.declared.marks.Mark.{Mark}
use Rattle.vfs_core.specs.declared.marks.MarkKind.{MarkKind}
use Rattle.vfs_core.specs.declared.marks.MarkKind.TheVariants.{Text, Gone, Out}
use Rattle.vfs_core.specs.FileState.{change_made, is_change, is_existing, visibility, state_after, state_of}
use Rattle.vfs_core.specs.Marks.{is_out, kept_text, live_paths, mentioned_paths, with_path}
use Rattle.vfs_core.specs.VfsPath.{PathContent, vfs_path_eq}

-- the greatest number of paths, each path with its state, and the changes since they were last taken
pub record Files : Type 0 where
  pub limit : ℕ
  pub entries : List (PathContent × FileState)
  pub batch : List (ℕ × ChangedFile)

-- no files, and no changes
abbrev pub no_files : ℕ → Files
no_files limit = record { limit = limit; entries = []; batch = [] }

-- numbers stay within 31 bits, and no path comes twice
pub record IsWellMade (limit : ℕ) (entries : List (PathContent × FileState)) : Type 0 where
  pub limit_fits : limit ≤ 0x7fff_ffff
  pub numbers_fit : length entries ≤ 0x7fff_ffff
  pub distinct : IsDistinct vfs_path_eq (keys_of entries)

-- the paths, by number
abbrev pub paths_of : Files → List PathContent
paths_of files = keys_of files.entries

-- the number of a path
abbrev pub path_number : Files → PathContent → Option ℕ
path_number files path = position (vfs_path_eq path) (paths_of files)

-- the path of a number
abbrev pub path_at : Files → ℕ → Option PathContent
path_at files number = slice_get (paths_of files) number

-- the state of a path, where it has been mentioned
abbrev pub entry_state : Files → PathContent → Option FileState
entry_state files path = lookup (vfs_path_eq path) files.entries

-- the state of a path, which is deleted until it is mentioned
abbrev pub state_at : Files → PathContent → FileState
state_at files path = unwrap_or (entry_state files path) Deleted

-- the files, with a state for a path
abbrev pub with_state : Files → PathContent → FileState → Files
with_state files path state = record files { entries = insert_entry vfs_path_eq files.entries path state }

-- the number that a path has, or takes where it is new
abbrev pub number_for : Files → PathContent → ℕ
number_for files path = position_or_len (vfs_path_eq path) (paths_of files)

-- what contents, or a deletion where there are none, do to the file of a path, if anything
abbrev pub call_made : Files → PathContent → Option (List ℕ) → Option ChangedFile
call_made files path contents =
    option_map (changed_file (number_for files path)) (change_made (state_at files path) contents)

-- the files after contents, or a deletion where there are none, come for a path
abbrev pub with_contents : Files → PathContent → Option (List ℕ) → Files
with_contents files path contents = record files {
  entries = insert_entry vfs_path_eq files.entries path (state_after (state_at files path) contents);
  batch = with_changed_file (call_made files path contents) files.batch;
}

-- whether contents, or a deletion where there are none, change a file
abbrev pub is_change_at : Files → PathContent → Option (List ℕ) → Bool
is_change_at files path contents = is_change (state_at files path) contents

-- the bytes of contents
abbrev pub bytes_of_contents : {Z : Type 0} → Option (Vec ℕ Z) → Option (List ℕ)
bytes_of_contents contents = option_map (λ bytes. bytes.items) contents

-- one path has the state that contents make of it, each other path what it had
abbrev pub SetsState : Files → Files → PathContent → Option (List ℕ) → Type 0
SetsState old new path contents = (each_path : PathContent) → entry_state new each_path
    ≡ (if vfs_path_eq path each_path then Some (state_after (state_at old path) contents)
    else entry_state old each_path)

-- one path is left out, each other path has the state that it had
abbrev pub Excludes : Files → Files → PathContent → Type 0
Excludes old new path = (each_path : PathContent) → entry_state new each_path
    ≡ (if vfs_path_eq path each_path then Some Excluded else entry_state old each_path)

-- a path is new where no more paths may come
abbrev pub IsFullFor : Files → PathContent → Type 0
IsFullFor files path = (entry_state files path ≡ None) × (files.limit ≤ length files.entries)

-- one more path keeps within the numbers
abbrev pub HasRoomFor : Files → PathContent → Type 0
HasRoomFor files path = length (with_path path (paths_of files)) ≤ 0x7fff_ffff

-- each path that had a number has it still, and each number its path
pub record KeepsNumbers (old new : Files) : Type 0 where
  pub numbers : (path : PathContent) (number : ℕ)
      → path_number old path ≡ Some number → path_number new path ≡ Some number
  pub paths : (path : PathContent) (number : ℕ)
      → path_at old number ≡ Some path → path_at new number ≡ Some path

-- what a look-up finds: the number, and whether the file is excluded
abbrev pub lookup_result : Files → PathContent → Option (ℕ × FileExcluded)
lookup_result files path =
    option_and_then (λ number. option_map (λ excluded. (number, excluded)) (visibility (state_at files path)))
    (path_number files path)

-- whether the file of a number exists, where there is one
abbrev pub existence_at : Files → ℕ → Option Bool
existence_at files number = option_map (λ entry. is_existing entry.1) (slice_get files.entries number)

-- the existing files among entries that are numbered from here on
abbrev pub existing_files_from : ℕ → List (PathContent × FileState) → List (ℕ × PathContent)
existing_files_from number [] = []
existing_files_from number (entry ∷ entries) =
    if is_existing entry.1 then (number, entry.0) ∷ existing_files_from (number + 1) entries
    else existing_files_from (number + 1) entries

-- the existing files with their numbers, by number
abbrev pub existing_files : Files → List (ℕ × PathContent)
existing_files files = existing_files_from 0 files.entries

-- what an item of the iteration shows: a number and the path of it
abbrev pub numbered_path : ℕ × Bor PathContent → ℕ × PathContent
numbered_path item = (item.0, item.1.now)

-- what contents, or a deletion where there are none, say of a file
abbrev pub kind_of : Option (List ℕ) → MarkKind
kind_of None = Gone
kind_of (Some text) = Text text

-- the state of a path by marks: left out for good, or by the text that counts
abbrev pub state_by_marks : List Mark → PathContent → FileState
state_by_marks marks path = if is_out marks path then Excluded else state_of (kept_text marks path)

-- the files are what marks make of them: numbers in order of first mention, states as the marks give
pub record Follows (files : Files) (marks : List Mark) : Type 0 where
  pub numbers : paths_of files ≡ mentioned_paths marks
  pub states : (path : PathContent) → state_at files path ≡ state_by_marks marks path

-- whatever marks the files followed, they follow these and one more
abbrev pub TakesMark : Files → Files → PathContent → Option (List ℕ) → Type 0
TakesMark old new path contents = (marks : List Mark)
    → Follows old marks → Follows new (record { path = path; kind = kind_of contents } ∷ marks)

-- whatever marks the files followed, they follow these and one more by which the path is left out
abbrev pub TakesOut : Files → Files → PathContent → Type 0
TakesOut old new path = (marks : List Mark)
    → Follows old marks → Follows new (record { path = path; kind = Out } ∷ marks)

-- whatever marks the files followed, they follow them still
abbrev pub KeepsMarks : Files → Files → Type 0
KeepsMarks old new = (marks : List Mark) → Follows old marks → Follows new marks

-- whatever marks the files follow, these are the live files of the marks
abbrev pub ListsLive : Files → List (ℕ × PathContent) → Type 0
ListsLive files listed = (marks : List Mark)
    → Follows files marks → map (λ file. file.1) listed ≡ live_paths marks

-- the batch is what these calls made, newest first: those that answered true since the changes were last
-- taken
abbrev pub Gathers : Files → List ChangedFile → Type 0
Gathers files calls = IsBatch files.batch calls

-- whatever calls the batch gathered, it gathers these and this one, where it changed its file
abbrev pub TakesCall : Files → Files → PathContent → Option (List ℕ) → Type 0
TakesCall old new path contents = (calls : List ChangedFile)
    → Gathers old calls → Gathers new (with_call (call_made old path contents) calls)

-- whatever calls the batch gathered, it gathers them still
abbrev pub KeepsCalls : Files → Files → Type 0
KeepsCalls old new = (calls : List ChangedFile) → Gathers old calls → Gathers new calls

-- whatever calls the batch gathered, this is their batch
abbrev pub GivesBatch : Files → List (ℕ × ChangedFile) → Type 0
GivesBatch files batch = (calls : List ChangedFile) → Gathers files calls → IsBatch batch calls
