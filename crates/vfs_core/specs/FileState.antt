-- What is known of a file, and what new contents make of it: the state table of the file system's update.
use Rattle.std.specs.Prelude.{ℕ, Bool, true, false, List, Option, Some, None, is_some, nat_eq, if◌then◌else◌}
use Rattle.vfs_core.specs.declared.changed_file.Change.{Change}
use Rattle.vfs_core.specs.declared.changed_file.Change.TheVariants.{Create, Modify, Delete}
use Rattle.vfs_core.specs.declared.file_state.FileState.{FileState}
use Rattle.vfs_core.specs.declared.file_state.FileState.TheVariants.{Exists, Deleted, Excluded}
use Rattle.vfs_core.specs.declared.file_state.FileExcluded.{FileExcluded}
use Rattle.vfs_core.specs.declared.file_state.FileExcluded.TheVariants.{Yes, No}
use Rattle.vfs_core.specs.Hash.{content_hash}

-- the state after contents come, or a deletion where there are none
abbrev pub state_after : FileState → Option (List ℕ) → FileState
state_after Excluded contents = Excluded
state_after Deleted None = Deleted
state_after Deleted (Some bytes) = Exists (content_hash bytes)
state_after (Exists hash) None = Deleted
state_after (Exists hash) (Some bytes) = Exists (content_hash bytes)

-- the change that contents, or a deletion where there are none, make of a file, if any
abbrev pub change_made : FileState → Option (List ℕ) → Option Change
change_made Excluded contents = None
change_made Deleted None = None
change_made Deleted (Some bytes) = Some (Create bytes (content_hash bytes))
change_made (Exists hash) None = Some Delete
change_made (Exists hash) (Some bytes) =
    if nat_eq hash (content_hash bytes) then None else Some (Modify bytes (content_hash bytes))

-- whether contents, or a deletion where there are none, change a file
abbrev pub is_change : FileState → Option (List ℕ) → Bool
is_change state contents = is_some (change_made state contents)

-- the state that a change leaves
abbrev pub state_by : Change → FileState
state_by (Create bytes hash) = Exists hash
state_by (Modify bytes hash) = Exists hash
state_by Delete = Deleted

-- the state after a change, if there is one
abbrev pub state_left : FileState → Option Change → FileState
state_left state None = state
state_left state (Some change) = state_by change

-- whether a file exists
abbrev pub is_existing : FileState → Bool
is_existing (Exists hash) = true
is_existing Deleted = false
is_existing Excluded = false

-- how a look-up shows a file: not at all where it is deleted
abbrev pub visibility : FileState → Option FileExcluded
visibility (Exists hash) = Some No
visibility Deleted = None
visibility Excluded = Some Yes

-- the state of a file whose text that counts is known
abbrev pub state_of : Option (List ℕ) → FileState
state_of None = Deleted
state_of (Some text) = Exists (content_hash text)
