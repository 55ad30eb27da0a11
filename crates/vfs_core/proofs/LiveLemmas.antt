-- Where the files follow marks, those that exist are the live ones, in order of first mention.
use Rattle.std.proofs.Common.{◌≡◌, ℕ, zero, suc, ◌+◌, Bool, true, false, cond, List, [], ◌∷◌, Option, Some, None, refl, sym, ◌∙◌, ap, map, slice_get, slice_index_or, is_some, if◌then◌else◌}
use Rattle.std.specs.List.{AllByRecursion, IsDistinct, filter}
use Rattle.std.specs.Map.{keys_of, lookup}
use Rattle.std.specs.Option.{unwrap_or}
use Rattle.std.proofs.lemmas.List.Elements.{recursion_from_All}
use Rattle.std.proofs.lemmas.Option.{slice_get-get_or}
use Rattle.vfs_core.specs.declared.file_state.FileState.{FileState}
use Rattle.vfs_core.specs.declared.file_state.FileState.TheVariants.{Deleted, Excluded}
use Rattle.vfs_core.specs.declared.marks.Mark.{Mark}
use Rattle.vfs_core.specs.FileState.{is_existing, state_of}
use Rattle.vfs_core.specs.Files.{Files, Follows, existing_files, existing_files_from, paths_of, state_at, state_by_marks}
use Rattle.vfs_core.specs.Marks.{is_out, kept_text, live_paths, live_text}
use Rattle.vfs_core.specs.VfsPath.{PathContent, vfs_path_eq}
use Rattle.vfs_core.specs.VfsPathOrder.{vfs_path_equiv}
use Rattle.vfs_core.proofs.NumberLemmas.{all-at, keys_at}

-- an entry exists just where its path passes
abbrev Agrees : (PathContent → Bool) → PathContent × FileState → Type 0
Agrees test entry = is_existing entry.1 ≡ test entry.0

-- one more entry: the same by whether it exists
existing_files-split : (test : PathContent → Bool) (number : ℕ) (entry : PathContent × FileState)
    (entries : List (PathContent × FileState)) (exists : Bool) → test entry.0 ≡ exists
    → map (λ file. file.1) (existing_files_from (number + 1) entries) ≡ filter test (keys_of entries)
    → map (λ file. file.1) (if exists then (number, entry.0) ∷ existing_files_from (number + 1) entries
    else existing_files_from (number + 1) entries)
    ≡ cond (test entry.0) (entry.0 ∷ filter test (keys_of entries)) (filter test (keys_of entries))
existing_files-split test number entry entries true e more = rw e (ap (λ ps. entry.0 ∷ ps) more)
existing_files-split test number entry entries false e more = rw e more

-- the paths of the existing entries are those that pass
existing_files-passes : (test : PathContent → Bool) (number : ℕ) (entries : List (PathContent × FileState))
    → AllByRecursion (Agrees test) entries
    → map (λ file. file.1) (existing_files_from number entries) ≡ filter test (keys_of entries)
existing_files-passes test number [] all = refl
existing_files-passes test number (entry ∷ entries) all =
    existing_files-split test number entry entries (is_existing entry.1) (sym all.0)
    (existing_files-passes test (number + 1) entries all.1)

-- a look-up finds the entry of its own path
lookup-own : (entries : List (PathContent × FileState)) (number : ℕ) (entry : PathContent × FileState)
    → IsDistinct vfs_path_eq (keys_of entries) → slice_get entries number ≡ Some entry
    → lookup (vfs_path_eq entry.0) entries ≡ Some entry.1
unfolding IsDistinct
lookup-own [] number entry distinct h = cc
lookup-own (first ∷ rest) zero entry distinct h =
    let same : first ≡ entry = cc in
    let equal : vfs_path_eq entry.0 first.0 ≡ true = rw same (vfs_path_equiv.refl entry.0) in
    rw equal (ap (λ (e : PathContent × FileState). Some e.1) same)
lookup-own (first ∷ rest) (suc number) entry distinct h =
    let other : vfs_path_eq first.0 entry.0 ≡ false =
    all-at (λ p. vfs_path_eq first.0 p ≡ false) (keys_of rest) number entry.0 distinct.0 (keys_at rest number entry.0 entry.1 h) in
    let differs : vfs_path_eq entry.0 first.0 ≡ false = vfs_path_equiv.symm entry.0 first.0 ∙ other in
    rw differs (lookup-own rest number entry distinct.1 h)

-- a file exists where it has a text that counts and is not left out
pub existing_files-state : (is_left_out : Bool) (text : Option (List ℕ))
    → is_existing (cond is_left_out Excluded (state_of text)) ≡ is_some (cond is_left_out None text)
existing_files-state true text = refl
existing_files-state false None = refl
existing_files-state false (Some text) = refl

pub existing_files-told : (marks : List Mark) (path : PathContent)
    → is_existing (state_by_marks marks path) ≡ is_some (live_text marks path)
unfolding live_text
existing_files-told marks path = existing_files-state (is_out marks path) (kept_text marks path)

-- the existing files are the live ones
pub existing_live : (files : Files) (marks : List Mark) → IsDistinct vfs_path_eq (paths_of files)
    → Follows files marks → map (λ file. file.1) (existing_files files) ≡ live_paths marks
existing_live files marks distinct follows =
    let test = λ (path : PathContent). is_some (live_text marks path) in
    let agree : AllByRecursion (Agrees test) files.entries = recursion_from_All (Agrees test) files.entries
    (λ k d within.
    let entry = slice_index_or files.entries k d in
    let state : state_at files entry.0 ≡ entry.1 =
    ap (λ (s : Option FileState). unwrap_or s Deleted)
    (lookup-own files.entries k entry distinct (slice_get-get_or files.entries k d within)) in
    ap is_existing (sym state ∙ follows.states entry.0) ∙ existing_files-told marks entry.0) in
    existing_files-passes test 0 files.entries agree ∙ ap (filter test) follows.numbers
