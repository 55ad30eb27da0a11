-- The files that exist, of a file system that follows marks, are the live files of the marks, in one order.
use Rattle.std.proofs.Common.{◌≡◌, ℕ, suc, ◌+◌, slice_get, subst, Bool, true, false, List, [], ◌∷◌, ◌++◌, Option, Some, None, get_or, map, refl, sym, ◌∙◌, ap, arith, is_some, if◌then◌else◌}
use Rattle.std.specs.List.{All, IsDistinct, enumerate_from, filter_map, list_any}
use Rattle.std.specs.Map.{keys_of, lookup}
use Rattle.std.specs.Option.{option_map, unwrap_or}
use Rattle.std.proofs.lemmas.List.Elements.{All-contains_itself, All-tail}
use Rattle.std.proofs.lemmas.Map.Keys.{IsDistinct-push}
use Rattle.std.proofs.lemmas.Option.{get_or_from_slice_get, slice_get_within}
use Rattle.std.proofs.lemmas.Map.Views.{lookup-from_Contains}
use Rattle.vfs_core.specs.declared.file_state.FileState.{FileState}
use Rattle.vfs_core.specs.declared.file_state.FileState.TheVariants.{Deleted}
use Rattle.vfs_core.specs.declared.marks.Mark.{Mark}
use Rattle.vfs_core.specs.FileState.{is_existing}
use Rattle.vfs_core.specs.Files.{Files, Follows, existing_files, existing_files_from}
use Rattle.vfs_core.specs.Marks.{live_files, live_text, mentioned_paths}
use Rattle.vfs_core.specs.VfsPath.{PathContent, vfs_path_eq}
use Rattle.vfs_core.specs.VfsPathOrder.{vfs_path_equiv}
use Rattle.vfs_core.proofs.LiveLemmas.{existing_files-told}
use Rattle.live_project.specs.LiveTexts.{LiveFile, live_file, numbered_files}

-- the live files among some places, by the text that counts for each
abbrev pub live_of : (PathContent → Option (List ℕ)) → List PathContent → List (PathContent × List ℕ)
live_of text_of places = filter_map (λ place. option_map (λ text. (place, text)) (text_of place)) places

-- an entry exists where a text counts for it
abbrev IsTold : (PathContent → Option (List ℕ)) → PathContent × FileState → Type 0
IsTold text_of entry = is_existing entry.1 ≡ is_some (text_of entry.0)

-- places with one more: the same by whether it is new
distinct-split : (place : PathContent) (places : List PathContent) (is_known : Bool)
    → list_any (vfs_path_eq place) places ≡ is_known → IsDistinct vfs_path_eq places
    → IsDistinct vfs_path_eq (if is_known then places else places ++ place ∷ [])
distinct-split place places true known apart = apart
distinct-split place places false known apart = IsDistinct-push vfs_path_equiv places place apart known

-- no place is mentioned twice
pub mentioned_paths-distinct : (marks : List Mark) → IsDistinct vfs_path_eq (mentioned_paths marks)
unfolding IsDistinct
mentioned_paths-distinct [] = tt
mentioned_paths-distinct (mark ∷ marks) =
    distinct-split mark.path (mentioned_paths marks) (list_any (vfs_path_eq mark.path) (mentioned_paths marks)) refl
    (mentioned_paths-distinct marks)

-- so each entry has the state of its place
entries_told : (files : Files) (marks : List Mark) → Follows files marks
    → All (IsTold (live_text marks)) files.entries
entries_told files marks follows = λ k d within.
    let entry = get_or files.entries k d in
    let apart : IsDistinct vfs_path_eq (keys_of files.entries) = rw follows.numbers (mentioned_paths-distinct marks) in
    let at : lookup (vfs_path_eq entry.0) files.entries ≡ Some entry.1 =
    lookup-from_Contains vfs_path_equiv entry.0 entry.1 files.entries apart
    (All-contains_itself files.entries k d within) in
    ap is_existing (sym (ap (λ (s : Option FileState). unwrap_or s Deleted) at) ∙ follows.states entry.0)
    ∙ existing_files-told marks entry.0

-- a live file among entries that are numbered from here on: the same by whether the first lives
files-split : {B : Type 0} (made : ℕ × PathContent → B) (of : PathContent × List ℕ → B) (text_of : PathContent → Option (List ℕ)) (number : ℕ) (place : PathContent)
    (state : FileState) (entries : List (PathContent × FileState)) (text : Option (List ℕ))
    → is_existing state ≡ is_some text → text_of place ≡ text
    → ((t : List ℕ) → text_of place ≡ Some t → made (number, place) ≡ of (place, t))
    → map made (existing_files_from (number + 1) entries) ≡ map of (live_of text_of (keys_of entries))
    → map made (existing_files_from number ((place, state) ∷ entries)) ≡ map of (live_of text_of (place ∷ keys_of entries))
files-split made of text_of number place state entries None told is agree more = rw (told, is) more
files-split made of text_of number place state entries (Some text) told is agree more =
    rw (told, is) (ap (λ b. b ∷ map made (existing_files_from (number + 1) entries)) (agree text is) ∙ ap (λ l. of (place, text) ∷ l) more)

files-live : {B : Type 0} (made : ℕ × PathContent → B) (of : PathContent × List ℕ → B) (text_of : PathContent → Option (List ℕ)) (number : ℕ)
    (entries : List (PathContent × FileState)) → All (IsTold text_of) entries
    → ((k : ℕ) (entry : PathContent × FileState) (t : List ℕ) → slice_get entries k ≡ Some entry → text_of entry.0 ≡ Some t
    → made (number + k, entry.0) ≡ of (entry.0, t))
    → map made (existing_files_from number entries) ≡ map of (live_of text_of (keys_of entries))
files-live made of text_of number [] told agree = refl
files-live made of text_of number (entry ∷ entries) told agree =
    files-split made of text_of number entry.0 entry.1 entries (text_of entry.0) (told 0 entry (omega arith)) refl
    (λ t is. subst (λ n. made (n, entry.0) ≡ of (entry.0, t)) (omega arith) (agree 0 entry t refl is))
    (files-live made of text_of (number + 1) entries (All-tail (IsTold text_of) entry entries told)
    (λ k e t at is. subst (λ n. made (n, e.0) ≡ of (e.0, t)) (omega arith) (agree (suc k) e t at is)))

-- what is made of the files that exist is what is made of those that live, where it agrees on each
pub files_live : {B : Type 0} (made : ℕ × PathContent → B) (of : PathContent × List ℕ → B) (files : Files) (marks : List Mark) → Follows files marks
    → ((k : ℕ) (entry : PathContent × FileState) (t : List ℕ) → slice_get files.entries k ≡ Some entry → live_text marks entry.0 ≡ Some t
    → made (k, entry.0) ≡ of (entry.0, t))
    → map made (existing_files files) ≡ map of (live_files marks)
files_live made of files marks follows agree =
    files-live made of (live_text marks) 0 files.entries (entries_told files marks follows)
    (λ k entry t at is. subst (λ n. made (n, entry.0) ≡ of (entry.0, t)) (omega arith) (agree k entry t at is))
    ∙ ap (λ places. map of (live_of (live_text marks) places)) follows.numbers

-- the places of the files that exist are the live places
pub existing_files-Follows : (files : Files) (marks : List Mark) → Follows files marks
    → map (λ f. f.1) (existing_files files) ≡ map (λ f. f.0) (live_files marks)
existing_files-Follows files marks follows = files_live (λ f. f.1) (λ f. f.0) files marks follows (λ k entry t at is. refl)

-- a file that lives exists
pub file_told : (files : Files) (marks : List Mark) → Follows files marks → (k : ℕ) (entry : PathContent × FileState) (t : List ℕ)
    → slice_get files.entries k ≡ Some entry → live_text marks entry.0 ≡ Some t → is_existing entry.1 ≡ true
file_told files marks follows k entry t at is =
    let within = slice_get_within files.entries k entry at in
    let same : get_or files.entries k entry ≡ entry = get_or_from_slice_get files.entries k entry entry at in
    let told = entries_told files marks follows k entry within in
    subst (λ (e : PathContent × FileState). is_existing e.1 ≡ is_some (live_text marks e.0)) same told ∙ ap is_some is

-- ---- the files that live, by number

-- the file of a numbered place, by the text that counts for it
abbrev pub file_by : (PathContent → Option (List ℕ)) → ℕ × PathContent → Option LiveFile
file_by text_of place = option_map (λ text. record { number = place.0; path = place.1; text = text }) (text_of place.1)

-- a file by its number
abbrev pub numbered : LiveFile → ℕ × PathContent
numbered file = (file.number, file.path)

-- a file with its text
abbrev pub texted : LiveFile → PathContent × List ℕ
texted file = (file.path, file.text)

numbered-split : (text_of : PathContent → Option (List ℕ)) (number : ℕ) (place : PathContent) (state : FileState) (entries : List (PathContent × FileState)) (text : Option (List ℕ))
    → is_existing state ≡ is_some text → text_of place ≡ text
    → existing_files_from (number + 1) entries ≡ map numbered (filter_map (file_by text_of) (enumerate_from (number + 1) (keys_of entries)))
    → existing_files_from number ((place, state) ∷ entries) ≡ map numbered (filter_map (file_by text_of) (enumerate_from number (place ∷ keys_of entries)))
numbered-split text_of number place state entries None told is more = rw (told, is) more
numbered-split text_of number place state entries (Some text) told is more = rw (told, is) (ap (λ l. (number, place) ∷ l) more)

numbered-from : (text_of : PathContent → Option (List ℕ)) (number : ℕ) (entries : List (PathContent × FileState)) → All (IsTold text_of) entries
    → existing_files_from number entries ≡ map numbered (filter_map (file_by text_of) (enumerate_from number (keys_of entries)))
numbered-from text_of number [] told = refl
numbered-from text_of number (entry ∷ entries) told =
    numbered-split text_of number entry.0 entry.1 entries (text_of entry.0) (told 0 entry (omega arith)) refl
    (numbered-from text_of (number + 1) entries (All-tail (IsTold text_of) entry entries told))

-- the files that exist are the live files of the marks, by number
pub existing_numbered : (files : Files) (marks : List Mark) → Follows files marks → existing_files files ≡ map numbered (numbered_files marks)
existing_numbered files marks follows =
    numbered-from (live_text marks) 0 files.entries (entries_told files marks follows)
    ∙ ap (λ places. map numbered (filter_map (live_file marks) (enumerate_from 0 places))) follows.numbers

texted-split : (text_of : PathContent → Option (List ℕ)) (number : ℕ) (place : PathContent) (places : List PathContent) (text : Option (List ℕ)) → text_of place ≡ text
    → map texted (filter_map (file_by text_of) (enumerate_from (number + 1) places)) ≡ live_of text_of places
    → map texted (filter_map (file_by text_of) (enumerate_from number (place ∷ places))) ≡ live_of text_of (place ∷ places)
texted-split text_of number place places None is more = rw is more
texted-split text_of number place places (Some text) is more = rw is (ap (λ l. (place, text) ∷ l) more)

texted-from : (text_of : PathContent → Option (List ℕ)) (number : ℕ) (places : List PathContent)
    → map texted (filter_map (file_by text_of) (enumerate_from number places)) ≡ live_of text_of places
texted-from text_of number [] = refl
texted-from text_of number (place ∷ places) = texted-split text_of number place places (text_of place) refl (texted-from text_of (number + 1) places)

-- without their numbers they are the live files
pub numbered_texts : (marks : List Mark) → map texted (numbered_files marks) ≡ live_files marks
numbered_texts marks = texted-from (live_text marks) 0 (mentioned_paths marks)
