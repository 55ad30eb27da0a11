-- The batch brings what was known before it to the texts that live: one more call, a path left out, a batch taken.
use Rattle.std.proofs.Common.{◌≡◌, ℕ, ◌+◌, ◌<◌, ◌≤◌, Bool, true, false, cond, not, ◌||◌, List, [], ◌∷◌, ◌++◌, Option, Some, None, refl, sym, ◌∙◌, ap, subst, arith, nat_eq, nat_lt, eqb, eqb-true, eq-eqb, true≢false, slice_get, position, length, length-append, if◌then◌else◌}
use Rattle.std.proofs.lemmas.Bool.{false_from_ne_true}
use Rattle.std.proofs.lemmas.Bool.Decides.{nat_tests}
use Rattle.std.proofs.lemmas.List.Folds.{prefix_len-append}
use Rattle.std.specs.List.{list_any, position_or_len}
use Rattle.std.specs.Map.{keys_of, lookup}
use Rattle.std.specs.Option.{option_map, unwrap_or}
use Rattle.indexmap.specs.IndexMap.{insert_entry}
use Rattle.vfs_core.specs.declared.changed_file.Change.{Change}
use Rattle.vfs_core.specs.declared.changed_file.Change.TheVariants.{Create, Modify, Delete}
use Rattle.vfs_core.specs.declared.changed_file.ChangedFile.{ChangedFile}
use Rattle.vfs_core.specs.declared.changed_file.ChangeKind.{ChangeKind}
use Rattle.vfs_core.specs.declared.changed_file.ChangeKind.TheVariants.{Create as CreateKind, Modify as ModifyKind, Delete as DeleteKind}
use Rattle.vfs_core.specs.declared.file_state.FileState.{FileState}
use Rattle.vfs_core.specs.declared.file_state.FileState.TheVariants.{Exists, Deleted, Excluded}
use Rattle.vfs_core.specs.declared.marks.Mark.{Mark}
use Rattle.vfs_core.specs.declared.marks.MarkKind.TheVariants.{Out}
use Rattle.vfs_core.specs.Batch.{changed_file, kind_in, merged_change, with_change, with_changed_file}
use Rattle.vfs_core.specs.FileState.{change_made, state_of}
use Rattle.vfs_core.specs.Files.{Files, Follows, call_made, entry_state, kind_of, number_for, path_number, paths_of, state_at}
use Rattle.vfs_core.specs.Hash.{content_hash}
use Rattle.vfs_core.specs.Marks.{is_out, kept_text, live_text_after, live_text, same_hash, with_path}
use Rattle.vfs_core.specs.VfsPathOrder.{vfs_path_eq-same, vfs_path_equiv}
use Rattle.vfs_core.specs.Texts.{BringsTo, contents_after, contents_by, contents_left}
use Rattle.vfs_core.specs.VfsPath.{PathContent, vfs_path_eq}
use Rattle.vfs_core.proofs.BatchLemmas.{found_insert_entry}
use Rattle.vfs_core.proofs.FileLemmas.{position-at, position-in}
use Rattle.vfs_core.proofs.MarkLemmas.{live_text_mark, live_text_none}
use Rattle.vfs_core.proofs.NumberLemmas.{first-is, path_of_number}

-- where none passes, the first that does is behind all: the same by whether the first passes
none-split : (test : PathContent → Bool) (path : PathContent) (rest : List PathContent) (is_first : Bool)
    → is_first || list_any test rest ≡ false → (list_any test rest ≡ false → position_or_len test rest ≡ length rest)
    → cond (not is_first) (1 + position_or_len test rest) 0 ≡ length (path ∷ rest)
none-split test path rest true none more = absurd (true≢false none)
none-split test path rest false none more = let later = more none in omega (arith, later)

none-passes : (test : PathContent → Bool) (paths : List PathContent) → list_any test paths ≡ false
    → position_or_len test paths ≡ length paths
none-passes test [] none = refl
none-passes test (path ∷ rest) none = none-split test path rest (test path) none (none-passes test rest)

-- the number of a path that comes is the one that it had or takes
pub own-number : (path : PathContent) (paths : List PathContent) (file : ℕ) (is_known : Bool)
    → list_any (vfs_path_eq path) paths ≡ is_known
    → position (vfs_path_eq path) (if is_known then paths else paths ++ path ∷ []) ≡ Some file
    → position_or_len (vfs_path_eq path) paths ≡ file
own-number path paths file true known h =
    (position-in (vfs_path_eq path) paths file (nat_lt (position_or_len (vfs_path_eq path) paths) (length paths)) refl h).0
own-number path paths file false known h =
    let all = paths ++ path ∷ [] in
    let at = position-in (vfs_path_eq path) all file (nat_lt (position_or_len (vfs_path_eq path) all) (length all)) refl h in
    let behind : position_or_len (vfs_path_eq path) paths ≡ length paths = none-passes (vfs_path_eq path) paths known in
    let ends : eqb (position_or_len (vfs_path_eq path) paths) (length paths) ≡ true = eq-eqb _ _ behind in
    let first : vfs_path_eq path path ≡ true = vfs_path_equiv.refl path in
    let last : position_or_len (vfs_path_eq path) all ≡ length paths = rw (prefix_len-append, ends, first) (omega arith) in
    behind ∙ sym last ∙ at.0

below : (a b : ℕ) → a ≤ b → eqb a b ≡ false → a < b
below a b few apart = grind (arith, nat_tests)

-- the number of another path is the one that it had
pub other-number : (each_path path : PathContent) (paths : List PathContent) (file : ℕ) (is_known is_behind : Bool)
    → vfs_path_eq each_path path ≡ false
    → eqb (position_or_len (vfs_path_eq each_path) paths) (length paths) ≡ is_behind
    → position (vfs_path_eq each_path) (if is_known then paths else paths ++ path ∷ []) ≡ Some file
    → position (vfs_path_eq each_path) paths ≡ Some file
other-number each_path path paths file true is_behind other ends h = h
other-number each_path path paths file false true other ends h =
    let all = paths ++ path ∷ [] in
    let at = position-in (vfs_path_eq each_path) all file (nat_lt (position_or_len (vfs_path_eq each_path) all) (length all)) refl h in
    let last : position_or_len (vfs_path_eq each_path) all ≡ length paths + 1 = rw (prefix_len-append, ends, other) (omega arith) in
    let count : length all ≡ length paths + 1 = simp length-append (omega arith) in
    absurd (omega (arith, at.0, at.1, last, count))
other-number each_path path paths file false false other ends h =
    let all = paths ++ path ∷ [] in
    let at = position-in (vfs_path_eq each_path) all file (nat_lt (position_or_len (vfs_path_eq each_path) all) (length all)) refl h in
    let same : position_or_len (vfs_path_eq each_path) all ≡ position_or_len (vfs_path_eq each_path) paths = rw (prefix_len-append, ends) refl in
    let count : length all ≡ length paths + 1 = simp length-append (omega arith) in
    let few : position_or_len (vfs_path_eq each_path) paths ≤ length paths = omega (arith, at.0, at.1, count, same) in
    position-at (vfs_path_eq each_path) paths file (sym same ∙ at.0)
    (subst (λ n. n < length paths) (sym same ∙ at.0) (below (position_or_len (vfs_path_eq each_path) paths) (length paths) few ends))

-- a path with a state has a number: the same by whether it is the first
known-split : (path first : PathContent) (rest : List PathContent) (is_first : Bool)
    → (is_first ≡ false → position_or_len (vfs_path_eq path) rest < length rest)
    → cond (not is_first) (1 + position_or_len (vfs_path_eq path) rest) 0 < length (first ∷ rest)
known-split path first rest true more = omega arith
known-split path first rest false more = let later = more refl in omega (arith, later)

state-split : (path : PathContent) (entry : PathContent × FileState) (rest : List (PathContent × FileState)) (state : FileState) (is_first : Bool)
    → (if is_first then Some entry.1 else lookup (vfs_path_eq path) rest) ≡ Some state
    → is_first ≡ false → lookup (vfs_path_eq path) rest ≡ Some state
state-split path entry rest state true h other = absurd (true≢false other)
state-split path entry rest state false h other = h

has-number : (path : PathContent) (entries : List (PathContent × FileState)) (state : FileState)
    → lookup (vfs_path_eq path) entries ≡ Some state
    → position_or_len (vfs_path_eq path) (keys_of entries) < length (keys_of entries)
has-number path [] state h = cc
has-number path (entry ∷ rest) state h =
    known-split path entry.0 (keys_of rest) (vfs_path_eq path entry.0)
    (λ other. has-number path rest state (state-split path entry rest state (vfs_path_eq path entry.0) h other))

-- a path that is not deleted has the number that it would take
found-told : (state : Option FileState) (hash : ℕ) → unwrap_or state Deleted ≡ Exists hash → state ≡ Some (Exists hash)
found-told None hash h = cc
found-told (Some state) hash h = ap Some h

number-known : (files : Files) (path : PathContent) (hash : ℕ) → state_at files path ≡ Exists hash
    → path_number files path ≡ Some (number_for files path)
number-known files path hash h =
    position-at (vfs_path_eq path) (paths_of files) (number_for files path) refl
    (has-number path files.entries (Exists hash) (found-told (entry_state files path) hash h))

-- another path has another number
apart-number : (files : Files) (each_path path : PathContent) (file : ℕ) → vfs_path_eq each_path path ≡ false
    → path_number files each_path ≡ Some file → nat_eq file (number_for files path) ≡ false
apart-number files each_path path file other h = false_from_ne_true (nat_eq file (number_for files path)) (λ e.
    let at : slice_get (paths_of files) file ≡ Some each_path = path_of_number each_path (paths_of files) file h in
    let one : number_for files path ≡ file = sym (eqb-true file (number_for files path) e) in
    let within = (position-in (vfs_path_eq each_path) (paths_of files) file
    (nat_lt (position_or_len (vfs_path_eq each_path) (paths_of files)) (length (paths_of files))) refl h).1 in
    let again : slice_get (paths_of files) file ≡ Some path = first-is path (paths_of files) file one within in
    let same : each_path ≡ path = cc in
    let equal : vfs_path_eq each_path path ≡ true = ap (vfs_path_eq each_path) (sym same) ∙ vfs_path_equiv.refl each_path in
    true≢false (sym equal ∙ other))

-- a change in place of an earlier one, and another, leaves what that other leaves
left-merged : (earlier : Option ChangeKind) (change : Change)
    → contents_left (merged_change earlier change) ≡ contents_left change
left-merged None change = refl
left-merged (Some CreateKind) (Create bytes hash) = refl
left-merged (Some CreateKind) (Modify bytes hash) = refl
left-merged (Some CreateKind) Delete = refl
left-merged (Some ModifyKind) (Create bytes hash) = refl
left-merged (Some ModifyKind) (Modify bytes hash) = refl
left-merged (Some ModifyKind) Delete = refl
left-merged (Some DeleteKind) (Create bytes hash) = refl
left-merged (Some DeleteKind) (Modify bytes hash) = refl
left-merged (Some DeleteKind) Delete = refl

-- what one more change makes of the contents of its own file
own-contents : (batch : List (ℕ × ChangedFile)) (known : ℕ → Option (List ℕ)) (file : ℕ) (change : Change)
    → contents_after (with_change batch file change) known file ≡ contents_left change
own-contents batch known file change =
    let own : nat_eq file file ≡ true = eq-eqb file file refl in
    let call = changed_file file (merged_change (kind_in batch file) change) in
    let at : lookup (nat_eq file) (insert_entry nat_eq batch file call) ≡ Some call =
    found_insert_entry batch file file call ∙ ap (λ (b : Bool). if b then Some call else lookup (nat_eq file) batch) own in
    ap (λ (c : Option ChangedFile). contents_by c (known file)) at
    ∙ left-merged (kind_in batch file) change

-- and of another, where it is a call that changed something
other-contents : (batch : List (ℕ × ChangedFile)) (known : ℕ → Option (List ℕ)) (file other : ℕ) (change : Option Change)
    → nat_eq other file ≡ false
    → contents_after (with_changed_file (option_map (changed_file file) change) batch) known other ≡ contents_after batch known other
other-contents batch known file other None apart = refl
other-contents batch known file other (Some change) apart =
    let call = changed_file file (merged_change (kind_in batch file) change) in
    let at : lookup (nat_eq other) (insert_entry nat_eq batch file call) ≡ lookup (nat_eq other) batch =
    found_insert_entry batch file other call ∙ ap (λ (b : Bool). if b then Some call else lookup (nat_eq other) batch) apart in
    ap (λ (c : Option ChangedFile). contents_by c (known other)) at

-- contents that come for a file that exists: the same by whether they have the hash of its text
existing_files-contents : (batch : List (ℕ × ChangedFile)) (known : ℕ → Option (List ℕ)) (file : ℕ) (bytes before text : List ℕ) (same : Bool)
    → contents_after batch known file ≡ Some before
    → Some (if same then before else bytes) ≡ Some text
    → contents_after (with_changed_file (option_map (changed_file file) (if same then None else Some (Modify bytes (content_hash bytes)))) batch) known file ≡ Some text
existing_files-contents batch known file bytes before text true earlier live = earlier ∙ live
existing_files-contents batch known file bytes before text false earlier live =
    own-contents batch known file (Modify bytes (content_hash bytes)) ∙ live

eq-symm : (a b : ℕ) → nat_eq a b ≡ nat_eq b a
eq-symm a b = grind (arith, nat_tests)

-- contents that come for a file are what lives, by what was said of the file before
told-contents : (contents : Option (List ℕ)) (was_out : Bool) (before : Option (List ℕ)) (batch : List (ℕ × ChangedFile))
    (known : ℕ → Option (List ℕ)) (file : ℕ) (text : List ℕ)
    → ((t : List ℕ) → cond was_out None before ≡ Some t → contents_after batch known file ≡ Some t)
    → live_text_after (kind_of contents) was_out (cond was_out None before) ≡ Some text
    → contents_after (with_changed_file (option_map (changed_file file) (change_made (cond was_out Excluded (state_of before)) contents)) batch) known file ≡ Some text
told-contents None was_out before batch known file text earlier live = cc
told-contents (Some bytes) true before batch known file text earlier live = cc
told-contents (Some bytes) false None batch known file text earlier live =
    own-contents batch known file (Create bytes (content_hash bytes)) ∙ live
told-contents (Some bytes) false (Some before) batch known file text earlier live =
    rw eq-symm (existing_files-contents batch known file bytes before text (same_hash bytes before) (earlier before refl) live)

-- the text that was there before
earlier-text : (old : Files) (path : PathContent) (marks : List Mark) (known : ℕ → Option (List ℕ)) (was_out : Bool) (before : Option (List ℕ))
    → state_at old path ≡ cond was_out Excluded (state_of before)
    → ((file : ℕ) (t : List ℕ) → path_number old path ≡ Some file → cond was_out None before ≡ Some t → contents_after old.batch known file ≡ Some t)
    → (t : List ℕ) → cond was_out None before ≡ Some t
    → contents_after old.batch known (number_for old path) ≡ Some t
earlier-text old path marks known true before state brings t live = cc
earlier-text old path marks known false None state brings t live = cc
earlier-text old path marks known false (Some before) state brings t live =
    brings (number_for old path) t (number-known old path (content_hash before) state) live

-- what comes for a path, by whether another path is it
mark-split : (old new : Files) (path each_path : PathContent) (contents : Option (List ℕ)) (marks : List Mark) (known : ℕ → Option (List ℕ))
    (file : ℕ) (text : List ℕ) (is_own : Bool) → vfs_path_eq each_path path ≡ is_own
    → paths_of new ≡ with_path path (paths_of old)
    → new.batch ≡ with_changed_file (call_made old path contents) old.batch
    → Follows old marks → BringsTo old known marks
    → path_number new each_path ≡ Some file
    → cond is_own (live_text_after (kind_of contents) (is_out marks each_path) (live_text marks each_path)) (live_text marks each_path) ≡ Some text
    → contents_after new.batch known file ≡ Some text
unfolding live_text
mark-split old new path each_path contents marks known file text true own numbers batch follows brings number live =
    let one : each_path ≡ path = vfs_path_eq-same each_path path own in
    let is : number_for old path ≡ file = own-number path (paths_of old) file (list_any (vfs_path_eq path) (paths_of old)) refl
    (ap (position (vfs_path_eq path)) (sym numbers) ∙ subst (λ p. path_number new p ≡ Some file) one number) in
    let lives = subst (λ p. live_text_after (kind_of contents) (is_out marks p) (cond (is_out marks p) None (kept_text marks p)) ≡ Some text) one live in
    let earlier = earlier-text old path marks known (is_out marks path) (kept_text marks path) (follows.states path)
    (λ n t at is. brings.each path n t at is) in
    let told = told-contents contents (is_out marks path) (kept_text marks path) old.batch known (number_for old path) text earlier lives in
    ap (λ b. contents_after b known file) batch
    ∙ ap (λ n. contents_after (with_changed_file (call_made old path contents) old.batch) known n) (sym is)
    ∙ ap (λ st. contents_after (with_changed_file (option_map (changed_file (number_for old path)) (change_made st contents)) old.batch) known (number_for old path)) (follows.states path)
    ∙ told
mark-split old new path each_path contents marks known file text false own numbers batch follows brings number live =
    let before : path_number old each_path ≡ Some file = other-number each_path path (paths_of old) file (list_any (vfs_path_eq path) (paths_of old))
    (eqb (position_or_len (vfs_path_eq each_path) (paths_of old)) (length (paths_of old))) own refl
    (ap (position (vfs_path_eq each_path)) (sym numbers) ∙ number) in
    ap (λ b. contents_after b known file) batch
    ∙ other-contents old.batch known (number_for old path) file (change_made (state_at old path) contents) (apart-number old each_path path file own before)
    ∙ brings.each each_path file text before live

-- contents that come for a path are in the batch
pub BringsTo_mark : (old new : Files) (path : PathContent) (contents : Option (List ℕ))
    → paths_of new ≡ with_path path (paths_of old)
    → new.batch ≡ with_changed_file (call_made old path contents) old.batch
    → (known : ℕ → Option (List ℕ)) (marks : List Mark) → Follows old marks → BringsTo old known marks
    → BringsTo new known (record { path = path; kind = kind_of contents } ∷ marks)
BringsTo_mark old new path contents numbers batch known marks follows brings = record {
  each = λ each_path file text number live.
      mark-split old new path each_path contents marks known file text (vfs_path_eq each_path path) refl numbers batch follows brings number
      (sym (live_text_mark (record { path = path; kind = kind_of contents }) marks each_path) ∙ live);
}

-- a path that is left out, by whether another path is it
out-split : (old new : Files) (path each_path : PathContent) (marks : List Mark) (known : ℕ → Option (List ℕ))
    (file : ℕ) (text : List ℕ) (is_own : Bool) → vfs_path_eq each_path path ≡ is_own
    → paths_of new ≡ with_path path (paths_of old) → new.batch ≡ old.batch → BringsTo old known marks
    → path_number new each_path ≡ Some file
    → cond is_own None (live_text marks each_path) ≡ Some text
    → contents_after new.batch known file ≡ Some text
out-split old new path each_path marks known file text true own numbers batch brings number live = cc
out-split old new path each_path marks known file text false own numbers batch brings number live =
    let before : path_number old each_path ≡ Some file = other-number each_path path (paths_of old) file (list_any (vfs_path_eq path) (paths_of old))
    (eqb (position_or_len (vfs_path_eq each_path) (paths_of old)) (length (paths_of old))) own refl
    (ap (position (vfs_path_eq each_path)) (sym numbers) ∙ number) in
    ap (λ b. contents_after b known file) batch ∙ brings.each each_path file text before live

-- a path that is left out needs no contents
pub BringsTo_out : (old new : Files) (path : PathContent)
    → paths_of new ≡ with_path path (paths_of old) → new.batch ≡ old.batch
    → (known : ℕ → Option (List ℕ)) (marks : List Mark) → BringsTo old known marks
    → BringsTo new known (record { path = path; kind = Out } ∷ marks)
BringsTo_out old new path numbers batch known marks brings = record {
  each = λ each_path file text number live.
      out-split old new path each_path marks known file text (vfs_path_eq each_path path) refl numbers batch brings number
      (sym (live_text_mark (record { path = path; kind = Out }) marks each_path) ∙ live);
}

-- once the batch is taken, what it made is what is known
pub BringsTo_taken : (old new : Files) → paths_of new ≡ paths_of old → new.batch ≡ []
    → (known : ℕ → Option (List ℕ)) (marks : List Mark) → BringsTo old known marks
    → BringsTo new (contents_after old.batch known) marks
BringsTo_taken old new numbers batch known marks brings = record {
  each = λ path file text number live.
      ap (λ b. contents_after b (contents_after old.batch known) file) batch
      ∙ brings.each path file text (ap (position (vfs_path_eq path)) (sym numbers) ∙ number) live;
}

-- where the paths and the batch stay, so does what it brings
pub BringsTo_same : (old new : Files) → paths_of new ≡ paths_of old → new.batch ≡ old.batch
    → (known : ℕ → Option (List ℕ)) (marks : List Mark) → BringsTo old known marks → BringsTo new known marks
BringsTo_same old new numbers batch known marks brings = record {
  each = λ path file text number live.
      ap (λ b. contents_after b known file) batch
      ∙ brings.each path file text (ap (position (vfs_path_eq path)) (sym numbers) ∙ number) live;
}

-- nothing lives where nothing was said
pub BringsTo_none : (files : Files) (known : ℕ → Option (List ℕ)) → BringsTo files known []
BringsTo_none files known = record { each = λ path file text number live. none (live_text [] path) (live_text_none path) live }
  where
    none : {R : Type 0} → (t : Option (List ℕ)) {text : List ℕ} → t ≡ None → t ≡ Some text → R
    none t e h = cc
