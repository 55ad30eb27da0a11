-- What contents that come for a path make of the numbers and the states of all paths.
use Rattle.std.proofs.Common.{◌≡◌, ℕ, zero, suc, ◌<◌, Bool, true, false, cond, ◌||◌, List, [], ◌∷◌, ◌++◌, Option, Some, None, refl, sym, ◌∙◌, ap, arith, eqb-true, if◌then◌else◌, slice_get, position, length, nat_lt, eqb, length-append}
use Rattle.std.specs.List.{list_any, position_or_len}
use Rattle.std.specs.Map.{keys_of}
use Rattle.std.specs.Option.{unwrap_or}
use Rattle.std.proofs.lemmas.Bool.Decides.{nat_tests}
use Rattle.std.proofs.lemmas.List.Folds.{prefix_len-append}
use Rattle.indexmap.specs.IndexMap.{insert_entry}
use Rattle.vfs_core.specs.declared.file_state.FileState.{FileState}
use Rattle.vfs_core.specs.declared.file_state.FileState.TheVariants.{Exists, Deleted, Excluded}
use Rattle.vfs_core.specs.declared.marks.Mark.{Mark}
use Rattle.vfs_core.specs.declared.marks.MarkKind.{MarkKind}
use Rattle.vfs_core.specs.declared.marks.MarkKind.TheVariants.{Text, Gone, Out}
use Rattle.vfs_core.specs.FileState.{state_after, state_of}
use Rattle.vfs_core.specs.Files.{Files, Follows, KeepsNumbers, entry_state, kind_of, paths_of, state_at, state_by_marks}
use Rattle.vfs_core.specs.Hash.{content_hash}
use Rattle.vfs_core.specs.Marks.{is_out, text_after_mark, kept_text, leaves_out, merged_text, same_hash, with_path}
use Rattle.vfs_core.specs.VfsPathOrder.{vfs_path_eq-same, vfs_path_equiv}
use Rattle.vfs_core.specs.VfsPath.{PathContent, vfs_path_eq}
use Rattle.vfs_core.proofs.DistinctLemmas.{keys_of_insert_entry}
use Rattle.vfs_core.proofs.MarkLemmas.{is_out_mark, kept_text_mark}

-- a new path comes last, and no number changes
pub keys_insert_entry : (entries : List (PathContent × FileState)) (path : PathContent) (state : FileState)
    → keys_of (insert_entry vfs_path_eq entries path state) ≡ with_path path (keys_of entries)
keys_insert_entry entries path state = keys_of_insert_entry vfs_path_eq entries path state

-- the same by whether the texts have one hash
merged_text-split : (text before : List ℕ) (same : Bool) → same_hash text before ≡ same
    → content_hash (if same then before else text) ≡ content_hash text
merged_text-split text before true h = sym (eqb-true (content_hash text) (content_hash before) h)
merged_text-split text before false h = refl

-- the merged text has the hash of the one that came
merged_text-hash : (text : List ℕ) (before : Option (List ℕ)) → content_hash (merged_text text before) ≡ content_hash text
merged_text-hash text None = refl
merged_text-hash text (Some before) = merged_text-split text before (same_hash text before) refl

-- the state table is what the texts that count say
state_after-kept : (contents : Option (List ℕ)) (before : Option (List ℕ))
    → state_after (state_of before) contents ≡ state_of (text_after_mark (kind_of contents) before)
state_after-kept None None = refl
state_after-kept None (Some before) = refl
state_after-kept (Some text) None = refl
state_after-kept (Some text) (Some before) = ap Exists (sym (merged_text-hash text (Some before)))

-- the state that one more thing that is said makes of a file
abbrev state_next : MarkKind → FileState → FileState
state_next (Text text) before = state_after before (Some text)
state_next Gone before = state_after before None
state_next Out before = Excluded

-- contents that come are said of a file
state_next-contents : (contents : Option (List ℕ)) (before : FileState)
    → state_next (kind_of contents) before ≡ state_after before contents
state_next-contents None before = refl
state_next-contents (Some text) before = refl

-- the state that follows from one more thing that is said
told-next : (kind : MarkKind) (was_out : Bool) (before : Option (List ℕ))
    → cond (leaves_out kind || was_out) Excluded (state_of (text_after_mark kind before))
    ≡ state_next kind (cond was_out Excluded (state_of before))
told-next Out was_out before = refl
told-next Gone true before = refl
told-next Gone false before = sym (state_after-kept None before)
told-next (Text text) true before = refl
told-next (Text text) false before = sym (state_after-kept (Some text) before)

-- the same by whether the mark is of the path
told-split : (kind : MarkKind) (was_out : Bool) (before : Option (List ℕ)) (is_own : Bool)
    → cond (cond is_own (leaves_out kind || was_out) was_out) Excluded (state_of (cond is_own (text_after_mark kind before) before))
    ≡ cond is_own (state_next kind (cond was_out Excluded (state_of before))) (cond was_out Excluded (state_of before))
told-split kind was_out before true = told-next kind was_out before
told-split kind was_out before false = refl

-- a mark of another path leaves the state as it was, one of its own gives what it says
state_by_marks-mark : (mark : Mark) (marks : List Mark) (path : PathContent)
    → state_by_marks (mark ∷ marks) path
    ≡ cond (vfs_path_eq path mark.path) (state_next mark.kind (state_by_marks marks path)) (state_by_marks marks path)
state_by_marks-mark mark marks path =
    rw (is_out_mark, kept_text_mark)
    (told-split mark.kind (is_out marks path) (kept_text marks path) (vfs_path_eq path mark.path))

-- the state of a path after a mark: the same by whether the mark is of the path
state-split : (old new : Files) (path each_path : PathContent) (kind : MarkKind) (state told : FileState) (is_own : Bool)
    → vfs_path_eq path each_path ≡ is_own → state_at old each_path ≡ told
    → state ≡ state_next kind (state_at old path)
    → entry_state new each_path ≡ (if is_own then Some state else entry_state old each_path)
    → state_at new each_path ≡ cond is_own (state_next kind told) told
state-split old new path each_path kind state told true own states is finds =
    let one : path ≡ each_path = vfs_path_eq-same path each_path own in
    ap (λ (s : Option FileState). unwrap_or s Deleted) finds
    ∙ is ∙ ap (λ p. state_next kind (state_at old p)) one
    ∙ ap (state_next kind) states
state-split old new path each_path kind state told false own states is finds =
    ap (λ (s : Option FileState). unwrap_or s Deleted) finds ∙ states

-- what is said of a path, and makes its state, is one more mark
Follows-said : (old new : Files) (path : PathContent) (kind : MarkKind) (state : FileState) (marks : List Mark)
    → state ≡ state_next kind (state_at old path)
    → paths_of new ≡ with_path path (paths_of old)
    → ((each_path : PathContent) → entry_state new each_path ≡ (if vfs_path_eq path each_path then Some state else entry_state old each_path))
    → Follows old marks
    → Follows new (record { path = path; kind = kind } ∷ marks)
Follows-said old new path kind state marks is numbers finds before = record {
  numbers = numbers ∙ ap (with_path path) before.numbers;
  states = λ each_path.
      rw (state_by_marks-mark, vfs_path_equiv.symm each_path path)
      (state-split old new path each_path kind state (state_by_marks marks each_path) (vfs_path_eq path each_path) refl
      (before.states each_path) is (finds each_path));
}

-- contents that come are one more mark
pub Follows_mark : (old new : Files) (path : PathContent) (contents : Option (List ℕ)) (marks : List Mark)
    → paths_of new ≡ with_path path (paths_of old)
    → ((each_path : PathContent) → entry_state new each_path
    ≡ (if vfs_path_eq path each_path then Some (state_after (state_at old path) contents) else entry_state old each_path))
    → Follows old marks
    → Follows new (record { path = path; kind = kind_of contents } ∷ marks)
Follows_mark old new path contents marks =
    Follows-said old new path (kind_of contents) (state_after (state_at old path) contents) marks
    (sym (state_next-contents contents (state_at old path)))

-- a path that is left out is one more mark
pub Follows_out : (old new : Files) (path : PathContent) (marks : List Mark)
    → paths_of new ≡ with_path path (paths_of old)
    → ((each_path : PathContent) → entry_state new each_path ≡ (if vfs_path_eq path each_path then Some Excluded else entry_state old each_path))
    → Follows old marks
    → Follows new (record { path = path; kind = Out } ∷ marks)
Follows_out old new path marks = Follows-said old new path Out Excluded marks refl

-- where the first item that passes is
pub position-in : (test : PathContent → Bool) (items : List PathContent) (number : ℕ) (is_in : Bool)
    → nat_lt (position_or_len test items) (length items) ≡ is_in
    → cond is_in (Some (position_or_len test items)) None ≡ Some number
    → (position_or_len test items ≡ number) × (number < length items)
position-in test items number true within h =
    let at : position_or_len test items ≡ number = cc in
    let here : position_or_len test items < length items = grind (arith, nat_tests) in
    (at, omega arith)
position-in test items number false within h = cc

-- and back
pub position-at : (test : PathContent → Bool) (items : List PathContent) (number : ℕ)
    → position_or_len test items ≡ number → number < length items → position test items ≡ Some number
position-at test items number at within =
    let here : nat_lt (position_or_len test items) (length items) ≡ true = grind (arith, nat_tests) in
    rw (here, at)

-- the first item that passes is where it was once items come behind
position-append : (test : PathContent → Bool) (front back : List PathContent) (number : ℕ)
    → position test front ≡ Some number → position test (front ++ back) ≡ Some number
position-append test front back number h =
    let at = position-in test front number (nat_lt (position_or_len test front) (length front)) refl h in
    let other : eqb (position_or_len test front) (length front) ≡ false = grind (arith, nat_tests) in
    let same : position_or_len test (front ++ back) ≡ position_or_len test front =
    rw (prefix_len-append, other) in
    position-at test (front ++ back) number (same ∙ at.0) (simp length-append (omega arith))

-- an item is where it was once items come behind
slice_get-append : (front back : List PathContent) (number : ℕ) (path : PathContent)
    → slice_get front number ≡ Some path → slice_get (front ++ back) number ≡ Some path
slice_get-append [] back number path h = cc
slice_get-append (first ∷ front) back zero path h = h
slice_get-append (first ∷ front) back (suc number) path h = slice_get-append front back number path h

-- one more path moves none: the same by whether it is new
paths-split : (old new : List PathContent) (path : PathContent) (is_known : Bool)
    → new ≡ (if is_known then old else old ++ path ∷ [])
    → (each_path : PathContent) (number : ℕ) → slice_get old number ≡ Some each_path → slice_get new number ≡ Some each_path
paths-split old new path true e each_path number h = rw e h
paths-split old new path false e each_path number h = rw e (slice_get-append old (path ∷ []) number each_path h)

numbers-split : (old new : List PathContent) (path : PathContent) (is_known : Bool)
    → new ≡ (if is_known then old else old ++ path ∷ [])
    → (each_path : PathContent) (number : ℕ)
    → position (vfs_path_eq each_path) old ≡ Some number → position (vfs_path_eq each_path) new ≡ Some number
numbers-split old new path true e each_path number h = rw e h
numbers-split old new path false e each_path number h =
    rw e (position-append (vfs_path_eq each_path) old (path ∷ []) number h)

-- a path that comes changes no number
pub KeepsNumbers_with : (old new : Files) (path : PathContent)
    → paths_of new ≡ with_path path (paths_of old) → KeepsNumbers old new
KeepsNumbers_with old new path e = record {
  numbers = numbers-split (paths_of old) (paths_of new) path (list_any (vfs_path_eq path) (paths_of old)) e;
  paths = paths-split (paths_of old) (paths_of new) path (list_any (vfs_path_eq path) (paths_of old)) e;
}
