-- One more mark: what it makes of the text that counts for a path.
use Rattle.std.proofs.Common.{◌≡◌, ℕ, Bool, ◌||◌, ◌&&◌, true, false, cond, List, [], ◌∷◌, Option, Some, None, ◌-◌, ◌<◌, ◌≤◌, length, take, drop, get_or, refl, sym, ◌∙◌, ap, arith, nat_eq, is_some, map, eqb-true, eq-eqb}
use Rattle.std.specs.List.{cons_option, filter, filter_map, take_while}
use Rattle.std.specs.Option.{option_map}
use Rattle.std.proofs.lemmas.List.Sums.{take_while-cons}
use Rattle.std.proofs.lemmas.Grind.{common_steps}
use Rattle.vfs_core.specs.declared.marks.Mark.{Mark}
use Rattle.vfs_core.specs.declared.marks.MarkKind.{MarkKind}
use Rattle.vfs_core.specs.declared.marks.MarkKind.TheVariants.{Text, Gone, Out}
use Rattle.vfs_core.specs.Hash.{content_hash}
use Rattle.vfs_core.specs.VfsPath.{PathContent, vfs_path_eq}
use Rattle.vfs_core.specs.Marks.{is_out, kept_text, leaves_out, live_text_after, LivesNext, kinds_at, texts_since, same_hash, last_after, first_of_run, text_of_kinds, live_files, live_paths, live_text, mentioned_paths, merged_text, text_after_mark}

-- the marks of a path
abbrev of_place : PathContent → List Mark → List Mark
of_place path marks = filter (λ m. vfs_path_eq path m.path) marks

abbrev has_hash : ℕ → List ℕ → Bool
has_hash h text = nat_eq h (content_hash text)

-- the same by whether the next text passes
last_after-split : (h : ℕ) (text other : List ℕ) (texts : List (List ℕ)) → h ≡ content_hash text
    → (h ≡ content_hash other → h ≡ content_hash (last_after other (take_while (has_hash h) texts)))
    → (passes : Bool) → nat_eq h (content_hash other) ≡ passes
    → h ≡ content_hash (last_after text (cond passes (other ∷ take_while (has_hash h) texts) []))
last_after-split h text other texts e more true p = more (eqb-true h (content_hash other) p)
last_after-split h text other texts e more false p = e

-- the last of the texts that pass has the hash that all of them have
last_after-hash : (h : ℕ) (text : List ℕ) (texts : List (List ℕ)) → h ≡ content_hash text
    → h ≡ content_hash (last_after text (take_while (has_hash h) texts))
last_after-hash h text [] e = e
last_after-hash h text (other ∷ texts) e =
    rw take_while-cons (last_after-split h text other texts e (last_after-hash h other texts)
    (nat_eq h (content_hash other)) refl)

-- the first of the run that ends in a text, seen from one text later
abbrev first_from : List ℕ → List (List ℕ) → List ℕ
first_from text texts = last_after text (take_while (same_hash text) texts)

-- the same by whether the later text has the hash of the run
first_from-split : (text other : List ℕ) (texts : List (List ℕ)) (passes : Bool)
    → same_hash text other ≡ passes
    → last_after text (cond passes (other ∷ take_while (same_hash text) texts) [])
    ≡ merged_text text (Some (first_from other texts))
first_from-split text other texts true p =
    let first = first_from other texts in
    let same : content_hash text ≡ content_hash other = eqb-true (content_hash text) (content_hash other) p in
    let run : content_hash other ≡ content_hash first = last_after-hash (content_hash other) other texts refl in
    let joins : same_hash text first ≡ true = eq-eqb (content_hash text) (content_hash first) (same ∙ run) in
    rw joins (ap (λ (h : ℕ). last_after other (take_while (has_hash h) texts)) same)
first_from-split text other texts false p =
    let first = first_from other texts in
    let run : content_hash other ≡ content_hash first = last_after-hash (content_hash other) other texts refl in
    let begins : same_hash text first ≡ false = ap (nat_eq (content_hash text)) (sym run) ∙ p in
    rw begins

-- a text of the same hash joins the run, another begins one
first_of_run-cons : (text : List ℕ) (texts : List (List ℕ))
    → first_of_run (text ∷ texts) ≡ Some (merged_text text (first_of_run texts))
first_of_run-cons text [] = refl
first_of_run-cons text (other ∷ texts) =
    ap Some (rw take_while-cons (first_from-split text other texts (same_hash text other) refl))

-- one more text is merged with the one that counted
pub text_of_kinds-text : (text : List ℕ) (kinds : List MarkKind)
    → text_of_kinds (Text text ∷ kinds) ≡ Some (merged_text text (text_of_kinds kinds))
unfolding text_of_kinds
text_of_kinds-text text kinds = first_of_run-cons text (texts_since kinds)

-- what counts after one more thing that is said
pub text_of_kinds-next : (kind : MarkKind) (kinds : List MarkKind)
    → text_of_kinds (kind ∷ kinds) ≡ text_after_mark kind (text_of_kinds kinds)
text_of_kinds-next Gone kinds = unfold text_of_kinds in refl
text_of_kinds-next Out kinds = unfold text_of_kinds in refl
text_of_kinds-next (Text text) kinds = text_of_kinds-text text kinds

-- the same by whether the mark is of the path
own-split : (mark : Mark) (marks : List Mark) (path : PathContent) (is_own : Bool)
    → text_of_kinds (map (λ m. m.kind) (cond is_own (mark ∷ of_place path marks) (of_place path marks)))
    ≡ cond is_own (text_after_mark mark.kind (text_of_kinds (kinds_at path marks))) (text_of_kinds (kinds_at path marks))
own-split mark marks path true = text_of_kinds-next mark.kind (kinds_at path marks)
own-split mark marks path false = refl

-- a mark of another path changes nothing, one of its own what it says
pub kept_text_mark : (mark : Mark) (marks : List Mark) (path : PathContent)
    → kept_text (mark ∷ marks) path
    ≡ cond (vfs_path_eq path mark.path) (text_after_mark mark.kind (kept_text marks path)) (kept_text marks path)
unfolding kept_text
kept_text_mark mark marks path = own-split mark marks path (vfs_path_eq path mark.path)

-- no text counts where nothing was said
pub kept_text_none : (path : PathContent) → kept_text [] path ≡ None
unfolding kept_text text_of_kinds
kept_text_none path = refl

-- the same of marks that are known by their first and the rest
pub kept_text_split : (marks : List Mark) (path : PathContent) (mark : Mark)
    → 1 ≤ length marks → mark ≡ get_or marks 0 mark
    → kept_text marks path
    ≡ cond (vfs_path_eq path mark.path)
    (text_after_mark mark.kind (kept_text (take (length marks - 1) (drop 1 marks)) path))
    (kept_text (take (length marks - 1) (drop 1 marks)) path)
kept_text_split [] path mark some first = absurd (omega arith)
kept_text_split (m ∷ ms) path mark some first =
    let rest : take (length (m ∷ ms) - 1) ms ≡ ms = grind (arith, common_steps) in
    rw (first, rest) (kept_text_mark m ms path)

-- no marks
pub kept_text_empty : (marks : List Mark) (path : PathContent) → length marks < 1 → kept_text marks path ≡ None
kept_text_empty [] path few = kept_text_none path
kept_text_empty (m ∷ ms) path few = absurd (omega arith)

-- a path is left out: the same by whether the first mark is of the path
out-split : (is_own leaves was_out : Bool)
    → (is_own && leaves) || was_out ≡ cond is_own (leaves || was_out) was_out
out-split true leaves was_out = refl
out-split false leaves was_out = refl

-- a path is left out by one more mark of its own that does so, or was before
pub is_out_mark : (mark : Mark) (marks : List Mark) (path : PathContent)
    → is_out (mark ∷ marks) path
    ≡ cond (vfs_path_eq path mark.path) (leaves_out mark.kind || is_out marks path) (is_out marks path)
is_out_mark mark marks path = out-split (vfs_path_eq path mark.path) (leaves_out mark.kind) (is_out marks path)

-- what one more thing that is said makes of the live text, by whether the path was left out
live-next : (kind : MarkKind) (was_out : Bool) (before : Option (List ℕ))
    → cond (leaves_out kind || was_out) None (text_after_mark kind before)
    ≡ live_text_after kind was_out (cond was_out None before)
live-next Gone true before = refl
live-next Gone false before = refl
live-next Out was_out before = refl
live-next (Text text) true before = refl
live-next (Text text) false before = refl

-- the same by whether the mark is of the path
live-split : (mark : Mark) (was_out : Bool) (before : Option (List ℕ)) (is_own : Bool)
    → cond (cond is_own (leaves_out mark.kind || was_out) was_out) None (cond is_own (text_after_mark mark.kind before) before)
    ≡ cond is_own (live_text_after mark.kind was_out (cond was_out None before)) (cond was_out None before)
live-split mark was_out before true = live-next mark.kind was_out before
live-split mark was_out before false = refl

-- a mark of another path changes nothing, one of its own what it says
pub live_text_mark : (mark : Mark) (marks : List Mark) (path : PathContent) → LivesNext mark marks path
unfolding live_text
live_text_mark mark marks path =
    rw (is_out_mark, kept_text_mark)
    (live-split mark (is_out marks path) (kept_text marks path) (vfs_path_eq path mark.path))

-- nothing lives where nothing was said
pub live_text_none : (path : PathContent) → live_text [] path ≡ None
unfolding live_text kept_text text_of_kinds
live_text_none path = refl

-- the paths of the live files: the same by whether one has a text
live_files-split : (path : PathContent) (text : Option (List ℕ)) (files : List (PathContent × List ℕ)) (paths : List PathContent)
    → map (λ file. file.0) files ≡ paths
    → map (λ (file : PathContent × List ℕ). file.0) (cons_option (option_map (λ t. (path, t)) text) files)
    ≡ cond (is_some text) (path ∷ paths) paths
live_files-split path None files paths more = more
live_files-split path (Some text) files paths more = ap (λ (ps : List PathContent). path ∷ ps) more

-- the live files among some paths are those that have a text
files-among : (text_of : PathContent → Option (List ℕ)) (paths : List PathContent)
    → map (λ (file : PathContent × List ℕ). file.0) (filter_map (λ path. option_map (λ text. (path, text)) (text_of path)) paths)
    ≡ filter (λ path. is_some (text_of path)) paths
files-among text_of [] = refl
files-among text_of (path ∷ paths) =
    live_files-split path (text_of path)
    (filter_map (λ p. option_map (λ text. (p, text)) (text_of p)) paths)
    (filter (λ p. is_some (text_of p)) paths) (files-among text_of paths)

-- the paths of the live files are the live paths
pub live_files_paths : (marks : List Mark) → map (λ file. file.0) (live_files marks) ≡ live_paths marks
live_files_paths marks = files-among (live_text marks) (mentioned_paths marks)
