-- What one more mark makes of the rows of texts, and which files the rows keep.
use Rattle.std.proofs.Common.{◌≡◌, ℕ, suc, ◌+◌, ◌<◌, ◌≤◌, Bool, true, false, cond, not, ◌||◌, List, [], ◌∷◌, ◌++◌, Option, Some, None, is_some, refl, sym, ◌∙◌, ap, subst, arith, map, set, length, position, nat_lt, nat_eq, true≢false, if◌then◌else◌}
use Rattle.std.proofs.lemmas.Bool.Decides.{nat_tests}
use Rattle.std.proofs.lemmas.List.{map-append}
use Rattle.std.specs.List.{AllByRecursion, cons_option, enumerate_from, IsDistinct, filter_map, list_any, position_or_len}
use Rattle.std.specs.Option.{option_map, unwrap_or}
use Rattle.std.specs.Map.{keys_of, lookup}
use Rattle.vfs_core.specs.declared.changed_file.Change.TheVariants.{Modify}
use Rattle.vfs_core.specs.declared.file_state.FileState.{FileState}
use Rattle.vfs_core.specs.declared.file_state.FileState.TheVariants.{Deleted, Excluded}
use Rattle.vfs_core.specs.declared.marks.Mark.{Mark}
use Rattle.vfs_core.specs.declared.marks.MarkKind.{MarkKind}
use Rattle.vfs_core.specs.declared.marks.MarkKind.TheVariants.{Out}
use Rattle.vfs_core.specs.FileState.{is_change, state_of}
use Rattle.vfs_core.specs.Files.{Files, Follows, is_change_at, kind_of, path_number, paths_of, state_at}
use Rattle.vfs_core.specs.Hash.{content_hash}
use Rattle.vfs_core.specs.Marks.{is_out, kept_text, live_text_after, live_text, mentioned_paths, merged_text, same_hash, with_path}
use Rattle.vfs_core.specs.VfsPathOrder.{vfs_path_eq-same, vfs_path_equiv}
use Rattle.vfs_core.specs.VfsPath.{PathContent, vfs_path_eq}
use Rattle.vfs_core.proofs.FileLemmas.{position-in}
use Rattle.live_project.proofs.Existing.{file_by, mentioned_paths-distinct}
use Rattle.vfs_core.proofs.MarkLemmas.{live_text_mark}
use Rattle.live_project.specs.LiveTexts.{KeepsTexts, LiveFile, files_kept, numbered_files, text_rows, with_row_text}

-- one row more
kept_cons : (number : ℕ) (place : PathContent) (places : List PathContent) (text : Option (List ℕ)) (rows : List (Option (List ℕ))) (kept : List LiveFile) → files_kept (number + 1) places rows ≡ kept
    → files_kept number (place ∷ places) (text ∷ rows) ≡ cons_option (option_map (λ t. record { number = number; path = place; text = t }) text) kept
kept_cons number place places None rows kept h = h
kept_cons number place places (Some t) rows kept h = ap (λ (l : List LiveFile). record { number = number; path = place; text = t } ∷ l) h

-- the files that the rows keep are those that have a text, whatever paths come later
pub kept_rows : (f : PathContent → Option (List ℕ)) (number : ℕ) (places more : List PathContent) → files_kept number (places ++ more) (map f places) ≡ filter_map (file_by f) (enumerate_from number places)
kept_rows f number [] [] = refl
kept_rows f number [] (place ∷ more) = refl
kept_rows f number (place ∷ places) more = kept_cons number place (places ++ more) (f place) (map f places) _ (kept_rows f (number + 1) places more)

-- and so they are the live files
pub kept_live : (marks : List Mark) (more : List PathContent) → files_kept 0 (mentioned_paths marks ++ more) (text_rows marks) ≡ numbered_files marks
kept_live marks more = kept_rows (live_text marks) 0 (mentioned_paths marks) more

-- more paths than rows keep no more files
pub kept_more : (number : ℕ) (places more : List PathContent) (rows : List (Option (List ℕ))) → length rows ≤ length places → files_kept number (places ++ more) rows ≡ files_kept number places rows
kept_more number [] [] [] h = refl
kept_more number [] (place ∷ more) [] h = refl
kept_more number [] more (row ∷ rows) h = absurd (omega (arith, h))
kept_more number (place ∷ places) more [] h = refl
kept_more number (place ∷ places) more (None ∷ rows) h = kept_more (number + 1) places more rows (omega (arith, h))
kept_more number (place ∷ places) more (Some text ∷ rows) h =
    ap (λ (l : List LiveFile). record { number = number; path = place; text = text } ∷ l) (kept_more (number + 1) places more rows (omega (arith, h)))

-- an item that is not there, by its place
or-left : (a b : Bool) → a || b ≡ false → a ≡ false
or-left true b h = h
or-left false b h = refl

or-right : (a b : Bool) → a || b ≡ false → b ≡ false
or-right true b h = absurd (true≢false h)
or-right false b h = h

apart-split : (test : PathContent → Bool) (first : PathContent) (rest : List PathContent) (is_first : Bool) → length (first ∷ rest) ≤ cond (not is_first) (1 + position_or_len test rest) 0
    → (length rest ≤ position_or_len test rest → list_any test rest ≡ false) → is_first || list_any test rest ≡ false
apart-split test first rest true h more = absurd (omega arith)
apart-split test first rest false h more = more (omega arith)

apart_of : (test : PathContent → Bool) (places : List PathContent) → length places ≤ position_or_len test places → list_any test places ≡ false
apart_of test [] h = refl
apart_of test (first ∷ rest) h = apart-split test first rest (test first) h (apart_of test rest)

among-split : (test : PathContent → Bool) (first : PathContent) (rest : List PathContent) (is_first : Bool) → cond (not is_first) (1 + position_or_len test rest) 0 < length (first ∷ rest)
    → (position_or_len test rest < length rest → list_any test rest ≡ true) → is_first || list_any test rest ≡ true
among-split test first rest true h more = refl
among-split test first rest false h more = more (omega arith)

among_of : (test : PathContent → Bool) (places : List PathContent) → position_or_len test places < length places → list_any test places ≡ true
among_of test [] h = absurd (omega arith)
among_of test (first ∷ rest) h = among-split test first rest (test first) h (among_of test rest)

none_equal : (place : PathContent) (places : List PathContent) → AllByRecursion (λ y. vfs_path_eq place y ≡ false) places → list_any (vfs_path_eq place) places ≡ false
none_equal place [] h = refl
none_equal place (first ∷ rest) h = ap (λ b. b || list_any (vfs_path_eq place) rest) h.0 ∙ none_equal place rest h.1

set-next : {A : Type 0} (x : A) (xs : List A) (i : ℕ) (v : A) → set (x ∷ xs) (1 + i) v ≡ x ∷ set xs i v
set-next x xs i v = let next : 1 + i ≡ suc i = omega arith in ap (λ n. set (x ∷ xs) n v) next

-- rows that differ at one path alone
module _ (f f' : PathContent → Option (List ℕ)) (path : PathContent) (v : Option (List ℕ)) (own : (place : PathContent) → vfs_path_eq place path ≡ true → f' place ≡ v)
    (other : (place : PathContent) → vfs_path_eq place path ≡ false → f' place ≡ f place) where
  rows_apart : (places : List PathContent) → list_any (vfs_path_eq path) places ≡ false → map f' places ≡ map f places
  rows_apart [] h = refl
  rows_apart (first ∷ rest) h =
      let differs : vfs_path_eq first path ≡ false = vfs_path_equiv.symm first path ∙ or-left (vfs_path_eq path first) (list_any (vfs_path_eq path) rest) h in
      ap (λ x. x ∷ map f' rest) (other first differs) ∙ ap (λ xs. f first ∷ xs) (rows_apart rest (or-right (vfs_path_eq path first) (list_any (vfs_path_eq path) rest) h))

  own-split : (first : PathContent) (rest : List PathContent) (is_first : Bool) → vfs_path_eq path first ≡ is_first → AllByRecursion (λ y. vfs_path_eq first y ≡ false) rest
      → cond (not is_first) (1 + position_or_len (vfs_path_eq path) rest) 0 < length (first ∷ rest)
      → (position_or_len (vfs_path_eq path) rest < length rest → map f' rest ≡ set (map f rest) (position_or_len (vfs_path_eq path) rest) v)
      → map f' (first ∷ rest) ≡ set (map f (first ∷ rest)) (cond (not is_first) (1 + position_or_len (vfs_path_eq path) rest) 0) v
  own-split first rest true is apart within more =
      let same : path ≡ first = vfs_path_eq-same path first is in
      let none : list_any (vfs_path_eq path) rest ≡ false = subst (λ p. list_any (vfs_path_eq p) rest ≡ false) (sym same) (none_equal first rest apart) in
      ap (λ x. x ∷ map f' rest) (own first (vfs_path_equiv.symm first path ∙ is)) ∙ ap (λ xs. v ∷ xs) (rows_apart rest none)
  own-split first rest false is apart within more =
      let differs : vfs_path_eq first path ≡ false = vfs_path_equiv.symm first path ∙ is in
      ap (λ x. x ∷ map f' rest) (other first differs) ∙ ap (λ xs. f first ∷ xs) (more (omega arith)) ∙ sym (set-next (f first) (map f rest) (position_or_len (vfs_path_eq path) rest) v)

  rows_own : (places : List PathContent) → IsDistinct vfs_path_eq places → position_or_len (vfs_path_eq path) places < length places
      → map f' places ≡ set (map f places) (position_or_len (vfs_path_eq path) places) v
  unfolding IsDistinct
  rows_own [] distinct h = absurd (omega arith)
  rows_own (first ∷ rest) distinct h = own-split first rest (vfs_path_eq path first) refl distinct.0 h (rows_own rest distinct.1)

  -- the rows of the paths with this one
  rows_known : (places : List PathContent) (number : ℕ) → IsDistinct vfs_path_eq places → position (vfs_path_eq path) places ≡ Some number → map f' (with_path path places) ≡ set (map f places) number v
  rows_known places number distinct h =
      let at = position-in (vfs_path_eq path) places number (nat_lt (position_or_len (vfs_path_eq path) places) (length places)) refl h in
      let within : position_or_len (vfs_path_eq path) places < length places = omega (arith, at.0, at.1) in
      ap (λ (b : Bool). map f' (if b then places else places ++ path ∷ [])) (among_of (vfs_path_eq path) places within) ∙ rows_own places distinct within ∙ ap (λ n. set (map f places) n v) at.0

  rows_new : (places : List PathContent) → position (vfs_path_eq path) places ≡ None → map f' (with_path path places) ≡ map f places ++ v ∷ []
  rows_new places h =
      let behind : length places ≤ position_or_len (vfs_path_eq path) places = past places (nat_lt (position_or_len (vfs_path_eq path) places) (length places)) refl h in
      let none = apart_of (vfs_path_eq path) places behind in
      ap (λ (b : Bool). map f' (if b then places else places ++ path ∷ [])) none ∙ map-append f' places (path ∷ []) ∙ ap (λ xs. xs ++ f' path ∷ []) (rows_apart places none) ∙ ap (λ x. map f places ++ x ∷ []) (own path (vfs_path_equiv.refl path))
    where
      past : (places : List PathContent) (is_in : Bool) → nat_lt (position_or_len (vfs_path_eq path) places) (length places) ≡ is_in → cond is_in (Some (position_or_len (vfs_path_eq path) places)) None ≡ None
          → length places ≤ position_or_len (vfs_path_eq path) places
      past places true e h = cc
      past places false e h = grind (arith, nat_tests)

hash_told : (text other : List ℕ) (same : Bool) → nat_eq (content_hash other) (content_hash text) ≡ same → same_hash text other ≡ same
hash_told text other true e = grind (arith, nat_tests)
hash_told text other false e = grind (arith, nat_tests)

-- what a call that changes its file makes of the text that lives, and what one that changes nothing
told_change : (contents : Option (List ℕ)) (was_out : Bool) (before : Option (List ℕ)) → is_change (cond was_out Excluded (state_of before)) contents ≡ true
    → live_text_after (kind_of contents) was_out (cond was_out None before) ≡ contents
told_change None was_out before h = refl
told_change (Some text) true before h = absurd (true≢false (sym h))
told_change (Some text) false None h = refl
told_change (Some text) false (Some other) h = hash-split text other (nat_eq (content_hash other) (content_hash text)) refl h
  where
    hash-split : (text other : List ℕ) (same : Bool) → nat_eq (content_hash other) (content_hash text) ≡ same
        → is_some (if same then None else Some (Modify text (content_hash text))) ≡ true → Some (merged_text text (Some other)) ≡ Some text
    hash-split text other true e h = absurd (true≢false (sym h))
    hash-split text other false e h = ap (λ (b : Bool). Some (if b then other else text)) (hash_told text other false e)

told_same : (contents : Option (List ℕ)) (was_out : Bool) (before : Option (List ℕ)) → is_change (cond was_out Excluded (state_of before)) contents ≡ false
    → live_text_after (kind_of contents) was_out (cond was_out None before) ≡ cond was_out None before
told_same None true before h = refl
told_same None false None h = refl
told_same None false (Some other) h = absurd (true≢false h)
told_same (Some text) true before h = refl
told_same (Some text) false None h = absurd (true≢false h)
told_same (Some text) false (Some other) h = hash-split text other (nat_eq (content_hash other) (content_hash text)) refl h
  where
    hash-split : (text other : List ℕ) (same : Bool) → nat_eq (content_hash other) (content_hash text) ≡ same
        → is_some (if same then None else Some (Modify text (content_hash text))) ≡ false → Some (merged_text text (Some other)) ≡ Some other
    hash-split text other true e h = ap (λ (b : Bool). Some (if b then other else text)) (hash_told text other true e)
    hash-split text other false e h = absurd (true≢false h)

-- a path without a number has no state
no_state : (place : PathContent) (entries : List (PathContent × FileState)) → list_any (vfs_path_eq place) (keys_of entries) ≡ false → lookup (vfs_path_eq place) entries ≡ None
no_state place [] h = refl
no_state place (entry ∷ rest) h =
    ap (λ (b : Bool). if b then Some entry.1 else lookup (vfs_path_eq place) rest) (or-left (vfs_path_eq place entry.0) (list_any (vfs_path_eq place) (keys_of rest)) h)
    ∙ no_state place rest (or-right (vfs_path_eq place entry.0) (list_any (vfs_path_eq place) (keys_of rest)) h)

told_none : (was_out : Bool) (before : Option (List ℕ)) → Deleted ≡ cond was_out Excluded (state_of before) → cond was_out None before ≡ None
told_none true before h = refl
told_none false None h = refl
told_none false (Some text) h = cc

-- and no text
unnamed_none : (files : Files) (marks : List Mark) (place : PathContent) → Follows files marks → path_number files place ≡ None → live_text marks place ≡ None
unfolding live_text
unnamed_none files marks place follows none =
    let behind : length (paths_of files) ≤ position_or_len (vfs_path_eq place) (paths_of files) = past (paths_of files) (nat_lt (position_or_len (vfs_path_eq place) (paths_of files)) (length (paths_of files))) refl none in
    let state : state_at files place ≡ Deleted = ap (λ (t : Option FileState). unwrap_or t Deleted) (no_state place files.entries (apart_of (vfs_path_eq place) (paths_of files) behind)) in
    told_none (is_out marks place) (kept_text marks place) (sym state ∙ follows.states place)
  where
    past : (ps : List PathContent) (is_in : Bool) → nat_lt (position_or_len (vfs_path_eq place) ps) (length ps) ≡ is_in → cond is_in (Some (position_or_len (vfs_path_eq place) ps)) None ≡ None
        → length ps ≤ position_or_len (vfs_path_eq place) ps
    past ps true e h = cc
    past ps false e h = grind (arith, nat_tests)

map_same : (f f' : PathContent → Option (List ℕ)) → ((place : PathContent) → f' place ≡ f place) → (places : List PathContent) → map f' places ≡ map f places
map_same f f' same [] = refl
map_same f f' same (place ∷ places) = ap (λ x. x ∷ map f' places) (same place) ∙ ap (λ xs. f place ∷ xs) (map_same f f' same places)

known_place : (path : PathContent) (places : List PathContent) (number : ℕ) → position (vfs_path_eq path) places ≡ Some number → with_path path places ≡ places
known_place path places number h =
    let at = position-in (vfs_path_eq path) places number (nat_lt (position_or_len (vfs_path_eq path) places) (length places)) refl h in
    let within : position_or_len (vfs_path_eq path) places < length places = omega (arith, at.0, at.1) in
    ap (λ (b : Bool). if b then places else places ++ path ∷ []) (among_of (vfs_path_eq path) places within)

-- one more mark of a path
module _ (path : PathContent) (kind : MarkKind) (marks : List Mark) where
  abbrev mark : Mark
  mark = record { path = path; kind = kind }

  -- what it makes of the text that lives at its path
  abbrev next : Option (List ℕ)
  next = live_text_after kind (is_out marks path) (live_text marks path)

  at_own : (place : PathContent) → vfs_path_eq place path ≡ true → live_text (mark ∷ marks) place ≡ next
  at_own place is =
      let same : place ≡ path = vfs_path_eq-same place path is in
      live_text_mark mark marks place ∙ ap (λ (b : Bool). if b then live_text_after kind (is_out marks place) (live_text marks place) else live_text marks place) is
      ∙ ap (λ p. live_text_after kind (is_out marks p) (live_text marks p)) same

  at_other : (place : PathContent) → vfs_path_eq place path ≡ false → live_text (mark ∷ marks) place ≡ live_text marks place
  at_other place is = live_text_mark mark marks place ∙ ap (λ (b : Bool). if b then live_text_after kind (is_out marks place) (live_text marks place) else live_text marks place) is

  -- at its own path nothing changes, so nothing changes
  at_each : next ≡ live_text marks path → (place : PathContent) → live_text (mark ∷ marks) place ≡ live_text marks place
  at_each same place =
      elim (vfs_path_eq place path) as (λ b. vfs_path_eq place path ≡ b → live_text (mark ∷ marks) place ≡ live_text marks place) [
        | true ↦ λ is. at_own place is ∙ same ∙ ap (live_text marks) (sym (vfs_path_eq-same place path is))
        | false ↦ λ is. at_other place is
      ] refl

  rows_split : (number : Option ℕ) (is_changed : Bool) (contents : Option (List ℕ)) → position (vfs_path_eq path) (mentioned_paths marks) ≡ number
      → (is_changed ≡ true → next ≡ contents) → (is_changed ≡ false → next ≡ live_text marks path) → (number ≡ None → live_text marks path ≡ None)
      → with_row_text (text_rows marks) number is_changed contents ≡ text_rows (mark ∷ marks)
  rows_split (Some number) true contents at changed same none =
      ap (λ v. set (text_rows marks) number v) (sym (changed refl)) ∙ sym (rows_known (live_text marks) (live_text (mark ∷ marks)) path next at_own at_other (mentioned_paths marks) number (mentioned_paths-distinct marks) at)
  rows_split (Some number) false contents at changed same none =
      sym (ap (map (live_text (mark ∷ marks))) (known_place path (mentioned_paths marks) number at) ∙ map_same (live_text marks) (live_text (mark ∷ marks)) (at_each (same refl)) (mentioned_paths marks))
  rows_split None true contents at changed same none =
      ap (λ v. text_rows marks ++ v ∷ []) (sym (changed refl)) ∙ sym (rows_new (live_text marks) (live_text (mark ∷ marks)) path next at_own at_other (mentioned_paths marks) at)
  rows_split None false contents at changed same none =
      ap (λ v. text_rows marks ++ v ∷ []) (sym (same refl ∙ none refl)) ∙ sym (rows_new (live_text marks) (live_text (mark ∷ marks)) path next at_own at_other (mentioned_paths marks) at)

-- a text, or none, that comes for a path
pub KeepsTexts_put : (old new : Files) (rows : List (Option (List ℕ))) (path : PathContent) (contents : Option (List ℕ)) (marks : List Mark)
    → KeepsTexts old rows marks → Follows new (record { path = path; kind = kind_of contents } ∷ marks)
    → KeepsTexts new (with_row_text rows (path_number old path) (is_change_at old path contents) contents) (record { path = path; kind = kind_of contents } ∷ marks)
unfolding live_text
KeepsTexts_put old new rows path contents marks keeps follows =
    let told : state_at old path ≡ cond (is_out marks path) Excluded (state_of (kept_text marks path)) = keeps.follows.states path in
    let number : position (vfs_path_eq path) (mentioned_paths marks) ≡ path_number old path = ap (position (vfs_path_eq path)) (sym keeps.follows.numbers) in
    record {
      follows = follows;
      texts = ap (λ r. with_row_text r (path_number old path) (is_change_at old path contents) contents) keeps.texts
          ∙ rows_split path (kind_of contents) marks (path_number old path) (is_change_at old path contents) contents number
          (λ h. told_change contents (is_out marks path) (kept_text marks path) (ap (λ s. is_change s contents) (sym told) ∙ h))
          (λ h. told_same contents (is_out marks path) (kept_text marks path) (ap (λ s. is_change s contents) (sym told) ∙ h))
          (unnamed_none old marks path keeps.follows);
    }

-- a path that is left out
pub KeepsTexts_out : (old new : Files) (rows : List (Option (List ℕ))) (path : PathContent) (marks : List Mark)
    → KeepsTexts old rows marks → Follows new (record { path = path; kind = Out } ∷ marks)
    → KeepsTexts new (with_row_text rows (path_number old path) true None) (record { path = path; kind = Out } ∷ marks)
KeepsTexts_out old new rows path marks keeps follows =
    let number : position (vfs_path_eq path) (mentioned_paths marks) ≡ path_number old path = ap (position (vfs_path_eq path)) (sym keeps.follows.numbers) in
    record {
      follows = follows;
      texts = ap (λ r. with_row_text r (path_number old path) true None) keeps.texts
          ∙ rows_split path Out marks (path_number old path) true None number (λ h. refl) (λ h. cc) (unnamed_none old marks path keeps.follows);
    }

-- what the rows keep is what lives, whatever paths come later
pub files_kept-live : (files : Files) (rows : List (Option (List ℕ))) (marks : List Mark) (more : List PathContent) → KeepsTexts files rows marks → files_kept 0 (paths_of files ++ more) rows ≡ numbered_files marks
files_kept-live files rows marks more keeps =
    ap (λ r. files_kept 0 (paths_of files ++ more) r) keeps.texts ∙ ap (λ ps. files_kept 0 (ps ++ more) (text_rows marks)) keeps.follows.numbers ∙ kept_live marks more
