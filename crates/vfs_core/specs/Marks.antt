-- Marks: what was said of files so far, newest first, and which files live after them with which text.
-- From the update of a virtual file system: a text of the content hash that stands is no change.
use Rattle.std.specs.Prelude.{◌≡◌, ℕ, Bool, true, false, ◌&&◌, List, [], ◌∷◌, Option, Some, None, is_some, nat_eq, map, if◌then◌else◌}
use Rattle.std.specs.List.{filter, filter_map, list_any, take_while}
use Rattle.std.specs.Option.{option_map}
use Rattle.vfs_core.specs.declared.marks.Mark.{Mark}
use Rattle.vfs_core.specs.declared.marks.MarkKind.{MarkKind}
use Rattle.vfs_core.specs.declared.marks.MarkKind.TheVariants.{Text, Gone, Out}
use Rattle.vfs_core.specs.Distinct.{with_item}
use Rattle.vfs_core.specs.Hash.{content_hash}
use Rattle.vfs_core.specs.VfsPath.{PathContent, vfs_path_eq}

-- what was said of a path, newest first
abbrev pub kinds_at : PathContent → List Mark → List MarkKind
kinds_at path marks = map (λ m. m.kind) (filter (λ m. vfs_path_eq path m.path) marks)

-- whether what is said leaves a file out
abbrev pub leaves_out : MarkKind → Bool
leaves_out (Text text) = false
leaves_out Gone = false
leaves_out Out = true

-- whether a path was left out: once is for good
abbrev pub is_out : List Mark → PathContent → Bool
is_out marks path = list_any (λ mark. vfs_path_eq path mark.path && leaves_out mark.kind) marks

-- the texts after the last deletion, newest first
abbrev pub texts_since : List MarkKind → List (List ℕ)
texts_since [] = []
texts_since (Gone ∷ kinds) = []
texts_since (Out ∷ kinds) = texts_since kinds
texts_since (Text text ∷ kinds) = text ∷ texts_since kinds

-- whether two texts count as equal: their content hashes are
abbrev pub same_hash : List ℕ → List ℕ → Bool
same_hash text other = nat_eq (content_hash text) (content_hash other)

-- the last of a list, or what stands before it
abbrev pub last_after : List ℕ → List (List ℕ) → List ℕ
last_after text [] = text
last_after text (other ∷ texts) = last_after other texts

-- of texts, newest first, the first of the final run of equal content hash
abbrev pub first_of_run : List (List ℕ) → Option (List ℕ)
first_of_run [] = None
first_of_run (text ∷ texts) = Some (last_after text (take_while (same_hash text) texts))

-- the text that counts after what was said of one file
unfoldable pub text_of_kinds : List MarkKind → Option (List ℕ)
text_of_kinds kinds = first_of_run (texts_since kinds)

-- the text that counts at a path, whether or not it was left out
unfoldable pub kept_text : List Mark → PathContent → Option (List ℕ)
kept_text marks path = text_of_kinds (kinds_at path marks)

-- the map from live paths to their texts: a path that was left out is not live
unfoldable pub live_text : List Mark → PathContent → Option (List ℕ)
live_text marks path = if is_out marks path then None else kept_text marks path

-- the text that counts when one more text comes
abbrev pub merged_text : List ℕ → Option (List ℕ) → List ℕ
merged_text text None = text
merged_text text (Some before) = if same_hash text before then before else text

-- what one more thing that is said of a file makes of the text that counted
abbrev pub text_after_mark : MarkKind → Option (List ℕ) → Option (List ℕ)
text_after_mark Gone before = None
text_after_mark Out before = before
text_after_mark (Text text) before = Some (merged_text text before)

-- what it makes of the text of a file that is live, or not, and may have been left out before
abbrev pub live_text_after : MarkKind → Bool → Option (List ℕ) → Option (List ℕ)
live_text_after Gone was_out before = None
live_text_after Out was_out before = None
live_text_after (Text text) was_out before = if was_out then None else Some (merged_text text before)

-- one more mark: its own path has what it says, each other what it had
abbrev pub LivesNext : Mark → List Mark → PathContent → Type 0
LivesNext mark marks path = live_text (mark ∷ marks) path
    ≡ (if vfs_path_eq path mark.path then live_text_after mark.kind (is_out marks path) (live_text marks path)
    else live_text marks path)

-- paths, with one more where it is not among them
abbrev pub with_path : PathContent → List PathContent → List PathContent
with_path path paths = with_item vfs_path_eq path paths

-- the paths that marks speak of, in order of first mention
abbrev pub mentioned_paths : List Mark → List PathContent
mentioned_paths [] = []
mentioned_paths (mark ∷ marks) = with_path mark.path (mentioned_paths marks)

-- the live paths, in order of first mention
abbrev pub live_paths : List Mark → List PathContent
live_paths marks = filter (λ path. is_some (live_text marks path)) (mentioned_paths marks)

-- the live paths with their texts, in order of first mention
abbrev pub live_files : List Mark → List (PathContent × List ℕ)
live_files marks =
    filter_map (λ path. option_map (λ text. (path, text)) (live_text marks path)) (mentioned_paths marks)
