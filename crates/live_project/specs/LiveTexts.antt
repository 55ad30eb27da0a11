-- The files that live, by number, and the rows of their texts beside the table of files, one for each path in
-- order of first mention; and when these hold what was said to a session.
use Rattle.std.specs.Prelude.{◌≡◌, ℕ, ◌+◌, Bool, true, List, [], ◌∷◌, ◌++◌, Option, Some, None, fold, map, slice_get, if◌then◌else◌}
use Rattle.std.proofs.Common.{set}
use Rattle.std.specs.List.{enumerate_from, filter_map}
use Rattle.std.specs.Option.{option_and_then, option_map}
use Rattle.std.specs.Str.{is_utf8}
use Rattle.base_text.specs.Tree as tree
use Rattle.vfs_core.specs.declared.marks.Mark.{Mark}
use Rattle.vfs_core.specs.Files.{Files, Follows, KeepsNumbers, TakesMark, TakesOut, existing_files}
use Rattle.vfs_core.specs.Marks.{live_text, mentioned_paths}
use Rattle.vfs_core.specs.Texts.{BringsMark, BringsOut, BringsTo, KeepsPassing, all_pass}
use Rattle.vfs_core.specs.VfsPath.{PathContent}
use Rattle.live_project.specs.Sources.{Said, with_kept_file}
use Rattle.live_project.specs.declared.recorded.Recorded.{Recorded}
use Rattle.live_project.specs.declared.sources.Sources.{Sources}

-- ---- files that live

-- a file that lives: its number, which is the place of its path among those of which the events spoke, its
-- path and its text
pub record LiveFile : Type 0 where
  pub number : ℕ
  pub path : PathContent
  pub text : List ℕ

-- the file of a numbered path, where it lives
abbrev pub live_file : List Mark → ℕ × PathContent → Option LiveFile
live_file marks place =
    option_map (λ text. record { number = place.0; path = place.1; text = text }) (live_text marks place.1)

-- the files that live, by number
abbrev pub numbered_files : List Mark → List LiveFile
numbered_files marks = filter_map (live_file marks) (enumerate_from 0 (mentioned_paths marks))

-- ---- rows of texts

-- the row of each path that marks speak of: the text of its file, where the file lives
abbrev pub text_rows : List Mark → List (Option (List ℕ))
text_rows marks = map (live_text marks) (mentioned_paths marks)

-- files and rows of texts are what marks make of them
pub record KeepsTexts (files : Files) (rows : List (Option (List ℕ))) (marks : List Mark) : Type 0 where
  pub follows : Follows files marks
  pub texts : rows ≡ text_rows marks

-- the rows after a text, or none, came for the path of a number, or for a path that has no number yet
abbrev pub with_row_text : List (Option (List ℕ)) → Option ℕ → Bool → Option (List ℕ) → List (Option (List ℕ))
with_row_text rows None is_changed text = rows ++ (if is_changed then text else None) ∷ []
with_row_text rows (Some number) is_changed text = if is_changed then set rows number text else rows

-- the files whose texts stand in rows, by the paths of their numbers, which count from here on; a path behind
-- the rows has no file
abbrev pub files_kept : ℕ → List PathContent → List (Option (List ℕ)) → List LiveFile
files_kept number [] rows = []
files_kept number (place ∷ places) [] = []
files_kept number (place ∷ places) (None ∷ rows) = files_kept (number + 1) places rows
files_kept number (place ∷ places) (Some text ∷ rows) =
    record { number = number; path = place; text = text } ∷ files_kept (number + 1) places rows

-- the text in the row of a number
abbrev pub row_text : List (Option (List ℕ)) → ℕ → Option (List ℕ)
row_text rows number = option_and_then (λ text. text) (slice_get rows number)

-- the files of a tree, with one more where its row has a text; a virtual path is in no tree
abbrev pub with_row : tree.TreeFiles → PathContent → Option (List ℕ) → tree.TreeFiles
with_row files path None = files
with_row files path (Some text) = with_kept_file files (path, text)

-- the tree of these files, by the rows of their numbers
unfoldable pub kept_by : List (Option (List ℕ)) → List (ℕ × PathContent) → tree.TreeFiles
kept_by rows files = fold (λ kept file. with_row kept file.1 (row_text rows file.0)) [] files

-- contents, or a deletion where there are none, came for a path
pub record TakesContents (old new : Files) (path : PathContent) (contents : Option (List ℕ)) : Type 0 where
  pub limit : new.limit ≡ old.limit
  pub numbers : KeepsNumbers old new
  pub follows : TakesMark old new path contents
  pub brings : BringsMark old new path contents
  pub passing : KeepsPassing old new contents

-- a path was left out
pub record TakesExclusion (old new : Files) (path : PathContent) : Type 0 where
  pub limit : new.limit ≡ old.limit
  pub numbers : KeepsNumbers old new
  pub follows : TakesOut old new path
  pub brings : BringsOut old new path
  pub batch : new.batch ≡ old.batch

-- whatever marks files and rows were made of, they are made of these and one more; what the changes of the
-- files brought to the texts that live, they bring to them still; and paths keep their numbers
pub record AddsMark (old new : Files) (rows rows' : List (Option (List ℕ))) (mark : Mark) : Type 0 where
  pub limit : new.limit ≡ old.limit
  pub numbers : KeepsNumbers old new
  pub keeps : (marks : List Mark) → KeepsTexts old rows marks → KeepsTexts new rows' (mark ∷ marks)
  pub brings : (known : ℕ → Option (List ℕ)) (marks : List Mark) → Follows old marks
      → BringsTo old known marks
      → BringsTo new known (mark ∷ marks)
  pub texts : all_pass is_utf8 old.batch ≡ true → all_pass is_utf8 new.batch ≡ true

-- ---- what was said

-- a value holds what was said: it has the configuration and the answers, and its files and their texts are
-- those of the marks
pub record HoldsSaid (recorded : Recorded) (said : Said) : Type 0 where
  pub config : recorded.config ≡ said.config
  pub limit : recorded.files.limit ≡ said.config.limits.paths
  pub texts : KeepsTexts recorded.files recorded.texts said.marks
  pub answers : recorded.answers ≡ said.answers

-- one more mark is taken by the files and their texts; the rest is as it was
pub record RecordsMark (old new : Recorded) (mark : Mark) : Type 0 where
  pub adds : AddsMark old.files new.files old.texts new.texts mark
  pub config : new.config ≡ old.config
  pub answers : new.answers ≡ old.answers

-- all but the changes of files is as it was
pub record SparesChanges (old new : Recorded) : Type 0 where
  pub config : new.config ≡ old.config
  pub texts : new.texts ≡ old.texts
  pub answers : new.answers ≡ old.answers
  pub files : new.files ≡ record old.files { batch = new.files.batch }

-- what a load of what was recorded keeps
abbrev pub sources_kept : Recorded → List ℕ → Sources
sources_kept recorded path = record {
  config = recorded.config;
  answers = recorded.answers;
  files = kept_by recorded.texts (existing_files recorded.files);
  path = path;
}
