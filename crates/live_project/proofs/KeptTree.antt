-- The tree that a load keeps is that of the live files.
use Rattle.std.proofs.Common.{◌≡◌, ℕ, suc, ◌+◌, List, [], ◌∷◌, ◌++◌, Option, Some, None, map, slice_get, refl, ap, ◌∙◌, arith}
use Rattle.std.specs.List.{enumerate_from, filter_map, fold}
use Rattle.std.specs.Option.{option_and_then, option_map}
use Rattle.std.proofs.lemmas.List.Sums.{fold-append}
use Rattle.std.proofs.lemmas.Option.{slice_get-map}
use Rattle.base_text.specs.Tree as tree
use Rattle.vfs_core.specs.declared.marks.Mark.{Mark}
use Rattle.vfs_core.specs.Files.{Files, existing_files}
use Rattle.vfs_core.specs.Marks.{live_files, live_text, mentioned_paths}
use Rattle.vfs_core.specs.VfsPath.{PathContent}
use Rattle.live_project.specs.LiveTexts.{KeepsTexts, kept_by, row_text, with_row}
use Rattle.live_project.specs.Sources.{kept_files, with_kept_file}
use Rattle.live_project.proofs.Existing.{existing_numbered, file_by, live_of, numbered}

-- one more file, by its row
abbrev put_row : List (Option (List ℕ)) → tree.TreeFiles → ℕ × PathContent → tree.TreeFiles
put_row rows kept file = with_row kept file.1 (row_text rows file.0)

-- files put in by their rows are those with a text: the same by whether the first has one
rows-split : (text_of : PathContent → Option (List ℕ)) (rows : List (Option (List ℕ))) (number : ℕ) (place : PathContent) (places : List PathContent) (kept : tree.TreeFiles) (text : Option (List ℕ))
    → text_of place ≡ text → slice_get rows number ≡ Some text
    → ((before : tree.TreeFiles) → fold (put_row rows) before (map numbered (filter_map (file_by text_of) (enumerate_from (number + 1) places))) ≡ fold with_kept_file before (live_of text_of places))
    → fold (put_row rows) kept (map numbered (filter_map (file_by text_of) (enumerate_from number (place ∷ places)))) ≡ fold with_kept_file kept (live_of text_of (place ∷ places))
rows-split text_of rows number place places kept None is row more = rw is (more kept)
rows-split text_of rows number place places kept (Some text) is row more =
    rw is (ap (λ (found : Option (Option (List ℕ))). fold (put_row rows) (with_row kept place (option_and_then (λ t. t) found))
    (map numbered (filter_map (file_by text_of) (enumerate_from (number + 1) places)))) row
    ∙ more (with_kept_file kept (place, text)))

rows-kept : (text_of : PathContent → Option (List ℕ)) (rows : List (Option (List ℕ))) (number : ℕ) (places : List PathContent) (kept : tree.TreeFiles)
    → ((k : ℕ) (place : PathContent) → slice_get places k ≡ Some place → slice_get rows (number + k) ≡ Some (text_of place))
    → fold (put_row rows) kept (map numbered (filter_map (file_by text_of) (enumerate_from number places))) ≡ fold with_kept_file kept (live_of text_of places)
rows-kept text_of rows number [] kept same = refl
rows-kept text_of rows number (place ∷ places) kept same =
    rows-split text_of rows number place places kept (text_of place) refl
    (ap (slice_get rows) (let n : number ≡ number + 0 = omega arith in n) ∙ same 0 place refl)
    (λ before. rows-kept text_of rows (number + 1) places before
    (λ k p at. ap (slice_get rows) (let n : number + 1 + k ≡ number + suc k = omega arith in n) ∙ same (suc k) p at))

-- the tree that a load keeps is that of the live files
pub kept_tree : (files : Files) (rows : List (Option (List ℕ))) (marks : List Mark) → KeepsTexts files rows marks → kept_by rows (existing_files files) ≡ kept_files (live_files marks)
unfolding kept_by kept_files
kept_tree files rows marks keeps =
    ap (fold (put_row rows) []) (existing_numbered files marks keeps.follows)
    ∙ rows-kept (live_text marks) rows 0 (mentioned_paths marks) []
    (λ k place at. ap (slice_get rows) (let n : 0 + k ≡ k = omega arith in n) ∙ ap (λ r. slice_get r k) keeps.texts
    ∙ slice_get-map (live_text marks) (mentioned_paths marks) k ∙ ap (option_map (live_text marks)) at)

-- one more file
pub kept_by-more : (rows : List (Option (List ℕ))) (files : List (ℕ × PathContent)) (file : ℕ × PathContent) → kept_by rows (files ++ file ∷ []) ≡ with_row (kept_by rows files) file.1 (row_text rows file.0)
unfolding kept_by
kept_by-more rows files file = fold-append (put_row rows) [] files (file ∷ [])
