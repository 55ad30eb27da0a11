-- A few files as rows: what the rows hold, with one row more, and when two lists of rows hold the same.
use Rattle.std.proofs.Common.{◌≡◌, ℕ, ◌+◌, ◌<◌, Bool, true, false, ◌&&◌, List, [], ◌∷◌, ◌++◌, None, Some, map, nat_eq, refl, sym, ap, ◌∙◌, length, take, drop, get_or, if◌then◌else◌, Option, is_some, not, true≢false}
use Rattle.std.proofs.Math.Bool.{and-false, and_comm}
use Rattle.std.proofs.lemmas.List.{at_drop_more, map-append}
use Rattle.std.proofs.lemmas.List.Sums.{fold-append, fold_more}
use Rattle.std.specs.Map.{lookup}
use Rattle.std.specs.Map.Iter.{TakesFirst}
use Rattle.indexmap.specs.IndexMap.{insert_entry}
use Rattle.indexmap.proofs.MapLemmas.{absent_from_lookup, insert_entry-absent}
use Rattle.vfs_core.specs.VfsPath.{PathContent, vfs_path_eq}
use Rattle.vfs_sets.specs.FileSet.{FileSetContent, empty_set, file_at, files_eq, set_of, with_set_file}
use Rattle.vfs_sets.specs.Rows.{ComparesNext, IsFreeOf, entries_eq, rows_content}

-- a key that is not among some entries goes last
goes_last : {K X : Type 0} (eq : K → K → Bool) (k : K) (v : X) (es : List (K × X)) → lookup (eq k) es ≡ None
    → es ++ (k, v) ∷ [] ≡ insert_entry eq es k v
goes_last eq k v es none = sym (insert_entry-absent eq k v es (absent_from_lookup (eq k) es none))

-- the row of a new file and a new path is what puts the file at the path
pub row_more : (rows : List (ℕ × PathContent)) (file : ℕ) (path : PathContent) → IsFreeOf (rows_content rows) file path
    → rows_content (rows ++ (file, path) ∷ []) ≡ with_set_file (rows_content rows) file path
row_more rows file path room =
    let files_are = map-append (λ (row : ℕ × PathContent). (row.1, row.0)) rows ((file, path) ∷ [])
    ∙ goes_last vfs_path_eq path file (map (λ row. (row.1, row.0)) rows) room.no_file in
    let paths_are = goes_last nat_eq file path rows room.no_path in
    λ i. record { files = files_are i; paths = paths_are i }

-- so rows that hold what is put one after the other still do
pub rows_more : (rows : List (ℕ × PathContent)) (file : ℕ) (path : PathContent) → set_of rows ≡ rows_content rows
    → IsFreeOf (rows_content rows) file path
    → set_of (rows ++ (file, path) ∷ []) ≡ rows_content (rows ++ (file, path) ∷ [])
rows_more rows file path apart room =
    fold-append (λ set f. with_set_file set f.0 f.1) empty_set rows ((file, path) ∷ [])
    ∙ ap (λ (set : FileSetContent). with_set_file set file path) apart ∙ sym (row_more rows file path room)

-- the file of the first row that is left, where that has the path, and else the one of the rows after it
pub file_of_row : (rows : List (ℕ × PathContent)) (i : ℕ) (row : ℕ × PathContent) (path : PathContent) → i < length rows → row ≡ get_or rows i row
    → file_at (rows_content (drop i rows)) path
    ≡ (if vfs_path_eq path row.1 then Some row.0 else file_at (rows_content (drop (i + 1) rows)) path)
file_of_row rows i row path within is =
    at_drop_more (λ left. file_at (rows_content left) path) rows i row within
    ∙ ap (λ r. file_at (rows_content (r ∷ drop (i + 1) rows)) path) (sym is)

-- what the first rows hold, with the next one
pub taken_more : (rows : List (ℕ × PathContent)) (i : ℕ) (row : ℕ × PathContent) (path : PathContent) (set new : FileSetContent)
    → i < length rows → row ≡ get_or rows i row → path ≡ row.1 → set ≡ set_of (take i rows) → new ≡ with_set_file set row.0 path
    → new ≡ set_of (take (i + 1) rows)
taken_more rows i row path set new within is path_is before put =
    put ∙ (λ j. with_set_file (before j) row.0 (path_is j))
    ∙ ap (λ (r : ℕ × PathContent). with_set_file (set_of (take i rows)) r.0 r.1) is
    ∙ sym (fold_more (λ set f. with_set_file set f.0 f.1) empty_set rows i row within)

-- the rows of two lists are equal as what they hold is
pub rows_eq : (xs ys : List (ℕ × PathContent)) → files_eq (rows_content xs) (rows_content ys) ≡ entries_eq nat_eq vfs_path_eq xs ys
rows_eq xs ys = ap (λ b. b && entries_eq nat_eq vfs_path_eq xs ys) (turned xs ys) ∙ twice (entries_eq nat_eq vfs_path_eq xs ys)
  where
    twice : (b : Bool) → (b && b) ≡ b
    twice true = refl
    twice false = refl

    turned : (us vs : List (ℕ × PathContent))
        → entries_eq vfs_path_eq nat_eq (rows_content us).files (rows_content vs).files ≡ entries_eq nat_eq vfs_path_eq us vs
    turned [] [] = refl
    turned [] (v ∷ vs) = refl
    turned (u ∷ us) [] = refl
    turned (u ∷ us) (v ∷ vs) =
        λ j. and_comm (vfs_path_eq u.1 v.1) (nat_eq u.0 v.0) j && turned us vs j

-- A set and some rows are equal as what is left of both is, from a row on.
module _ (set left : FileSetContent) (rows : List (ℕ × PathContent)) (i : ℕ) (row : ℕ × PathContent) (within : i < length rows)
    (is : row ≡ get_or rows i row) (before : files_eq set (rows_content rows) ≡ files_eq left (rows_content (drop i rows))) where
  abbrev behind : FileSetContent
  behind = rows_content (drop (i + 1) rows)

  at_row : files_eq set (rows_content rows)
      ≡ (entries_eq vfs_path_eq nat_eq left.files ((row.1, row.0) ∷ behind.files) && entries_eq nat_eq vfs_path_eq left.paths (row ∷ behind.paths))
  at_row =
      before ∙ at_drop_more (λ rest. files_eq left (rows_content rest)) rows i row within
      ∙ ap (λ r. files_eq left (rows_content (r ∷ drop (i + 1) rows))) (sym is)

  -- the next file is another
  pub other_file : (files : List (PathContent × ℕ)) (is_next : Bool) → ComparesNext vfs_path_eq nat_eq left.files files ((row.1, row.0), is_next)
      → is_next ≡ false → false ≡ files_eq set (rows_content rows)
  other_file files is_next compares differs = sym (at_row
      ∙ ap (λ b. b && entries_eq nat_eq vfs_path_eq left.paths (row ∷ behind.paths))
      (compares.each behind.files ∙ ap (λ b. b && entries_eq vfs_path_eq nat_eq files behind.files) differs))

  -- the next path is another
  pub other_path : (paths : List (ℕ × PathContent)) (is_next : Bool) → ComparesNext nat_eq vfs_path_eq left.paths paths (row, is_next)
      → is_next ≡ false → false ≡ files_eq set (rows_content rows)
  other_path paths is_next compares differs = sym (at_row
      ∙ ap (λ b. entries_eq vfs_path_eq nat_eq left.files ((row.1, row.0) ∷ behind.files) && b)
      (compares.each behind.paths ∙ ap (λ b. b && entries_eq nat_eq vfs_path_eq paths behind.paths) differs)
      ∙ and-false (entries_eq vfs_path_eq nat_eq left.files ((row.1, row.0) ∷ behind.files)))

  -- both are those of the row
  pub same_row : (files : List (PathContent × ℕ)) (paths : List (ℕ × PathContent)) (is_file is_path : Bool)
      → ComparesNext vfs_path_eq nat_eq left.files files ((row.1, row.0), is_file) → ComparesNext nat_eq vfs_path_eq left.paths paths (row, is_path)
      → is_file ≡ true → is_path ≡ true → files_eq set (rows_content rows) ≡ files_eq (record { files = files; paths = paths }) behind
  same_row files paths is_file is_path compares_file compares_path file_same path_same =
      at_row ∙ (λ j. compares_file.each behind.files j && compares_path.each behind.paths j)
      ∙ (λ j. (file_same j && entries_eq vfs_path_eq nat_eq files behind.files) && (path_same j && entries_eq nat_eq vfs_path_eq paths behind.paths))

-- the entries that are left equal none where there is no next one
pub ended : {K V R : Type 0} (key_eq : K → K → Bool) (value_eq : V → V → Bool) (shows : R → K × V) (left after_left : List (K × V)) (next : Option R)
    (is_none : Bool) → TakesFirst shows left next after_left → is_some next ≡ not is_none → is_none ≡ entries_eq key_eq value_eq left []
ended key_eq value_eq shows left after_left None true takes is = ap (λ es. entries_eq key_eq value_eq es []) (sym takes.0)
ended key_eq value_eq shows left after_left None false takes is = absurd (true≢false (sym is))
ended key_eq value_eq shows left after_left (Some x) true takes is = absurd (true≢false is)
ended key_eq value_eq shows left after_left (Some x) false takes is = ap (λ es. entries_eq key_eq value_eq es []) (sym takes)
