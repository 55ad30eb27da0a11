-- The source roots of files that are placed by roots: their numbers, and what is in each.
use Rattle.std.proofs.Common.{◌≡◌, ℕ, zero, suc, ◌+◌, ◌<◌, ◌≤◌, ◌==◌, Bool, true, false, not, List, [], ◌∷◌, ◌++◌, length, map, Option, Some, None, refl, sym, ◌∙◌, ap, arith, nat_eq, eqb-true, if◌then◌else◌}
use Rattle.std.proofs.lemmas.Bool.Decides.{nat_tests}
use Rattle.std.proofs.lemmas.List.{length-map}
use Rattle.std.proofs.lemmas.List.FromFn.{length-enumerate_from}
use Rattle.std.specs.Bool.{beq}
use Rattle.std.specs.List.{enumerate_from, filter, filter_map, list_any, range_with_len, slice_get}
use Rattle.std.specs.Map.{keys_of, lookup}
use Rattle.vfs_core.specs.Files.{Files, existing_files}
use Rattle.vfs_core.specs.VfsPath.{PathContent}
use Rattle.vfs_sets.specs.FileSet as sets
use Rattle.vfs_sets.specs.Partition.{IsPartition, files_of_set}
use Rattle.vfs_sets.specs.Placement.{place_of}
use Rattle.vfs_sets.proofs.PlaceLemmas.{place_within}
use Rattle.input_db.specs.Change.{is_in_some, numbers_from, numbers_of, place_given}
use Rattle.input_db_files.specs.Files.{stored_place}
use Rattle.input_db_files.specs.SourceRoot as source
use Rattle.input_db_files.specs.declared.durability.Durability.TheVariants.{Low, Medium}
use Rattle.input_db_files.specs.declared.source_root.SourceRoot.{SourceRoot}
use Rattle.vfs_sets.specs.FileRoots.{is_local_at, root_lists, set_numbers}
use Rattle.live_page.specs.SourceRoots.{durability_at, source_root, source_roots}
use Rattle.live_page.specs.FlushPage.{paths_at}
use Rattle.live_page.specs.Shape.{place_shape}
use Rattle.vfs_sets.specs.declared.file_root.FileRoot.{FileRoot}
use Rattle.live_page.proofs.Ascending.{RisesFrom, chosen_key, existing_rise, found_all, kept_rise, paths_of_set}
use Rattle.live_page.proofs.Ranges.{map_enumerated, map_enumerated_more, slice_get_range}
use Rattle.input_db.proofs.RunSteps.{next}

-- a source root of a set, by whether it is local
is_library : (is_local : Bool) (set : sets.FileSetContent) → (source_root is_local set).is_library ≡ not is_local
is_library true set = refl
is_library false set = refl

set_kept : (is_local : Bool) (set : sets.FileSetContent) → source.set_of_root (source_root is_local set) ≡ set
set_kept true set = refl
set_kept false set = refl

durability_kept : (is_local : Bool) (set : sets.FileSetContent) → source.root_durability (source_root is_local set) ≡ (if is_local then Low else Medium)
durability_kept true set = refl
durability_kept false set = refl

not-false : (b : Bool) → beq (not b) false ≡ b
not-false true = refl
not-false false = refl

not-true : (b : Bool) → beq (not b) true ≡ not b
not-true true = refl
not-true false = refl

-- one more set: its number is how many source roots there are
pub root_more : (roots : List FileRoot) (parts : List sets.FileSetContent) (part : sets.FileSetContent) (made more : List SourceRoot) (is_local : Bool) (root : SourceRoot)
    → made ≡ source_roots roots parts → is_local ≡ is_local_at roots (length made) → root ≡ source_root is_local part → more ≡ made ++ root ∷ []
    → more ≡ source_roots roots (parts ++ part ∷ [])
root_more roots parts part made more is_local root so_far local is pushed =
    let count : length made ≡ length parts =
    ap length so_far ∙ length-map (enumerate_from 0 parts) (λ (set : ℕ × sets.FileSetContent). source_root (is_local_at roots set.0) set.1) ∙ length-enumerate_from 0 parts in
    pushed ∙ ap (λ l. l ++ root ∷ []) so_far
    ∙ ap (λ r. source_roots roots parts ++ r ∷ []) (is ∙ ap (λ b. source_root b part) (local ∙ ap (is_local_at roots) (count ∙ omega arith)))
    ∙ sym (map_enumerated_more (λ set. source_root (is_local_at roots set.0) set.1) 0 parts part)

-- paths of those files whose path passes: the same by whether the first passes
chosen-split : {B : Type 0} (of : PathContent → B) (test : PathContent → Bool) (file : ℕ × PathContent) (files : List (ℕ × PathContent)) (is : Bool)
    → map (λ f. of f.1) (filter (λ f. test f.1) files) ≡ map of (filter test (map (λ f. f.1) files))
    → map (λ f. of f.1) (if is then file ∷ filter (λ f. test f.1) files else filter (λ f. test f.1) files)
    ≡ map of (if is then file.1 ∷ filter test (map (λ f. f.1) files) else filter test (map (λ f. f.1) files))
chosen-split of test file files true more = ap (λ l. of file.1 ∷ l) more
chosen-split of test file files false more = more

pub chosen_paths : {B : Type 0} (of : PathContent → B) (test : PathContent → Bool) (files : List (ℕ × PathContent))
    → map (λ f. of f.1) (filter (λ f. test f.1) files) ≡ map of (filter test (map (λ f. f.1) files))
chosen_paths of test [] = refl
chosen_paths of test (file ∷ files) = chosen-split of test file files (test file.1) (chosen_paths of test files)

module _ (roots : List FileRoot) (files : Files) where
  -- the files of a set
  abbrev pub files_at : ℕ → List (ℕ × PathContent)
  files_at number = files_of_set (root_lists roots) number (existing_files files)

  -- the source root of a set
  abbrev pub own_root : ℕ → SourceRoot
  own_root number = source_root (is_local_at roots number) (sets.set_of (files_at number))

  -- all of them
  abbrev pub own_roots : List SourceRoot
  own_roots = map own_root (set_numbers roots)

  rising : (number : ℕ) → RisesFrom 0 (files_at number)
  rising number = kept_rise (λ file. place_of (root_lists roots) file.1 == number) 0 (existing_files files) (existing_rise files)

  -- they are what a partition gives
  pub made_roots : (parts : List sets.FileSetContent) → IsPartition (root_lists roots) (existing_files files) parts
      → source_roots roots parts ≡ own_roots
  made_roots parts is =
      map_enumerated (λ set. source_root (is_local_at roots set.0) set.1) (λ number. sets.set_of (files_at number)) 0 parts
      (λ k d less. is.each k d less ∙ ap (λ number. sets.set_of (files_at number)) (omega arith))
      ∙ ap (λ n. map own_root (range_with_len 0 n)) (is.count ∙ ap (λ n. n + 1) (length-map roots (λ (root : FileRoot). root.paths)))

  -- ---- what each is

  pub own_library : (number : ℕ) → (own_root number).is_library ≡ not (is_local_at roots number)
  own_library number = is_library (is_local_at roots number) (sets.set_of (files_at number))

  pub own_durability : (number : ℕ) → source.root_durability (own_root number) ≡ durability_at roots number
  own_durability number = durability_kept (is_local_at roots number) (sets.set_of (files_at number))

  pub own_paths : (number : ℕ) → (source.set_of_root (own_root number)).paths ≡ files_at number
  own_paths number =
      ap (λ set. set.paths) (set_kept (is_local_at roots number) (sets.set_of (files_at number))) ∙ paths_of_set (files_at number) (rising number)

  -- what is made of the paths of its files
  module _ {B : Type 0} (made : Option PathContent → Option B) (of : PathContent → B) (agree : (place : PathContent) → made (Some place) ≡ Some (of place)) where
    pub paths_made : (number : ℕ) → filter_map (λ file. made (sets.path_of (source.set_of_root (own_root number)) file)) (source.files_in (own_root number))
        ≡ map of (paths_at roots (map (λ file. file.1) (existing_files files)) number)
    paths_made number =
        ap (λ paths. filter_map (λ file. made (lookup (nat_eq file) paths)) (keys_of paths)) (own_paths number)
        ∙ found_all made of agree (files_at number) (rising number)
        ∙ chosen_paths of (λ path. place_of (root_lists roots) path == number) (existing_files files)

  -- ---- their numbers

  numbers_made : (is_library : Bool) (a n : ℕ)
      → numbers_from is_library a (map own_root (range_with_len a n)) ≡ filter (λ k. beq (own_root k).is_library is_library) (range_with_len a n)
  numbers_made is_library a zero = refl
  numbers_made is_library a (suc n) =
      let rest = ap (λ m. numbers_from is_library m (map own_root (range_with_len (a + 1) n))) (next a) ∙ numbers_made is_library (a + 1) n in
      λ i. if beq (own_root a).is_library is_library then a ∷ rest i else rest i

  pub local_numbers : numbers_of false own_roots ≡ filter (is_local_at roots) (set_numbers roots)
  local_numbers = numbers_made false 0 (length roots + 1)
      ∙ ap (λ test. filter test (set_numbers roots)) (λ i k. (ap (λ b. beq b false) (own_library k) ∙ not-false (is_local_at roots k)) i)

  pub library_numbers : numbers_of true own_roots ≡ filter (λ number. not (is_local_at roots number)) (set_numbers roots)
  library_numbers = numbers_made true 0 (length roots + 1)
      ∙ ap (λ test. filter test (set_numbers roots)) (λ i k. (ap (λ b. beq b true) (own_library k) ∙ not-true (is_local_at roots k)) i)

  -- ---- the root of a file that exists

  module _ (file : ℕ) (path : PathContent) (there : lookup (nat_eq file) (existing_files files) ≡ Some path) where
    abbrev place : ℕ
    place = place_of (root_lists roots) path

    pub within : place < length roots + 1
    within =
        let le = place_within (root_lists roots) path in
        omega (arith, le, length-map roots (λ (root : FileRoot). root.paths))

    -- a root has the file exactly where it is the file's place
    has : (number : ℕ) → source.has_file (own_root number) file ≡ (place == number)
    has number = ap (λ paths. list_any (nat_eq file) (keys_of paths)) (own_paths number)
        ∙ chosen_key (λ path. place_of (root_lists roots) path == number) file 0 path (existing_files files) (existing_rise files) there

    not_here : (number : ℕ) → place < number → source.has_file (own_root number) file ≡ false
    not_here number less = has number ∙ apart place number less
      where
        apart : (x y : ℕ) → x < y → (x == y) ≡ false
        apart x y less = grind (arith, nat_tests)

    none_given : (a n : ℕ) → place < a → place_given a (map own_root (range_with_len a n)) file ≡ None
    none_given a zero less = refl
    none_given a (suc n) less =
        let rest = ap (λ m. place_given m (map own_root (range_with_len (a + 1) n)) file) (next a) ∙ none_given (a + 1) n (omega (arith, less)) in
        let here = not_here a less in
        rw (rest, here) refl

    -- by whether the first root has it
    given_split : (a n : ℕ) (is : Bool) → (place == a) ≡ is → a ≤ place
        → (place < a + 1 → place_given (a + 1) (map own_root (range_with_len (a + 1) n)) file ≡ None)
        → (a + 1 ≤ place → place_given (a + 1) (map own_root (range_with_len (a + 1) n)) file ≡ Some (place_shape roots path))
        → place_given a (map own_root (range_with_len a (suc n))) file ≡ Some (place_shape roots path)
    given_split a n true e le none more =
        let same : place ≡ a = eqb-true place a e in
        let here : source.has_file (own_root a) file ≡ true = has a ∙ e in
        let rest = ap (λ m. place_given m (map own_root (range_with_len (a + 1) n)) file) (next a) ∙ none (omega (arith, same)) in
        rw (rest, here) (ap Some (ap (stored_place a) (own_durability a)) ∙ ap (λ m. Some (stored_place m (durability_at roots m))) (sym same))
    given_split a n false e le none more =
        let later : a + 1 ≤ place = grind (arith, nat_tests, le, e) in
        let rest = ap (λ m. place_given m (map own_root (range_with_len (a + 1) n)) file) (next a) ∙ more later in
        rw rest refl

    some_given : (a n : ℕ) → a ≤ place → place < a + n → place_given a (map own_root (range_with_len a n)) file ≡ Some (place_shape roots path)
    some_given a zero le less = absurd (omega (arith, le, less))
    some_given a (suc n) le less =
        given_split a n (place == a) refl le (none_given (a + 1) n)
        (λ later. some_given (a + 1) n later (omega (arith, less)))

    pub placed : place_given 0 own_roots file ≡ Some (place_shape roots path)
    placed = some_given 0 (length roots + 1) (omega arith) (omega (arith, within))

    -- so it is in one of them
    any_split : (a n : ℕ) (is : Bool) → (place == a) ≡ is → a ≤ place → (a + 1 ≤ place → is_in_some (map own_root (range_with_len (a + 1) n)) file ≡ true)
        → is_in_some (map own_root (range_with_len a (suc n))) file ≡ true
    any_split a n true e le more = let here : source.has_file (own_root a) file ≡ true = has a ∙ e in rw here refl
    any_split a n false e le more =
        let later : a + 1 ≤ place = grind (arith, nat_tests, le, e) in
        let here : source.has_file (own_root a) file ≡ false = has a ∙ e in
        rw (here, more later) refl

    some_has : (a n : ℕ) → a ≤ place → place < a + n → is_in_some (map own_root (range_with_len a n)) file ≡ true
    some_has a zero le less = absurd (omega (arith, le, less))
    some_has a (suc n) le less = any_split a n (place == a) refl le (λ later. some_has (a + 1) n later (omega (arith, less)))

    pub in_some : is_in_some own_roots file ≡ true
    in_some = some_has 0 (length roots + 1) (omega arith) (omega (arith, within))

  -- the root of a number
  pub root_at : (number : ℕ) → number < length roots + 1 → slice_get own_roots number ≡ Some (own_root (0 + number))
  root_at number less = slice_get_range own_root 0 (length roots + 1) number less
