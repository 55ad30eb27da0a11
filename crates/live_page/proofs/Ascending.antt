-- Files that ascend by number: the set of them has them as its paths, and each is found by its number.
use Rattle.std.proofs.Common.{◌≡◌, ℕ, ◌+◌, ◌<◌, ◌≤◌, Bool, true, false, List, [], ◌∷◌, ◌++◌, Option, Some, refl, sym, ◌∙◌, ap, map, arith, nat_eq, eq-eqb, eqb-true, true≢false, append-nil, append_assoc, if◌then◌else◌}
use Rattle.std.proofs.lemmas.Bool.Decides.{nat_tests}
use Rattle.std.specs.List.{filter, filter_map, fold, list_any}
use Rattle.std.specs.Map.{keys_of, lookup}
use Rattle.indexmap.specs.IndexMap.{insert_entry}
use Rattle.vfs_core.specs.declared.file_state.FileState.{FileState}
use Rattle.vfs_core.specs.FileState.{is_existing}
use Rattle.vfs_core.specs.Files.{Files, existing_files, existing_files_from}
use Rattle.vfs_core.specs.VfsPath.{PathContent}
use Rattle.vfs_sets.specs.FileSet as sets

-- numbers rise from one on
abbrev pub RisesFrom : ℕ → List (ℕ × PathContent) → Type 0
RisesFrom number [] = Unit {0}
RisesFrom number (file ∷ files) = (number ≤ file.0) × RisesFrom (file.0 + 1) files

rises-earlier : (number later : ℕ) (files : List (ℕ × PathContent)) → number ≤ later → RisesFrom later files → RisesFrom number files
rises-earlier number later [] le up = tt
rises-earlier number later (file ∷ files) le up = let first = up.0 in (omega (arith, le, first), up.1)

-- those of the files that exist do: the same by whether the first of them exists
rises-split : (number : ℕ) (place : PathContent) (rest : List (ℕ × PathContent)) (is : Bool) → RisesFrom (number + 1) rest
    → RisesFrom number (if is then (number, place) ∷ rest else rest)
rises-split number place rest true up = (omega arith, up)
rises-split number place rest false up = rises-earlier number (number + 1) rest (omega arith) up

rises-existing : (number : ℕ) (entries : List (PathContent × FileState)) → RisesFrom number (existing_files_from number entries)
rises-existing number [] = tt
rises-existing number (entry ∷ entries) =
    rises-split number entry.0 (existing_files_from (number + 1) entries) (is_existing entry.1) (rises-existing (number + 1) entries)

pub existing_rise : (files : Files) → RisesFrom 0 (existing_files files)
existing_rise files = rises-existing 0 files.entries

-- and those of some of these: the same by whether the first is kept
kept-split : (keep : ℕ × PathContent → Bool) (number : ℕ) (file : ℕ × PathContent) (rest : List (ℕ × PathContent)) (is : Bool) → number ≤ file.0
    → RisesFrom (file.0 + 1) (filter keep rest) → RisesFrom number (if is then file ∷ filter keep rest else filter keep rest)
kept-split keep number file rest true le up = (le, up)
kept-split keep number file rest false le up = rises-earlier number (file.0 + 1) (filter keep rest) (omega (arith, le)) up

pub kept_rise : (keep : ℕ × PathContent → Bool) (number : ℕ) (files : List (ℕ × PathContent)) → RisesFrom number files → RisesFrom number (filter keep files)
kept_rise keep number [] up = tt
kept_rise keep number (file ∷ files) up = kept-split keep number file files (keep file) up.0 (kept_rise keep (file.0 + 1) files up.1)

-- ---- a set of such files

-- all numbers are below one
abbrev AreBelow : ℕ → List (ℕ × PathContent) → Type 0
AreBelow number [] = Unit {0}
AreBelow number (file ∷ files) = (file.0 < number) × AreBelow number files

below-later : (number later : ℕ) (files : List (ℕ × PathContent)) → number ≤ later → AreBelow number files → AreBelow later files
below-later number later [] le below = tt
below-later number later (file ∷ files) le below =
    let first = below.0 in (omega (arith, le, first), below-later number later files le below.1)

below-push : (file : ℕ × PathContent) (files : List (ℕ × PathContent)) → AreBelow file.0 files → AreBelow (file.0 + 1) (files ++ file ∷ [])
below-push file [] below = (omega arith, tt)
below-push file (first ∷ files) below = let less = below.0 in (omega (arith, less), below-push file files below.1)

-- a number is another than a lower one
pub nat_eq-above : (number first : ℕ) → first < number → nat_eq number first ≡ false
nat_eq-above number first less = grind (arith, nat_tests)

-- a number above all is put behind: the same by whether the first is it
insert-split : (file first : ℕ × PathContent) (rest : List (ℕ × PathContent)) (is_first : Bool) → is_first ≡ false
    → insert_entry nat_eq rest file.0 file.1 ≡ rest ++ file ∷ []
    → (if is_first then (first.0, file.1) ∷ rest else first ∷ insert_entry nat_eq rest file.0 file.1) ≡ first ∷ (rest ++ file ∷ [])
insert-split file first rest true other more = absurd (true≢false other)
insert-split file first rest false other more = ap (λ l. first ∷ l) more

insert-above : (file : ℕ × PathContent) (files : List (ℕ × PathContent)) → AreBelow file.0 files
    → insert_entry nat_eq files file.0 file.1 ≡ files ++ file ∷ []
insert-above file [] below = refl
insert-above file (first ∷ files) below =
    insert-split file first files (nat_eq file.0 first.0) (nat_eq-above file.0 first.0 below.0) (insert-above file files below.1)

-- files put one after the other
abbrev put_all : List (ℕ × PathContent) → List (ℕ × PathContent) → List (ℕ × PathContent)
put_all files more = fold (λ paths file. insert_entry nat_eq paths file.0 file.1) files more

put-rising : (number : ℕ) (files front : List (ℕ × PathContent)) → AreBelow number front → RisesFrom number files → put_all front files ≡ front ++ files
put-rising number [] front below up = sym (append-nil front)
put-rising number (file ∷ files) front below up =
    let under = below-later number file.0 front up.0 below in
    ap (λ l. put_all l files) (insert-above file front under)
    ∙ put-rising (file.0 + 1) files (front ++ file ∷ []) (below-push file front under) up.1
    ∙ append_assoc front (file ∷ []) files

-- the paths of a set that files are put into
paths-put : (set : sets.FileSetContent) (files : List (ℕ × PathContent))
    → (fold (λ s file. sets.with_set_file s file.0 file.1) set files).paths ≡ put_all set.paths files
paths-put set [] = refl
paths-put set (file ∷ files) = paths-put (sets.with_set_file set file.0 file.1) files

-- the set of files whose numbers rise has them as its paths
pub paths_of_set : (files : List (ℕ × PathContent)) → RisesFrom 0 files → (sets.set_of files).paths ≡ files
paths_of_set files up = paths-put sets.empty_set files ∙ put-rising 0 files [] tt up

-- ---- look-ups

-- a number behind lesser ones
found-behind : (file : ℕ × PathContent) (files rest : List (ℕ × PathContent)) → AreBelow file.0 files
    → lookup (nat_eq file.0) (files ++ file ∷ rest) ≡ Some file.1
found-behind file [] rest below = let own : nat_eq file.0 file.0 ≡ true = eq-eqb file.0 file.0 refl in rw own refl
found-behind file (first ∷ files) rest below =
    let other : nat_eq file.0 first.0 ≡ false = nat_eq-above file.0 first.0 below.0 in
    rw other (found-behind file files rest below.1)

module _ {B : Type 0} (made : Option PathContent → Option B) (of : PathContent → B) (agree : (place : PathContent) → made (Some place) ≡ Some (of place)) where
  -- what is made of each number by some files
  abbrev made_of : List (ℕ × PathContent) → List (ℕ × PathContent) → List B
  made_of files some = filter_map (λ file. made (lookup (nat_eq file) files)) (keys_of some)

  all-rising : (number : ℕ) (files front : List (ℕ × PathContent)) → AreBelow number front → RisesFrom number files
      → made_of (front ++ files) files ≡ map (λ file. of file.1) files
  all-rising number [] front below up = refl
  all-rising number (file ∷ files) front below up =
      let under = below-later number file.0 front up.0 below in
      let gives : made (lookup (nat_eq file.0) (front ++ file ∷ files)) ≡ Some (of file.1) =
      ap made (found-behind file front files under) ∙ agree file.1 in
      rw gives (ap (λ l. of file.1 ∷ l)
      (ap (λ l. made_of l files) (sym (append_assoc front (file ∷ []) files))
      ∙ all-rising (file.0 + 1) files (front ++ file ∷ []) (below-push file front under) up.1))

  -- by number each file is found, in order
  pub found_all : (files : List (ℕ × PathContent)) → RisesFrom 0 files → made_of files files ≡ map (λ file. of file.1) files
  found_all files up = all-rising 0 files [] tt up

-- a lesser number is none of theirs
none-below : (number later : ℕ) (files : List (ℕ × PathContent)) → number < later → RisesFrom later files → list_any (nat_eq number) (keys_of files) ≡ false
none-below number later [] less up = refl
none-below number later (file ∷ files) less up =
    let first = up.0 in
    let other : nat_eq number file.0 ≡ false = grind (arith, nat_tests, less, first) in
    rw other (none-below number (file.0 + 1) files (omega (arith, less, first)) up.1)

module _ (test : PathContent → Bool) where
  abbrev chosen : List (ℕ × PathContent) → List (ℕ × PathContent)
  chosen files = filter (λ file. test file.1) files

  -- a number that is found is of a file that is chosen exactly where its path passes: the same by whether it is the first's
  own-split : (file : ℕ × PathContent) (files : List (ℕ × PathContent)) (is : Bool) → test file.1 ≡ is → RisesFrom (file.0 + 1) files
      → list_any (nat_eq file.0) (keys_of (if is then file ∷ chosen files else chosen files)) ≡ is
  own-split file files true e up = let own : nat_eq file.0 file.0 ≡ true = eq-eqb file.0 file.0 refl in rw own refl
  own-split file files false e up = none-below file.0 (file.0 + 1) (chosen files) (omega arith) (kept_rise (λ f. test f.1) (file.0 + 1) files up)

  other-split : (number : ℕ) (file : ℕ × PathContent) (files : List (ℕ × PathContent)) (is : Bool) → nat_eq number file.0 ≡ false
      → list_any (nat_eq number) (keys_of (if is then file ∷ chosen files else chosen files)) ≡ list_any (nat_eq number) (keys_of (chosen files))
  other-split number file files true other = rw other refl
  other-split number file files false other = refl

  key-split : (number : ℕ) (path : PathContent) (file : ℕ × PathContent) (files : List (ℕ × PathContent)) (is_first : Bool)
      → nat_eq number file.0 ≡ is_first → RisesFrom (file.0 + 1) files
      → (if is_first then Some file.1 else lookup (nat_eq number) files) ≡ Some path
      → (lookup (nat_eq number) files ≡ Some path → list_any (nat_eq number) (keys_of (chosen files)) ≡ test path)
      → list_any (nat_eq number) (keys_of (chosen (file ∷ files))) ≡ test path
  key-split number path file files true own up at more =
      let same : file.1 ≡ path = cc in
      let is : number ≡ file.0 = eqb-true number file.0 own in
      ap (λ n. list_any (nat_eq n) (keys_of (chosen (file ∷ files)))) is
      ∙ own-split file files (test file.1) refl up ∙ ap test same
  key-split number path file files false own up at more =
      other-split number file files (test file.1) own ∙ more at

  pub chosen_key : (number from : ℕ) (path : PathContent) (files : List (ℕ × PathContent)) → RisesFrom from files → lookup (nat_eq number) files ≡ Some path
      → list_any (nat_eq number) (keys_of (chosen files)) ≡ test path
  chosen_key number from path [] up at = cc
  chosen_key number from path (file ∷ files) up at =
      key-split number path file files (nat_eq number file.0) refl up.1 at (λ h. chosen_key number (file.0 + 1) path files up.1 h)

-- a file that is found, and whose path passes, is found among those that pass: the same by whether it is the first, and whether that passes
chosen-found_split : (test : PathContent → Bool) (file : ℕ) (path : PathContent) (first : ℕ × PathContent) (files : List (ℕ × PathContent)) (own passes : Bool)
    → nat_eq file first.0 ≡ own → test first.1 ≡ passes → test path ≡ true
    → (if own then Some first.1 else lookup (nat_eq file) files) ≡ Some path
    → (lookup (nat_eq file) files ≡ Some path → lookup (nat_eq file) (filter (λ f. test f.1) files) ≡ Some path)
    → lookup (nat_eq file) (if passes then first ∷ filter (λ f. test f.1) files else filter (λ f. test f.1) files) ≡ Some path
chosen-found_split test file path first files true true own passes good at more = rw own at
chosen-found_split test file path first files true false own passes good at more =
    let same : first.1 ≡ path = cc in absurd (true≢false (sym good ∙ ap test (sym same) ∙ passes))
chosen-found_split test file path first files false true own passes good at more = rw own (more at)
chosen-found_split test file path first files false false own passes good at more = more at

pub chosen_found : (test : PathContent → Bool) (file : ℕ) (path : PathContent) (files : List (ℕ × PathContent)) → test path ≡ true
    → lookup (nat_eq file) files ≡ Some path → lookup (nat_eq file) (filter (λ f. test f.1) files) ≡ Some path
chosen_found test file path [] good at = cc
chosen_found test file path (first ∷ files) good at =
    chosen-found_split test file path first files (nat_eq file first.0) (test first.1) refl refl good at (chosen_found test file path files good)
