-- What a flush brings into the database, step by step.
use Rattle.std.proofs.Common.{◌≡◌, ℕ, ◌+◌, ◌<◌, ◌^◌, arith, length, Bool, true, false, List, [], ◌∷◌, ◌++◌, Option, Some, None, refl, sym, ◌∙◌, ap, subst, append_assoc, if◌then◌else◌}
use Rattle.std.specs.List.{list_all}
use Rattle.std.specs.Option.{unwrap_or}
use Rattle.std.specs.Str.{IsUtf8, is_utf8}
use Rattle.std.proofs.lemmas.Str.{IsUtf8-from_is_utf8, is_utf8-from_IsUtf8}
use Rattle.vfs_core.specs.declared.changed_file.ChangedFile.{ChangedFile}
use Rattle.vfs_core.specs.Files.{Files, existing_files}
use Rattle.vfs_sets.specs.FileSet as sets
use Rattle.vfs_sets.specs.Partition.{IsPartition}
use Rattle.input_db.specs.Change.{fits, fits_file}
use Rattle.input_db.specs.declared.change.FileChange.{FileChange}
use Rattle.input_db_files.specs.Files.{FileTables}
use Rattle.input_db_files.specs.declared.source_root.SourceRoot.{SourceRoot}
use Rattle.live_page.specs.Refresh.{changes_taken, text_if, text_left}
use Rattle.std.proofs.lemmas.List.FromFn.{length-map-range_with_len}
use Rattle.vfs_sets.specs.FileRoots.{root_lists}
use Rattle.live_page.specs.SourceRoots.{source_roots}
use Rattle.vfs_sets.specs.declared.file_root.FileRoot.{FileRoot}
use Rattle.live_page.proofs.Placed.{made_roots, own_root}

-- a text of these bytes
pub text_if-valid : (bytes text : List ℕ) → text ≡ bytes → IsUtf8 text → Some text ≡ text_if bytes
text_if-valid bytes text same valid = rw (sym same, is_utf8-from_IsUtf8 text valid) refl

-- bytes that are none: the same by whether they are
invalid-split : (bytes : List ℕ) (is : Bool) → is_utf8 bytes ≡ is → (IsUtf8 bytes → ⊥)
    → None ≡ (if is then Some bytes else None)
invalid-split bytes true e h = absurd (h (IsUtf8-from_is_utf8 bytes e))
invalid-split bytes false e h = refl

pub text_if-invalid : (bytes bytes' : List ℕ) → bytes' ≡ bytes → (IsUtf8 bytes' → ⊥) → None ≡ text_if bytes
text_if-invalid bytes bytes' same h = invalid-split bytes (is_utf8 bytes) refl (λ u. h (subst IsUtf8 (sym same) u))

-- one more change: the same by whether its file has a root
pub taken-split : (files : FileTables) (roots : List SourceRoot) (entry : ℕ × ChangedFile) (rest : List (ℕ × ChangedFile)) (fits : Bool)
    → fits_file files roots entry.0 ≡ fits
    → changes_taken files roots (entry ∷ rest)
    ≡ (if fits then (entry.0, text_left entry.1.change) ∷ changes_taken files roots rest else changes_taken files roots rest)
taken-split files roots entry rest true e = rw e refl
taken-split files roots entry rest false e = rw e refl

-- a change that is taken follows those before it
pub takes_change : (files : FileTables) (roots : List SourceRoot) (all batch rest : List (ℕ × ChangedFile)) (entry : ℕ × ChangedFile)
    (before after : List (ℕ × Option (List ℕ))) (text : Option (List ℕ))
    → before ++ changes_taken files roots batch ≡ changes_taken files roots all → batch ≡ entry ∷ rest
    → fits_file files roots entry.0 ≡ true → text ≡ text_left entry.1.change → after ≡ before ++ (entry.0, text) ∷ []
    → after ++ changes_taken files roots rest ≡ changes_taken files roots all
takes_change files roots all batch rest entry before after text so_far is fits left pushed =
    ap (λ l. l ++ changes_taken files roots rest) (pushed ∙ ap (λ t. before ++ (entry.0, t) ∷ []) left)
    ∙ append_assoc before ((entry.0, text_left entry.1.change) ∷ []) (changes_taken files roots rest)
    ∙ ap (λ l. before ++ l) (sym (taken-split files roots entry rest true fits))
    ∙ ap (λ b. before ++ changes_taken files roots b) (sym is)
    ∙ so_far

-- and one that is dropped does not
pub drops_change : (files : FileTables) (roots : List SourceRoot) (all batch rest : List (ℕ × ChangedFile)) (entry : ℕ × ChangedFile)
    (before : List (ℕ × Option (List ℕ)))
    → before ++ changes_taken files roots batch ≡ changes_taken files roots all → batch ≡ entry ∷ rest
    → fits_file files roots entry.0 ≡ false
    → before ++ changes_taken files roots rest ≡ changes_taken files roots all
drops_change files roots all batch rest entry before so_far is fits =
    ap (λ l. before ++ l) (sym (taken-split files roots entry rest false fits))
    ∙ ap (λ b. before ++ changes_taken files roots b) (sym is)
    ∙ so_far

-- each change that is taken has a root: the same by whether the first has
fit-split : (files : FileTables) (roots : List SourceRoot) (entry : ℕ × ChangedFile) (rest : List (ℕ × ChangedFile)) (fits : Bool)
    → fits_file files roots entry.0 ≡ fits
    → list_all (λ changed. fits_file files roots changed.0) (changes_taken files roots rest) ≡ true
    → list_all (λ changed. fits_file files roots changed.0) (changes_taken files roots (entry ∷ rest)) ≡ true
fit-split files roots entry rest true e more =
    ap (list_all (λ (changed : ℕ × Option (List ℕ)). fits_file files roots changed.0)) (taken-split files roots entry rest true e)
    ∙ rw (e, more) refl
fit-split files roots entry rest false e more =
    ap (list_all (λ (changed : ℕ × Option (List ℕ)). fits_file files roots changed.0)) (taken-split files roots entry rest false e)
    ∙ more

taken-fit : (files : FileTables) (roots : List SourceRoot) (batch : List (ℕ × ChangedFile))
    → list_all (λ changed. fits_file files roots changed.0) (changes_taken files roots batch) ≡ true
taken-fit files roots [] = refl
taken-fit files roots (entry ∷ rest) = fit-split files roots entry rest (fits_file files roots entry.0) refl (taken-fit files roots rest)

-- so the whole change fits
pub taken_fits : (files : FileTables) (change : FileChange) (batch : List (ℕ × ChangedFile))
    → change.roots ≡ None → change.files_changed ≡ changes_taken files [] batch → fits files change ≡ true
taken_fits files change batch none taken =
    ap (λ r. list_all (λ changed. fits_file files (unwrap_or r []) changed.0) change.files_changed) none
    ∙ ap (list_all (λ (changed : ℕ × Option (List ℕ)). fits_file files [] changed.0)) taken
    ∙ taken-fit files [] batch

-- and so does one of no files
pub none_fits : (files : FileTables) (change : FileChange) → change.files_changed ≡ [] → fits files change ≡ true
none_fits files change none =
    ap (list_all (λ (changed : ℕ × Option (List ℕ)). fits_file files (unwrap_or change.roots []) changed.0)) none

-- as many source roots as sets
pub few_roots : (roots : List FileRoot) (files : Files) (parts : List sets.FileSetContent) (made : List SourceRoot) → length roots + 1 < 2 ^ 32
    → IsPartition (root_lists roots) (existing_files files) parts → made ≡ source_roots roots parts → length made < 2 ^ 32
few_roots roots files parts made few is same =
    let count : length made ≡ length roots + 1 =
    ap length (same ∙ made_roots roots files parts is) ∙ length-map-range_with_len (own_root roots files) 0 (length roots + 1) in
    omega (arith, few, count)
