-- The texts that a flush gives to the database: of each file with a root, what the batch holds of it.
use Rattle.std.proofs.Common.{◌≡◌, ℕ, Bool, true, false, ◌&&◌, List, [], ◌∷◌, Option, Some, None, refl, sym, ◌∙◌, ap, subst, nat_eq, eqb-true, true≢false, if◌then◌else◌}
use Rattle.std.specs.List.{AllByRecursion, IsDistinct}
use Rattle.std.specs.Map.{keys_of, lookup}
use Rattle.std.specs.Option.{option_map, unwrap_or}
use Rattle.std.specs.Str.{is_utf8}
use Rattle.vfs_core.specs.declared.changed_file.Change.{Change}
use Rattle.vfs_core.specs.declared.changed_file.Change.TheVariants.{Create, Modify, Delete}
use Rattle.vfs_core.specs.declared.changed_file.ChangedFile.{ChangedFile}
use Rattle.vfs_core.specs.Texts.{all_pass, contents_left, passes}
use Rattle.input_db.specs.Change.{fits_file, text_given}
use Rattle.input_db_files.specs.Files.{FileTables}
use Rattle.input_db_files.specs.declared.source_root.SourceRoot.{SourceRoot}
use Rattle.live_page.specs.Refresh.{changes_taken, text_left}
use Rattle.live_page.proofs.Taken.{taken-split}
use Rattle.crate_graph.proofs.NumberMapLemmas.{or_none as or-none}

-- the text that a call gives to its file
abbrev pub given_by : ChangedFile → List ℕ
given_by call = unwrap_or (text_left call.change) []

module _ (files : FileTables) (roots : List SourceRoot) (file : ℕ) where
  -- a batch without the file gives it none: the same by whether the first file has a root
  none-split : (entry : ℕ × ChangedFile) (rest : List (ℕ × ChangedFile)) (fits : Bool)
      → fits_file files roots entry.0 ≡ fits → nat_eq file entry.0 ≡ false
      → text_given (changes_taken files roots rest) file ≡ None
      → text_given (changes_taken files roots (entry ∷ rest)) file ≡ None
  none-split entry rest true fits other more =
      ap (λ cs. text_given cs file) (taken-split files roots entry rest true fits)
      ∙ rw (more, other) refl
  none-split entry rest false fits other more =
      ap (λ cs. text_given cs file) (taken-split files roots entry rest false fits) ∙ more

  none-given : (batch : List (ℕ × ChangedFile)) → AllByRecursion (λ other. nat_eq file other ≡ false) (keys_of batch)
      → text_given (changes_taken files roots batch) file ≡ None
  none-given [] apart = refl
  none-given (entry ∷ rest) apart =
      none-split entry rest (fits_file files roots entry.0) refl apart.0 (none-given rest apart.1)

  -- the text that a batch gives to a file with a root: the same by whether the first change is of the file
  given-split : (entry : ℕ × ChangedFile) (rest : List (ℕ × ChangedFile)) (is_first fits : Bool)
      → nat_eq file entry.0 ≡ is_first → fits_file files roots file ≡ true → fits_file files roots entry.0 ≡ fits
      → AllByRecursion (λ other. nat_eq entry.0 other ≡ false) (keys_of rest)
      → text_given (changes_taken files roots rest) file ≡ option_map given_by (lookup (nat_eq file) rest)
      → text_given (changes_taken files roots (entry ∷ rest)) file
      ≡ option_map given_by (if is_first then Some entry.1 else lookup (nat_eq file) rest)
  given-split entry rest true true own here fits apart more =
      let one : file ≡ entry.0 = eqb-true file entry.0 own in
      let none : text_given (changes_taken files roots rest) file ≡ None =
      none-given rest (subst (λ n. AllByRecursion (λ other. nat_eq n other ≡ false) (keys_of rest)) (sym one) apart) in
      ap (λ cs. text_given cs file) (taken-split files roots entry rest true fits)
      ∙ rw (none, own) refl
  given-split entry rest true false own here fits apart more =
      let one : file ≡ entry.0 = eqb-true file entry.0 own in
      absurd (true≢false (sym here ∙ ap (fits_file files roots) one ∙ fits))
  given-split entry rest false true own here fits apart more =
      ap (λ cs. text_given cs file) (taken-split files roots entry rest true fits)
      ∙ rw own (or-none (text_given (changes_taken files roots rest) file))
      ∙ more
  given-split entry rest false false own here fits apart more =
      ap (λ cs. text_given cs file) (taken-split files roots entry rest false fits) ∙ more

  -- so each file with a root gets what the batch holds of it
  pub given_lookup : (batch : List (ℕ × ChangedFile)) → IsDistinct nat_eq (keys_of batch)
      → fits_file files roots file ≡ true
      → text_given (changes_taken files roots batch) file ≡ option_map given_by (lookup (nat_eq file) batch)
  unfolding IsDistinct
  given_lookup [] distinct here = refl
  given_lookup (entry ∷ rest) distinct here =
      given-split entry rest (nat_eq file entry.0) (fits_file files roots entry.0) refl here refl distinct.0
      (given_lookup rest distinct.1 here)

and-left : (a b : Bool) → a && b ≡ true → a ≡ true
and-left true b h = refl
and-left false b h = absurd (true≢false (sym h))

and-right : (a b : Bool) → a && b ≡ true → b ≡ true
and-right true b h = h
and-right false b h = absurd (true≢false (sym h))

-- what passes in the batch passes of each call
passes-split : (test : List ℕ → Bool) (first call : ChangedFile) (rest : List (ℕ × ChangedFile)) (found : Option ChangedFile) (is_first : Bool)
    → passes test first.change && all_pass test rest ≡ true
    → (if is_first then Some first else found) ≡ Some call
    → (all_pass test rest ≡ true → found ≡ Some call → passes test call.change ≡ true)
    → passes test call.change ≡ true
passes-split test first call rest found true all is more =
    let same : first ≡ call = cc in
    ap (λ (c : ChangedFile). passes test c.change) (sym same) ∙ and-left (passes test first.change) (all_pass test rest) all
passes-split test first call rest found false all is more = more (and-right (passes test first.change) (all_pass test rest) all) is

passes-found : (test : List ℕ → Bool) (file : ℕ) (batch : List (ℕ × ChangedFile)) (call : ChangedFile)
    → all_pass test batch ≡ true → lookup (nat_eq file) batch ≡ Some call → passes test call.change ≡ true
passes-found test file [] call all is = cc
passes-found test file (entry ∷ rest) call all is =
    passes-split test entry.1 call rest (lookup (nat_eq file) rest) (nat_eq file entry.0) all is
    (λ more at. passes-found test file rest call more at)

-- contents that are a text are the text that is left
text-left : (change : Change) (text : List ℕ) → contents_left change ≡ Some text → passes is_utf8 change ≡ true
    → text_left change ≡ Some text
text-left Delete text is valid = cc
text-left (Create bytes hash) text is valid = rw valid is
text-left (Modify bytes hash) text is valid = rw valid is

-- a call that leaves a text gives it
pub given_text : (file : ℕ) (batch : List (ℕ × ChangedFile)) (call : ChangedFile) (text : List ℕ)
    → all_pass is_utf8 batch ≡ true → lookup (nat_eq file) batch ≡ Some call → contents_left call.change ≡ Some text
    → given_by call ≡ text
given_text file batch call text all is left =
    ap (λ t. unwrap_or t []) (text-left call.change text left (passes-found is_utf8 file batch call all is))
