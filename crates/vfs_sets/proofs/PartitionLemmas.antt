-- The sets of a partition, as files are put into them one after the other.
use Rattle.std.proofs.Common.{◌≡◌, ℕ, ◌+◌, ◌<◌, ◌==◌, Bool, true, false, List, [], ◌∷◌, ◌++◌, append-nil}
use Rattle.std.proofs.Common.{length, length-append, if◌then◌else◌, refl, sym, ◌∙◌, ap, arith, subst, eqb-true}
use Rattle.std.proofs.Common.{eq-eqb, true≢false}
use Rattle.std.proofs.lemmas.Bool.{cond-false, cond-true}
use Rattle.std.proofs.lemmas.List.Elements.{All-push, filter-append}
use Rattle.std.proofs.lemmas.List.Sums.{fold-append}
use Rattle.std.specs.List.{All, slice_index_or}
use Rattle.vfs_core.specs.VfsPath.{PathContent}
use Rattle.vfs_sets.specs.FileSet.{FileSetContent, empty_set, set_of, with_set_file}
use Rattle.vfs_sets.specs.Partition.{files_of_set, AreEmpty, HasPut, IsPartition}
use Rattle.vfs_sets.specs.Placement.{place_of}

-- one more set without files
pub empty_more : (sets new : List FileSetContent) (count : ℕ) → AreEmpty sets count
    → new ≡ sets ++ empty_set ∷ [] → AreEmpty new (count + 1)
empty_more sets new count empty e = record {
  length_is = omega (arith, ap length e, length-append sets (empty_set ∷ []), empty.length_is);
  each = subst (λ (s : List FileSetContent). All (λ set. set ≡ empty_set) s) (sym e)
      (All-push (λ set. set ≡ empty_set) sets empty_set empty.each refl);
}

-- no files, no set with any
pub partition_none : (roots : List (List PathContent)) (sets : List FileSetContent) (count : ℕ) → count ≡ length roots + 1 → AreEmpty sets count
    → IsPartition roots [] sets
partition_none roots sets count e empty = record {
  count = empty.length_is ∙ e;
  each = λ number none within. empty.each number none within;
}

-- a set's files with one more: the same by whether that is its place
more-split : (roots : List (List PathContent)) (number : ℕ) (files : List (ℕ × PathContent)) (file : ℕ × PathContent) (is_own : Bool)
    → (place_of roots file.1 == number) ≡ is_own
    → set_of (files_of_set roots number (files ++ file ∷ []))
    ≡ (if is_own then with_set_file (set_of (files_of_set roots number files)) file.0 file.1 else set_of (files_of_set roots number files))
more-split roots number files file true own =
    ap set_of (filter-append (λ f. place_of roots f.1 == number) files (file ∷ [])
    ∙ ap (λ fs. files_of_set roots number files ++ fs) (cond-true _ _ _ own))
    ∙ fold-append (λ set f. with_set_file set f.0 f.1) empty_set (files_of_set roots number files) (file ∷ [])
more-split roots number files file false own =
    ap set_of (filter-append (λ f. place_of roots f.1 == number) files (file ∷ [])
    ∙ ap (λ fs. files_of_set roots number files ++ fs) (cond-false _ _ _ own)
    ∙ append-nil (files_of_set roots number files))

-- a set after a file was put: the same by whether that is its place
put-split : (roots : List (List PathContent)) (files : List (ℕ × PathContent)) (old new : List FileSetContent) (file : ℕ × PathContent) (number : ℕ)
    (none : FileSetContent) (is_own : Bool) → (place_of roots file.1 == number) ≡ is_own
    → HasPut old new (place_of roots file.1) file.0 file.1
    → slice_index_or old number none ≡ set_of (files_of_set roots number files)
    → slice_index_or new number none
    ≡ (if is_own then with_set_file (set_of (files_of_set roots number files)) file.0 file.1 else set_of (files_of_set roots number files))
put-split roots files old new file number none true own put before =
    let here : place_of roots file.1 ≡ number = eqb-true (place_of roots file.1) number own in
    ap (λ n. slice_index_or new n none) (sym here) ∙ put.own none
    ∙ ap (λ n. with_set_file (slice_index_or old n none) file.0 file.1) here
    ∙ ap (λ (set : FileSetContent). with_set_file set file.0 file.1) before
put-split roots files old new file number none false own put before =
    put.others number none (λ (e : number ≡ place_of roots file.1).
    true≢false (sym (eq-eqb (place_of roots file.1) number (sym e)) ∙ own))
    ∙ before

-- one more file
pub partition_more : (roots : List (List PathContent)) (files : List (ℕ × PathContent)) (old new : List FileSetContent) (file : ℕ × PathContent)
    → IsPartition roots files old → HasPut old new (place_of roots file.1) file.0 file.1
    → IsPartition roots (files ++ file ∷ []) new
partition_more roots files old new file before put = record {
  count = put.length_is ∙ before.count;
  each = λ number none within.
      put-split roots files old new file number none (place_of roots file.1 == number) refl put
      (before.each number none (subst (λ n. number < n) put.length_is within))
      ∙ sym (more-split roots number files file (place_of roots file.1 == number) refl);
}
