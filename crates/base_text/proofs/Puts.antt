-- What files in the order of their paths say once one more is put in.
use Rattle.std.proofs.Common.{◌≡◌, ℕ, Bool, true, false, cond, ◌||◌, List, [], ◌∷◌, ◌++◌, refl, sym, ap, subst, ◌∙◌, append_assoc, Option, Some}
use Rattle.std.proofs.lemmas.Bool.{false≢true}
use Rattle.std.specs.Prelude.{bytes_eq}
use Rattle.std.specs.BTreeMap.{insert_entry, is_at}
use Rattle.std.specs.Cmp.{tied_itself}
use Rattle.std.specs.Cmp.Lexicographic.{bytes_decides, pointwise, pointwise_decides, slice_cmp}
use Rattle.std.specs.FinMap.{slice_cmp-IsAntisymmetric}
use Rattle.std.specs.List.{AllByRecursion, list_any}
use Rattle.std.specs.List.Sorted.{IsStrictlySortedBy}
use Rattle.std.specs.Map.{keys_of, lookup}
use Rattle.std.specs.Ordering.{match_ordering, ordering_reverse}
use Rattle.std.specs.declared.cmp.Ordering.TheVariants.{Less, Equal, Greater}
use Rattle.base_values.specs.ByText.{text_cmp}
use Rattle.base_text_paths.specs.PathOrder.{path_cmp, path_cmp_total, path_ties}
use Rattle.base_text_paths.specs.Paths.{components, is_prefix, normal}
use Rattle.base_text.specs.Tree.{TreeFiles, file_text, holds_path}
use Rattle.base_text.proofs.EntryNames.{texts_same}
use Rattle.base_values.proofs.Basics.{or_swap, or_again}

-- paths that tie have the same components
same_components : (x y : List ℕ) → path_cmp x y ≡ Equal → components x ≡ components y
same_components x y = slice_cmp-IsAntisymmetric texts_same (components x) (components y)

-- a test of components passes for one of the files once the new one passes or one passed before
any-insert_entry : (test : List (List ℕ) → Bool) (files : TreeFiles) (path text : List ℕ)
    → list_any (λ file. test (components file.0)) (insert_entry path_cmp files path text) ≡ (test (components path) || list_any (λ file. test (components file.0)) files)
any-insert_entry test [] path text = refl
any-insert_entry test (file ∷ files) path text =
    elim (path_cmp path file.0) as (λ r. path_cmp path file.0 ≡ r
    → list_any (λ file. test (components file.0)) (match_ordering r ((path, text) ∷ file ∷ files) ((file.0, text) ∷ files) (file ∷ insert_entry path_cmp files path text))
    ≡ (test (components path) || (test (components file.0) || list_any (λ file. test (components file.0)) files))) [
      | Less ↦ λ e. refl
      | Equal ↦ λ e. or_again (test (components path)) (test (components file.0)) (list_any (λ file. test (components file.0)) files) (ap test (same_components path file.0 e))
      | Greater ↦ λ e. ap (λ b. test (components file.0) || b) (any-insert_entry test files path text)
          ∙ or_swap (test (components file.0)) (test (components path)) (list_any (λ file. test (components file.0)) files)
    ] refl

pub holds_path-insert_entry : (files : TreeFiles) (path text given asked : List ℕ) → components path ≡ normal given
    → holds_path (insert_entry path_cmp files path text) asked ≡ (is_prefix (normal asked) (normal given) || holds_path files asked)
unfolding holds_path
holds_path-insert_entry files path text given asked is =
    any-insert_entry (is_prefix (normal asked)) files path text
    ∙ ap (λ parts. is_prefix (normal asked) parts || list_any (λ file. is_prefix (normal asked) (components file.0)) files) is

-- the text of a file is found by the order of paths
pub file_text-get : (files : TreeFiles) (path key : List ℕ) → components key ≡ normal path → lookup (is_at (path_cmp key)) files ≡ file_text files path
unfolding file_text
file_text-get files path key is =
    (λ i. lookup (λ file. sym (path_ties key file) i) files) ∙ ap (λ parts. lookup (λ file. pointwise bytes_eq parts (components file)) files) is

-- a test that distinguishes paths finds the new text where it passes for its path, and else what it found before
lookup-insert_entry : (parts : List (List ℕ)) (files : TreeFiles) (path text : List ℕ)
    → lookup (λ file. pointwise bytes_eq parts (components file)) (insert_entry path_cmp files path text)
    ≡ cond (pointwise bytes_eq parts (components path)) (Some text) (lookup (λ file. pointwise bytes_eq parts (components file)) files)
lookup-insert_entry parts [] path text = refl
lookup-insert_entry parts (file ∷ files) path text =
    elim (path_cmp path file.0) as (λ r. path_cmp path file.0 ≡ r
    → lookup (λ file. pointwise bytes_eq parts (components file)) (match_ordering r ((path, text) ∷ file ∷ files) ((file.0, text) ∷ files) (file ∷ insert_entry path_cmp files path text))
    ≡ cond (pointwise bytes_eq parts (components path)) (Some text) (lookup (λ file. pointwise bytes_eq parts (components file)) (file ∷ files))) [
      | Less ↦ λ e. refl
      | Equal ↦ λ e. same_place (pointwise bytes_eq parts (components path)) (pointwise bytes_eq parts (components file.0)) (ap (pointwise bytes_eq parts) (same_components path file.0 e))
      | Greater ↦ λ e. ap (cond (pointwise bytes_eq parts (components file.0)) (Some file.1)) (lookup-insert_entry parts files path text)
          ∙ other_place (pointwise bytes_eq parts (components path)) (pointwise bytes_eq parts (components file.0)) refl refl (λ mine theirs. apart e mine theirs)
    ] refl
  where
    rest : Option (List ℕ)
    rest = lookup (λ file. pointwise bytes_eq parts (components file)) files

    same_place : (a b : Bool) → a ≡ b → cond b (Some text) rest ≡ cond a (Some text) (cond b (Some file.1) rest)
    same_place true true e = refl
    same_place true false e = absurd (false≢true (sym e))
    same_place false true e = absurd (false≢true e)
    same_place false false e = refl

    other_place : (a b : Bool) → pointwise bytes_eq parts (components path) ≡ a → pointwise bytes_eq parts (components file.0) ≡ b → (a ≡ true → b ≡ true → ⊥)
        → cond b (Some file.1) (cond a (Some text) rest) ≡ cond a (Some text) (cond b (Some file.1) rest)
    other_place true true e f differ = absurd (differ refl refl)
    other_place true false e f differ = refl
    other_place false b e f differ = refl

    apart : path_cmp path file.0 ≡ Greater → pointwise bytes_eq parts (components path) ≡ true → pointwise bytes_eq parts (components file.0) ≡ true → ⊥
    apart above mine theirs =
        let same : components path ≡ components file.0 =
        sym ((pointwise_decides bytes_decides parts (components path)).0 mine) ∙ (pointwise_decides bytes_decides parts (components file.0)).0 theirs in
        let tie : path_cmp path file.0 ≡ Equal = ap (λ xs. slice_cmp text_cmp xs (components file.0)) same ∙ tied_itself path_cmp_total file.0 in
        let no : Greater ≡ Equal = sym above ∙ tie in
        cc

pub file_text-insert_entry : (files : TreeFiles) (path text given asked : List ℕ) → components path ≡ normal given
    → file_text (insert_entry path_cmp files path text) asked ≡ cond (pointwise bytes_eq (normal asked) (normal given)) (Some text) (file_text files asked)
unfolding file_text
file_text-insert_entry files path text given asked is =
    lookup-insert_entry (normal asked) files path text ∙ ap (λ parts. cond (pointwise bytes_eq (normal asked) parts) (Some text) (file_text files asked)) is

-- a path above all others goes last
pub insert_entry-last : (files : TreeFiles) (path text : List ℕ) → AllByRecursion (λ key. path_cmp key path ≡ Less) (keys_of files) → insert_entry path_cmp files path text ≡ files ++ (path, text) ∷ []
insert_entry-last [] path text all = refl
insert_entry-last (file ∷ files) path text all =
    let above : path_cmp path file.0 ≡ Greater = path_cmp_total.antisymm path file.0 ∙ ap ordering_reverse all.0 in
    ap (λ r. match_ordering r ((path, text) ∷ file ∷ files) ((file.0, text) ∷ files) (file ∷ insert_entry path_cmp files path text)) above
    ∙ ap (λ rest. file ∷ rest) (insert_entry-last files path text all.1)

below_middle : (first : List ℕ) (files : TreeFiles) (file : List ℕ × List ℕ) (more : TreeFiles) → AllByRecursion (λ key. path_cmp first key ≡ Less) (keys_of (files ++ file ∷ more)) → path_cmp first file.0 ≡ Less
below_middle first [] file more all = all.0
below_middle first (x ∷ files) file more all = below_middle first files file more all.1

-- among paths in order each is above those before it
pub above_front : (front : TreeFiles) (file : List ℕ × List ℕ) (more : TreeFiles) → IsStrictlySortedBy path_cmp (keys_of (front ++ file ∷ more)) → AllByRecursion (λ key. path_cmp key file.0 ≡ Less) (keys_of front)
unfolding IsStrictlySortedBy
above_front [] file more sorted = tt
above_front (x ∷ front) file more sorted = (below_middle x.0 front file more sorted.0, above_front front file more sorted.1)

-- one more file of a copy that is made in order
pub copied_one_more : (all copy new left rest : TreeFiles) (path text key value : List ℕ) → IsStrictlySortedBy path_cmp (keys_of all) → copy ++ left ≡ all → left ≡ (path, text) ∷ rest → key ≡ path → value ≡ text
    → new ≡ insert_entry path_cmp copy key value → new ++ rest ≡ all
copied_one_more all copy new left rest path text key value sorted so_far step same_key same_value put =
    let whole : copy ++ (path, text) ∷ rest ≡ all = ap (λ files. copy ++ files) (sym step) ∙ so_far in
    let P : TreeFiles → Type 0 = λ files. IsStrictlySortedBy path_cmp (keys_of files) in
    let above = above_front copy (path, text) rest (subst P (sym whole) sorted) in
    let added : new ≡ copy ++ (path, text) ∷ [] = put ∙ (λ i. insert_entry path_cmp copy (same_key i) (same_value i)) ∙ insert_entry-last copy path text above in
    ap (λ files. files ++ rest) added ∙ append_assoc copy ((path, text) ∷ []) rest ∙ whole
