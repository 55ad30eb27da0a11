-- The names in a directory, taken file by file, and where they stand to a path behind a name.
use Rattle.std.proofs.Common.{◌≡◌, ℕ, ◌<◌, Bool, true, false, ◌||◌, List, [], ◌∷◌, ◌++◌, length, refl, sym, ap, subst, ◌∙◌, Option, Some, None, arith}
use Rattle.std.proofs.lemmas.Bool.{cond-true, cond-false}
use Rattle.std.specs.Prelude.{is_some, fold, IfSome}
use Rattle.std.specs.Option.{option_copied}
use denote.Ref.{Bor}
use Rattle.base_text_paths.specs.Rows.{Lacks}
use Rattle.std.specs.BTreeSet.{insert_key}
use Rattle.std.specs.Cmp.Lexicographic.{nat_list_cmp_total}
use Rattle.std.specs.FinMap.{IsAntisymmetric, slice_cmp-IsAntisymmetric, nat_cmp-IsAntisymmetric}
use Rattle.std.specs.List.{AllByRecursion, cons_option, filter_map, list_any}
use Rattle.std.specs.List.Sorted.{IsStrictlySortedBy}
use Rattle.std.specs.Map.{keys_of}
use Rattle.std.specs.Ordering.{eq_by_cmp, match_ordering}
use Rattle.std.specs.declared.cmp.Ordering.TheVariants.{Less, Equal, Greater}
use Rattle.base_values.proofs.SortedLists.{has-fold, has-insert_key, sorted-fold, sorted-insert_key, sorted_unique}
use Rattle.base_values.specs.ByText.{text_cmp}
use Rattle.base_text_paths.specs.Paths.{components, normal}
use Rattle.base_text_paths.proofs.Names.{components_are_names, AreNames, IsName}
use Rattle.base_text.specs.Tree.{TreeFiles, entry_name, entry_names, is_above, names_in}
use Rattle.base_text.proofs.Fronts.{entry_name_parts, is_some-entry_name}

-- texts that tie are the same
pub texts_same : IsAntisymmetric text_cmp
texts_same = slice_cmp-IsAntisymmetric nat_cmp-IsAntisymmetric

-- one more name in its place, where there is one
unfoldable pub with_name : Option (List ℕ) → List (List ℕ) → List (List ℕ)
with_name None names = names
with_name (Some name) names = insert_key text_cmp names name

sorted-with_name : (found : Option (List ℕ)) (names : List (List ℕ)) → IsStrictlySortedBy text_cmp names → IsStrictlySortedBy text_cmp (with_name found names)
unfolding with_name
sorted-with_name None names sorted = sorted
sorted-with_name (Some name) names sorted = sorted-insert_key nat_list_cmp_total names name sorted

-- names that are put in their places are in order
pub entry_names-sorted : (files : TreeFiles) (directory : List (List ℕ)) → IsStrictlySortedBy text_cmp (entry_names files directory)
unfolding entry_names IsStrictlySortedBy
entry_names-sorted files directory = sorted-fold nat_list_cmp_total [] (filter_map (λ file. entry_name directory (components file.0)) files) tt

-- the first of some names may as well be put in last
fold-with_name : (found : Option (List ℕ)) (names : List (List ℕ)) → fold (insert_key text_cmp) [] (cons_option found names) ≡ with_name found (fold (insert_key text_cmp) [] names)
unfolding with_name IsStrictlySortedBy
fold-with_name None names = refl
fold-with_name (Some name) names =
    let rest = sorted-fold nat_list_cmp_total [] names tt in
    sorted_unique nat_list_cmp_total texts_same _ _ (sorted-fold nat_list_cmp_total [] (name ∷ names) tt) (sorted-insert_key nat_list_cmp_total _ name rest) (λ q.
    has-fold nat_list_cmp_total q [] (name ∷ names)
    ∙ ap (λ b. eq_by_cmp text_cmp q name || b) (sym (has-fold nat_list_cmp_total q [] names))
    ∙ sym (has-insert_key nat_list_cmp_total q name (fold (insert_key text_cmp) [] names)))

-- so the names are those of the later files with that of the first put in
pub entry_names-cons : (file : List ℕ × List ℕ) (files : TreeFiles) (directory : List (List ℕ))
    → entry_names (file ∷ files) directory ≡ with_name (entry_name directory (components file.0)) (entry_names files directory)
unfolding entry_names
entry_names-cons file files directory = fold-with_name (entry_name directory (components file.0)) (filter_map (λ file. entry_name directory (components file.0)) files)

-- what holds of a name and of others holds of them together
pub all-with_name : (P : List ℕ → Type 0) (found : Option (List ℕ)) (names : List (List ℕ)) → ((name : List ℕ) → found ≡ Some name → P name) → AllByRecursion P names → AllByRecursion P (with_name found names)
unfolding with_name
all-with_name P None names here all = all
all-with_name P (Some name) names here all = put names all
  where
    put : (names : List (List ℕ)) → AllByRecursion P names → AllByRecursion P (insert_key text_cmp names name)
    put [] all = (here name refl, tt)
    put (x ∷ xs) all =
        elim (text_cmp name x) as (λ r. AllByRecursion P (match_ordering r (name ∷ x ∷ xs) (x ∷ xs) (x ∷ insert_key text_cmp xs name))) [
          | Less ↦ (here name refl, all)
          | Equal ↦ all
          | Greater ↦ (all.0, put xs all.1)
        ]

-- what holds of the name behind a directory in each file holds of the names of its entries
pub entry_names-all : (P : List ℕ → Type 0) (files : TreeFiles) (directory : List (List ℕ)) → AllByRecursion (λ key. (name : List ℕ) → entry_name directory (components key) ≡ Some name → P name) (keys_of files)
    → AllByRecursion P (entry_names files directory)
entry_names-all P [] directory all = unfold entry_names in tt
entry_names-all P (file ∷ files) directory all =
    subst (λ (names : List (List ℕ)). AllByRecursion P names) (sym (entry_names-cons file files directory))
    (all-with_name P (entry_name directory (components file.0)) (entry_names files directory) all.0 (entry_names-all P files directory all.1))

-- whether there are some
unfoldable pub non_empty : List (List ℕ) → Bool
non_empty [] = false
non_empty (x ∷ xs) = true

non_empty-with_name : (found : Option (List ℕ)) (names : List (List ℕ)) → non_empty (with_name found names) ≡ (is_some found || non_empty names)
unfolding with_name non_empty
non_empty-with_name None names = refl
non_empty-with_name (Some name) [] = refl
non_empty-with_name (Some name) (x ∷ xs) =
    elim (text_cmp name x) as (λ r. non_empty (match_ordering r (name ∷ x ∷ xs) (x ∷ xs) (x ∷ insert_key text_cmp xs name)) ≡ true) [
      | Less ↦ refl
      | Equal ↦ refl
      | Greater ↦ refl
    ]

-- a directory has an entry exactly where it is above a file
non_empty-entry_names : (files : TreeFiles) (directory : List (List ℕ)) → list_any (λ file. is_above directory (components file.0)) files ≡ non_empty (entry_names files directory)
unfolding non_empty
non_empty-entry_names [] directory = unfold entry_names in refl
non_empty-entry_names (file ∷ files) directory =
    (λ i. is_some-entry_name directory (components file.0) i || non_empty-entry_names files directory i)
    ∙ sym (ap non_empty (entry_names-cons file files directory) ∙ non_empty-with_name (entry_name directory (components file.0)) (entry_names files directory))

-- so where it has no entry it is none, and else it lists them
pub names_in-none : (files : TreeFiles) (path : List ℕ) → entry_names files (normal path) ≡ [] → names_in files path ≡ None
unfolding names_in non_empty
names_in-none files path none = cond-false _ _ _ (non_empty-entry_names files (normal path) ∙ ap non_empty none)

pub names_in-some : (files : TreeFiles) (path : List ℕ) (names : List (List ℕ)) → names ≡ entry_names files (normal path) → 0 < length names → names_in files path ≡ Some names
unfolding names_in non_empty
names_in-some files path [] e some = absurd (omega (arith, some))
names_in-some files path (x ∷ xs) e some = cond-true _ _ _ (non_empty-entry_names files (normal path) ∙ ap non_empty (sym e)) ∙ ap Some (sym e)

-- the name behind a directory in a path is a name
name_behind : (front rest : List (List ℕ)) (name : List ℕ) → AreNames (front ++ name ∷ rest) → IsName name
name_behind [] rest name all = all.0
name_behind (a ∷ front) rest name all = name_behind front rest name all.1

pub entry_name-IsName : (directory : List (List ℕ)) (path name : List ℕ) → entry_name directory (components path) ≡ Some name → IsName name
entry_name-IsName directory path name e =
    let parts = entry_name_parts directory (components path) name e in
    name_behind directory parts.0 name (subst (λ (names : List (List ℕ)). AreNames names) parts.1 (components_are_names path))

pub entry_names-AreNames : (files : TreeFiles) (directory : List (List ℕ)) → AreNames (entry_names files directory)
entry_names-AreNames files directory = entry_names-all IsName files directory (each files)
  where
    each : (files : TreeFiles) → AllByRecursion (λ key. (name : List ℕ) → entry_name directory (components key) ≡ Some name → IsName name) (keys_of files)
    each [] = tt
    each (file ∷ files) = (entry_name-IsName directory file.0, each files)

-- so no slash is in it
pub entry_name-Lacks : (found : Option (Bor (List ℕ))) (directory : List (List ℕ)) (path : List ℕ) → option_copied found ≡ entry_name directory (components path) → IfSome found (λ name. Lacks 47 name.now)
entry_name-Lacks None directory path e = tt
entry_name-Lacks (Some name) directory path e = (entry_name-IsName directory path name.now (sym e)).unbroken
