-- TreeFiles in the order of their paths: what the first one from a path on says of all of them.
use Rattle.std.proofs.Common.{◌≡◌, ℕ, zero, suc, Bool, true, false, cond, not, ◌&&◌, ◌||◌, List, [], ◌∷◌, ◌++◌, drop, length, Ordering, refl, sym, ap, ◌∙◌, Option, Some, None, append-nil, arith}
use Rattle.std.proofs.lemmas.Bool.{true≢false, false≢true, cond-true, cond-false, lt-ltb}
use Rattle.std.specs.Cmp.Lexicographic.{slice_cmp, nat_list_cmp_total}
use Rattle.std.specs.BTreeSet.{insert_key}
use Rattle.std.specs.List.{AllByRecursion, find, list_any, slice_get}
use Rattle.std.specs.List.Sorted.{IsStrictlySortedBy}
use Rattle.std.specs.Map.{keys_of}
use Rattle.std.specs.Option.{option_and_then, option_map, option_map_or}
use Rattle.std.specs.BTreeMap.Range.{entries_between}
use Rattle.std.specs.declared.ops.Bound.TheVariants.{Included, Unbounded}
use Rattle.std.specs.Ordering.{is_gt, is_le, is_lt, match_ordering, nat_cmp, ordering_then}
use Rattle.std.specs.declared.cmp.Ordering.TheVariants.{Less, Equal, Greater}
use Rattle.base_values.specs.ByText.{text_cmp}
use Rattle.base_text_paths.specs.PathOrder.{path_cmp}
use Rattle.base_text_paths.specs.Paths.{components, is_prefix, normal}
use Rattle.base_text_paths.proofs.Prefixes.{is_prefix_parts}
use Rattle.base_text.specs.MemoryTree.{first_after, first_from}
use Rattle.base_text.specs.Tree.{TreeFiles, entry_name, entry_names, holds_path}
use Rattle.base_text.proofs.EntryNames.{entry_names-all, entry_names-cons, texts_same, with_name}
use Rattle.base_text.proofs.Fronts.{begins_between, entry_name-behind, entry_name_parts, front_not_above, is_prefix-behind, slice_cmp-behind}

-- not above, in two words
not_above_from_le : (r : Ordering) → is_le r ≡ true → is_gt r ≡ false
not_above_from_le Less e = refl
not_above_from_le Equal e = refl
not_above_from_le Greater e = absurd (false≢true e)

-- nothing is not above a list
none_first : (xs : List (List ℕ)) → is_le (slice_cmp text_cmp [] xs) ≡ true
none_first [] = refl
none_first (x ∷ xs) = refl

-- what follows from each later path
each : {P Q : List ℕ → Type 0} → ((x : List ℕ) → P x → Q x) → (xs : List (List ℕ)) → AllByRecursion P xs → AllByRecursion Q xs
each h [] all = tt
each h (x ∷ xs) all = (h x all.0, each h xs all.1)

-- the first path from a path on begins with it, if one does
module _ (front : List (List ℕ)) (path : List ℕ) (is : components path ≡ front) where
  -- a path that begins with the front is not before it
  begins_later : (key : List ℕ) → is_prefix front (components key) ≡ true → is_le (path_cmp path key) ≡ true
  begins_later key begins =
      let rest : List (List ℕ) = drop (length front) (components key) in
      (λ i. is_le (slice_cmp text_cmp (is i) (is_prefix_parts front (components key) begins i)))
      ∙ ap (λ xs. is_le (slice_cmp text_cmp xs (front ++ rest))) (sym (append-nil front))
      ∙ ap is_le (slice_cmp-behind nat_list_cmp_total front [] rest) ∙ none_first rest

  -- where a path from the front on does not begin with it, no later one does
  begins_no_more : (key later : List ℕ) → is_le (path_cmp path key) ≡ true → is_prefix front (components key) ≡ false → path_cmp key later ≡ Less → is_prefix front (components later) ≡ false
  begins_no_more key later from other before = by (is_prefix front (components later)) refl
    where
      by : (b : Bool) → is_prefix front (components later) ≡ b → is_prefix front (components later) ≡ false
      by false e = e
      by true e =
          let rest : List (List ℕ) = drop (length front) (components later) in
          let low : is_gt (slice_cmp text_cmp front (components key)) ≡ false = not_above_from_le _ (ap (λ xs. is_le (slice_cmp text_cmp xs (components key))) (sym is) ∙ from) in
          let high : is_gt (slice_cmp text_cmp (components key) (front ++ rest)) ≡ false =
          ap (λ xs. is_gt (slice_cmp text_cmp (components key) xs)) (sym (is_prefix_parts front (components later) e)) ∙ ap is_gt before in
          let begins = begins_between nat_list_cmp_total texts_same front (components key) rest low high in
          absurd (false≢true (sym other ∙ ap (is_prefix front) begins ∙ is_prefix-behind front (drop (length front) (components key))))

  none_begins : (files : TreeFiles) → AllByRecursion (λ key. is_prefix front (components key) ≡ false) (keys_of files) → list_any (λ file. is_prefix front (components file.0)) files ≡ false
  none_begins [] all = refl
  none_begins (file ∷ files) all = (λ i. all.0 i || none_begins files all.1 i)

  pub first_begins : (files : TreeFiles) → IsStrictlySortedBy path_cmp (keys_of files)
      → list_any (λ file. is_prefix front (components file.0)) files ≡ option_map_or (λ key. is_prefix front (components key)) (first_from path files) false
  unfolding IsStrictlySortedBy
  first_begins [] sorted = refl
  first_begins (file ∷ files) sorted = by (is_le (path_cmp path file.0)) refl (first_begins files sorted.1)
    where
      here : (b : Bool) → is_prefix front (components file.0) ≡ b → is_le (path_cmp path file.0) ≡ true → (b || list_any (λ file. is_prefix front (components file.0)) files) ≡ b
      here true e from = refl
      here false e from = none_begins files (each (λ later before. begins_no_more file.0 later from e before) (keys_of files) sorted.0)

      not_here : (b : Bool) → is_prefix front (components file.0) ≡ b → is_le (path_cmp path file.0) ≡ false → is_prefix front (components file.0) ≡ false
      not_here false e before = e
      not_here true e before = absurd (false≢true (sym before ∙ begins_later file.0 e))

      by : (b : Bool) → is_le (path_cmp path file.0) ≡ b
          → list_any (λ file. is_prefix front (components file.0)) files ≡ option_map_or (λ key. is_prefix front (components key)) (first_from path files) false
          → (is_prefix front (components file.0) || list_any (λ file. is_prefix front (components file.0)) files) ≡ option_map_or (λ key. is_prefix front (components key)) (cond b (Some file.0) (first_from path files)) false
      by true from rest = here (is_prefix front (components file.0)) refl from
      by false before rest =
          ap (λ b. b || list_any (λ file. is_prefix front (components file.0)) files) (not_here (is_prefix front (components file.0)) refl before) ∙ rest

-- so whether a path is held is seen by the first file from its normal path on
pub holds_path-first : (files : TreeFiles) (path key : List ℕ) → components key ≡ normal path → IsStrictlySortedBy path_cmp (keys_of files)
    → holds_path files path ≡ option_map_or (λ file. is_prefix (components key) (components file)) (first_from key files) false
unfolding holds_path
holds_path-first files path key is sorted =
    first_begins (normal path) key is files sorted ∙ ap (λ parts. option_map_or (λ file. is_prefix parts (components file)) (first_from key files) false) (sym is)

-- the first file from a path on is the first of those that a range gives
pub first_from-range : (path : List ℕ) (files found : TreeFiles) → found ≡ entries_between path_cmp (Included path) Unbounded files → first_from path files ≡ option_map (λ file. file.0) (slice_get found 0)
first_from-range path files found e = each_one files ∙ ap (λ found. option_map (λ file. file.0) (slice_get found 0)) (sym e)
  where
    each_one : (files : TreeFiles) → first_from path files ≡ option_map (λ file. file.0) (slice_get (entries_between path_cmp (Included path) Unbounded files) 0)
    each_one [] = refl
    each_one (file ∷ files) =
        elim (is_le (path_cmp path file.0)) as (λ b. cond b (Some file.0) (first_from path files)
        ≡ option_map (λ file. file.0) (slice_get (cond (b && not false) (file ∷ entries_between path_cmp (Included path) Unbounded files) (entries_between path_cmp (Included path) Unbounded files)) 0)) [
          | true ↦ refl
          | false ↦ each_one files
        ]

-- ---- the first path behind a name in a directory

zero_below : (b : ℕ) → nat_cmp 0 (suc b) ≡ Less
zero_below b = cond-true _ _ _ (lt-ltb 0 (suc b) (omega arith))

-- a text is behind a name exactly where it is not before the name with a zero byte at its end
after_name : (name other : List ℕ) → is_lt (text_cmp name other) ≡ is_le (text_cmp (name ++ 0 ∷ []) other)
after_name [] [] = refl
after_name [] (zero ∷ []) = refl
after_name [] (zero ∷ c ∷ other) = refl
after_name [] (suc b ∷ other) = sym (ap (λ r. is_le (ordering_then r (text_cmp [] other))) (zero_below b))
after_name (a ∷ name) [] = refl
after_name (a ∷ name) (b ∷ other) =
    elim (nat_cmp a b) as (λ r. is_lt (ordering_then r (text_cmp name other)) ≡ is_le (ordering_then r (text_cmp (name ++ 0 ∷ []) other))) [
      | Less ↦ refl
      | Equal ↦ after_name name other
      | Greater ↦ refl
    ]

-- a list of one text is not above one that begins with a text exactly where these stand so
one_first : (x y : List ℕ) (rest : List (List ℕ)) → is_le (slice_cmp text_cmp (x ∷ []) (y ∷ rest)) ≡ is_le (text_cmp x y)
one_first x y rest =
    elim (text_cmp x y) as (λ r. is_le (ordering_then r (slice_cmp text_cmp [] rest)) ≡ is_le r) [
      | Less ↦ refl
      | Equal ↦ none_first rest
      | Greater ↦ refl
    ]

-- names behind a directory rise with the paths
names_rise : (directory : List (List ℕ)) (key later name other : List ℕ) → path_cmp key later ≡ Less → entry_name directory (components key) ≡ Some name → entry_name directory (components later) ≡ Some other
    → is_gt (text_cmp name other) ≡ false
names_rise directory key later name other before e f =
    let mine = entry_name_parts directory (components key) name e in
    let theirs = entry_name_parts directory (components later) other f in
    let rest : ordering_then (text_cmp name other) (slice_cmp text_cmp mine.0 theirs.0) ≡ Less =
    sym (slice_cmp-behind nat_list_cmp_total directory (name ∷ mine.0) (other ∷ theirs.0)) ∙ sym (λ i. slice_cmp text_cmp (mine.1 i) (theirs.1 i)) ∙ before in
    (elim (text_cmp name other) as (λ r. ordering_then r (slice_cmp text_cmp mine.0 theirs.0) ≡ Less → is_gt r ≡ false) [
      | Less ↦ λ h. refl
      | Equal ↦ λ h. refl
      | Greater ↦ λ h. cc
    ]) rest

-- a name that a test does not pass is passed over
find-with_name_other : (p : List ℕ → Bool) (name : List ℕ) (names : List (List ℕ)) → p name ≡ false → find p (insert_key text_cmp names name) ≡ find p names
find-with_name_other p name [] other = cond-false _ _ _ other
find-with_name_other p name (x ∷ xs) other =
    elim (text_cmp name x) as (λ r. find p (match_ordering r (name ∷ x ∷ xs) (x ∷ xs) (x ∷ insert_key text_cmp xs name)) ≡ find p (x ∷ xs)) [
      | Less ↦ cond-false _ _ _ other
      | Equal ↦ refl
      | Greater ↦ ap (cond (p x) (Some x)) (find-with_name_other p name xs other)
    ]

-- a name that it passes is found where none is before it
find-with_name_first : (p : List ℕ → Bool) (name : List ℕ) (names : List (List ℕ)) → p name ≡ true → AllByRecursion (λ x. is_gt (text_cmp name x) ≡ false) names → find p (insert_key text_cmp names name) ≡ Some name
find-with_name_first p name [] passes all = cond-true _ _ _ passes
find-with_name_first p name (x ∷ xs) passes all =
    (elim (text_cmp name x) as (λ r. text_cmp name x ≡ r → is_gt r ≡ false → find p (match_ordering r (name ∷ x ∷ xs) (x ∷ xs) (x ∷ insert_key text_cmp xs name)) ≡ Some name) [
      | Less ↦ λ e low. cond-true _ _ _ passes
      | Equal ↦ λ e low. cond-true _ _ _ (ap p (sym (texts_same name x e)) ∙ passes) ∙ ap Some (sym (texts_same name x e))
      | Greater ↦ λ e low. absurd (true≢false low)
    ]) refl all.0

-- a list with nothing in it
none_in : (xs : List (List ℕ)) → AllByRecursion (λ x. ⊥) xs → xs ≡ []
none_in [] all = refl
none_in (x ∷ xs) all = absurd all.0

module _ (directory : List (List ℕ)) (name start : List ℕ) (is : components start ≡ directory ++ (name ++ 0 ∷ []) ∷ []) where
  -- an entry stands from the start on exactly where its name is behind the name
  from_start : (key other : List ℕ) → entry_name directory (components key) ≡ Some other → is_le (path_cmp start key) ≡ is_lt (text_cmp name other)
  from_start key other e =
      let parts = entry_name_parts directory (components key) other e in
      (λ i. is_le (slice_cmp text_cmp (is i) (parts.1 i)))
      ∙ ap is_le (slice_cmp-behind nat_list_cmp_total directory ((name ++ 0 ∷ []) ∷ []) (other ∷ parts.0))
      ∙ one_first (name ++ 0 ∷ []) other parts.0 ∙ sym (after_name name other)

  -- where a path from the start on is no entry, no later one is
  no_entry_more : (key later : List ℕ) → is_le (path_cmp start key) ≡ true → entry_name directory (components key) ≡ None → path_cmp key later ≡ Less → (other : List ℕ) → entry_name directory (components later) ≡ Some other → ⊥
  no_entry_more key later from none before other e =
      let parts = entry_name_parts directory (components later) other e in
      let at : is_le (slice_cmp text_cmp (directory ++ (name ++ 0 ∷ []) ∷ []) (components key)) ≡ true = ap (λ xs. is_le (slice_cmp text_cmp xs (components key))) (sym is) ∙ from in
      let low : is_gt (slice_cmp text_cmp directory (components key)) ≡ false =
      front_not_above nat_list_cmp_total directory ((name ++ 0 ∷ []) ∷ []) (components key) (not_above_from_le _ at) in
      let high : is_gt (slice_cmp text_cmp (components key) (directory ++ other ∷ parts.0)) ≡ false =
      ap (λ xs. is_gt (slice_cmp text_cmp (components key) xs)) (sym parts.1) ∙ ap is_gt before in
      by (drop (length directory) (components key)) (begins_between nat_list_cmp_total texts_same directory (components key) (other ∷ parts.0) low high) at
    where
      by : (rest : List (List ℕ)) → components key ≡ directory ++ rest → is_le (slice_cmp text_cmp (directory ++ (name ++ 0 ∷ []) ∷ []) (components key)) ≡ true → ⊥
      by [] whole at = false≢true (sym (ap is_le (slice_cmp-behind nat_list_cmp_total directory ((name ++ 0 ∷ []) ∷ []) [])) ∙ ap (λ xs. is_le (slice_cmp text_cmp (directory ++ (name ++ 0 ∷ []) ∷ []) xs)) (sym whole) ∙ at)
      by (x ∷ rest) whole at =
          let there : None ≡ Some x = sym none ∙ ap (entry_name directory) whole ∙ entry_name-behind directory rest x in
          cc

  -- so the first path from the start on has the first name behind the name, if it is an entry
  pub first_behind : (files : TreeFiles) → IsStrictlySortedBy path_cmp (keys_of files)
      → first_after name (entry_names files directory) ≡ option_and_then (λ key. entry_name directory (components key)) (first_from start files)
  unfolding IsStrictlySortedBy with_name
  first_behind [] sorted = unfold entry_names in refl
  first_behind (file ∷ files) sorted = ap (first_after name) (entry_names-cons file files directory) ∙ by (is_le (path_cmp start file.0)) refl (first_behind files sorted.1)
    where
      here : (found : Option (List ℕ)) → entry_name directory (components file.0) ≡ found → is_le (path_cmp start file.0) ≡ true
          → first_after name (with_name found (entry_names files directory)) ≡ found
      here None e from =
          ap (first_after name) (none_in _ (entry_names-all (λ x. ⊥) files directory (each (λ later before. no_entry_more file.0 later from e before) (keys_of files) sorted.0)))
      here (Some other) e from =
          find-with_name_first _ other _ (sym (from_start file.0 other e) ∙ from)
          (entry_names-all (λ x. is_gt (text_cmp other x) ≡ false) files directory (each (λ later before x f. names_rise directory file.0 later other x before e f) (keys_of files) sorted.0))

      past : (found : Option (List ℕ)) → entry_name directory (components file.0) ≡ found → is_le (path_cmp start file.0) ≡ false
          → first_after name (with_name found (entry_names files directory)) ≡ first_after name (entry_names files directory)
      past None e before = refl
      past (Some other) e before = find-with_name_other _ other _ (sym (from_start file.0 other e) ∙ before)

      by : (b : Bool) → is_le (path_cmp start file.0) ≡ b
          → first_after name (entry_names files directory) ≡ option_and_then (λ key. entry_name directory (components key)) (first_from start files)
          → first_after name (with_name (entry_name directory (components file.0)) (entry_names files directory)) ≡ option_and_then (λ key. entry_name directory (components key)) (cond b (Some file.0) (first_from start files))
      by true from rest = here (entry_name directory (components file.0)) refl from
      by false before rest = past (entry_name directory (components file.0)) refl before ∙ rest
