-- The search for a manifest, one directory, one entry and one path at a time.
use Rattle.std.proofs.Common.{◌≡◌, ℕ, zero, suc, ◌+◌, ◌-◌, ◌<◌, ◌≤◌, Bool, true, false, cond, List, [], ◌∷◌, ◌++◌, Option, Some, None, IfSome, ap, append-nil, arith, get_or, length, length-append, lit<, map, refl, sym, take, true≢false, ◌∙◌}
use Rattle.std.proofs.lemmas.Bool.{cond-false, cond-true}
use Rattle.std.proofs.lemmas.Grind.{flat_map-append}
use Rattle.std.proofs.lemmas.List.{length-take, length-take-le, take-take, take_all, take_more}
use Rattle.std.proofs.lemmas.List.Elements.{filter_map-append}
use Rattle.std.proofs.lemmas.Option.{cond_some, none-some}
use Rattle.std.specs.List.{filter_map, find, flat_map}
use Rattle.std.specs.Option.{option_map, option_map_or}
use Rattle.std.specs.Prelude.{bytes_eq, codes, Err, Ok}
use Rattle.base_text.specs.Tree.{TreeFiles, holds_path}
use Rattle.base_text_paths.proofs.Parents.{file_name-root, parent_text-none, parent_text-some}
use Rattle.base_text_paths.specs.AbsPath.{abs_text}
use Rattle.base_text_paths.specs.ManifestPath.{HasParent}
use Rattle.base_text_paths.specs.Paths.{components, components_with_tail, file_name, is_absolute, parent_text, path_text, without_last, IsClean}
use Rattle.base_text_paths.specs.declared.paths.abs_path.AbsPath.{AbsPath}
use Rattle.pm_tools_ask.specs.Manifest.{has_name}
use Rattle.pm_tools_ask.specs.ManifestDiscovery.{entry_path, fronts, fronts_within, nearest_entry, only_manifest}
use Rattle.pm_tools_ask.specs.Sysroot.{held_path}
use Rattle.pm_tools_ask.specs.declared.discover_error.DiscoverError.TheVariants.{NoProject, Several}
use Rattle.pm_tools_ask.specs.declared.project_manifest.ProjectManifest.{ProjectManifest}

-- ---- fronts

-- the fronts of a front are those of the whole
fronts_cut : (parts : List (List ℕ)) (n m : ℕ) → m ≤ n → fronts_within (take n parts) m ≡ fronts_within parts m
unfolding fronts_within
fronts_cut parts n zero within = refl
fronts_cut parts n (suc m) within =
    let below : m ≤ n = omega (arith, within) in
    ap (λ (front : List (List ℕ)). front ∷ fronts_within (take n parts) m) (take-take (suc m) n parts within)
    ∙ ap (λ (more : List (List (List ℕ))). take (suc m) parts ∷ more) (fronts_cut parts n m below)

-- the first front is the whole, and the others are those without the last component
fronts_more : (parts : List (List ℕ)) (n : ℕ) → length parts ≡ suc n → fronts parts ≡ parts ∷ fronts (take n parts)
unfolding fronts_within
fronts_more parts n long =
    let whole : take (suc n) parts ≡ parts = take_all (suc n) parts (omega (arith, long)) in
    let short : length (take n parts) ≡ n = length-take-le n parts (omega (arith, long)) in
    let others : fronts_within parts n ≡ fronts (take n parts) = sym (fronts_cut parts n n (omega arith)) ∙ ap (fronts_within (take n parts)) (sym short) in
    ap (fronts_within parts) long
    ∙ ap (λ (front : List (List ℕ)). front ∷ fronts_within parts n) whole
    ∙ ap (λ (more : List (List (List ℕ))). parts ∷ more) others

-- with no component there is one front
fronts_none : (parts : List (List ℕ)) → length parts ≡ 0 → fronts parts ≡ [] ∷ []
unfolding fronts_within
fronts_none parts none = ap (fronts_within parts) none

-- ---- components and parents

no_items : (parts : List (List ℕ)) → length parts ≡ 0 → parts ≡ []
no_items [] none = refl
no_items (part ∷ parts) none = absurd (omega arith)

-- a path without a parent has no component
without_parent : (path : List ℕ) → parent_text path ≡ None → length (components path) ≡ 0
without_parent path none = by (components path) refl
  where
    by : (parts : List (List ℕ)) → components path ≡ parts → length (components path) ≡ 0
    by [] empty = ap length empty
    by (part ∷ parts) are =
        let some : 0 < length (components path) = omega (arith, ap length are) in
        absurd (none-some (path_text (without_last (components path))) (sym none ∙ parent_text-some path (path_text (without_last (components path))) some refl))

-- and one with a parent has one
with_parent : (path parent : List ℕ) → Some parent ≡ parent_text path → 0 < length (components path)
with_parent path parent is = by (components path) refl
  where
    by : (parts : List (List ℕ)) → components path ≡ parts → 0 < length (components path)
    by [] empty = absurd (none-some parent (sym (parent_text-none path empty) ∙ sym is))
    by (part ∷ parts) are = omega (arith, ap length are)

-- how far it is up to the root
abbrev pub height_left : Option AbsPath → ℕ
height_left above = option_map_or (λ directory. length (components (abs_text directory)) + 1) above 0

-- the parent is nearer to it
pub up_smaller : (above parent : Option AbsPath) (directory : AbsPath) → above ≡ Some directory → option_map abs_text parent ≡ parent_text (abs_text directory)
    → IfSome parent (λ p. components (abs_text p) ≡ without_last (components (abs_text directory))) → height_left parent < height_left above
up_smaller above None directory is told parts = omega (arith, ap height_left is)
up_smaller above (Some p) directory is told parts =
    let some = with_parent (abs_text directory) (abs_text p) told in
    omega (arith, some, ap height_left is, ap length parts, length-take (length (components (abs_text directory)) - 1) (components (abs_text directory)))

-- ---- the nearest entry

module _ (files : TreeFiles) (name : List ℕ) where
  -- the search in the directories of some fronts
  abbrev found_in : List (List (List ℕ)) → Option (List ℕ)
  found_in fs = find (holds_path files) (map (entry_path name) (map path_text fs))

  -- the search where a directory is left
  abbrev pub nearest_left : Option AbsPath → Option (List ℕ)
  nearest_left above = option_map_or (λ directory. nearest_entry files name (abs_text directory)) above None

  -- the entry of a path, or else of one of its fronts
  abbrev entry_or : List ℕ → Option (List ℕ) → Option (List ℕ)
  entry_or path others = cond (holds_path files (entry_path name path)) (Some (entry_path name path)) others

  -- the search from a path that has components
  nearest_more : (path : List ℕ) → IsClean path → 0 < length (components path) → nearest_entry files name path ≡ entry_or path (found_in (fronts (without_last (components path))))
  unfolding nearest_entry
  nearest_more path clean some =
      ap found_in (fronts_more (components path) (length (components path) - 1) (omega arith))
      ∙ ap (λ (front : List ℕ). entry_or front (found_in (fronts (without_last (components path))))) (sym clean)

  -- the search from `/`
  nearest_last : (path : List ℕ) → IsClean path → length (components path) ≡ 0 → nearest_entry files name path ≡ entry_or path None
  unfolding nearest_entry
  nearest_last path clean none =
      ap found_in (fronts_none (components path) none)
      ∙ ap (λ (front : List ℕ). entry_or front None) (sym (clean ∙ ap path_text (no_items (components path) none)))

  -- a path that is not held is passed over
  not_held : (b : Bool) (path : List ℕ) → None ≡ cond b (Some path) None → b ≡ false
  not_held true path is = absurd (none-some path is)
  not_held false path is = refl

  -- an entry that is held is the nearest
  pub found_here : (path found : List ℕ) → IsClean path → Some found ≡ held_path files (entry_path name path) → Some found ≡ nearest_entry files name path
  found_here path found clean is = by (length (components path)) refl
    where
      held : (holds_path files (entry_path name path) ≡ true) × (entry_path name path ≡ found)
      held = cond_some (holds_path files (entry_path name path)) (entry_path name path) found (sym is)

      by : (n : ℕ) → length (components path) ≡ n → Some found ≡ nearest_entry files name path
      by zero none = sym (nearest_last path clean none ∙ cond-true _ _ _ held.0 ∙ ap Some held.1)
      by (suc n) long = sym (nearest_more path clean (omega (arith, long)) ∙ cond-true _ _ _ held.0 ∙ ap Some held.1)

  -- past an entry that is not held the search goes on in the parent
  pub passed : (path : List ℕ) (parent : Option AbsPath) → IsClean path → None ≡ held_path files (entry_path name path) → option_map abs_text parent ≡ parent_text path
      → IfSome parent (λ p. components (abs_text p) ≡ without_last (components path)) → nearest_left parent ≡ nearest_entry files name path
  unfolding nearest_entry
  passed path None clean is told parts =
      let other = not_held (holds_path files (entry_path name path)) (entry_path name path) is in
      sym (nearest_last path clean (without_parent path (sym told)) ∙ cond-false _ _ _ other)
  passed path (Some p) clean is told parts =
      let other = not_held (holds_path files (entry_path name path)) (entry_path name path) is in
      ap (λ (front : List (List ℕ)). found_in (fronts front)) parts
      ∙ sym (nearest_more path clean (with_parent path (abs_text p) told) ∙ cond-false _ _ _ other)

-- ---- paths of manifests

nameless : (name path : List ℕ) → file_name path ≡ None → has_name name path ≡ false
unfolding has_name
nameless name path none = ap (λ (o : Option (List ℕ)). option_map_or (λ file. bytes_eq file name) o false) none

-- a path that has a name lies in a directory
pub named_has_parent : (name path file : List ℕ) → has_name name path ≡ true → file ≡ path → HasParent file
named_has_parent name path file named is = by (components path) refl
  where
    by : (parts : List (List ℕ)) → components path ≡ parts → HasParent file
    by [] empty = absurd (true≢false (sym named ∙ nameless name path (file_name-root path empty)))
    by (part ∷ parts) are = omega (arith, ap length (ap components is ∙ are))

some_behind : (b : Bool) (front back : List (List ℕ)) → 0 < length back → 0 < length (cond b back (front ++ back))
some_behind true front back some = some
some_behind false front back some = omega (arith, some, length-append front back)

-- so does an entry of a directory
pub entry_has_parent : (name directory path : List ℕ) → 0 < length (components name) → components path ≡ components_with_tail directory name → HasParent path
unfolding components_with_tail
entry_has_parent name directory path some is =
    omega (arith, ap length is, some_behind (is_absolute name) (components directory) (components name) some)

-- ---- the names have components

pub json_name_counts : 0 < length (components (codes "rust-project.json"))
unfolding components
json_name_counts = lit< tt

pub hidden_name_counts : 0 < length (components (codes ".rust-project.json"))
unfolding components
hidden_name_counts = lit< tt

pub table_name_counts : 0 < length (components (codes "Cargo.toml"))
unfolding components
table_name_counts = lit< tt

-- ---- one more entry

-- the item at a place stands behind those before it
next_item : {X : Type 0} (xs : List X) (i : ℕ) (x : X) → i < length xs → x ≡ get_or xs i x → take (i + 1) xs ≡ take i xs ++ x ∷ []
next_item xs i x within is = take_more xs i x within ∙ ap (λ z. take i xs ++ z ∷ []) (sym is)

module _ {X Y : Type 0} (h : X → Option Y) (xs : List X) (x : X) where
  filter_map-some : (y : Y) → h x ≡ Some y → filter_map h (xs ++ x ∷ []) ≡ filter_map h xs ++ y ∷ []
  filter_map-some y gives = filter_map-append h xs (x ∷ []) ∙ ap (λ l. filter_map h xs ++ l) (rw gives refl)

  filter_map-none : h x ≡ None → filter_map h (xs ++ x ∷ []) ≡ filter_map h xs
  filter_map-none gives =
      filter_map-append h xs (x ∷ []) ∙ ap (λ l. filter_map h xs ++ l) (rw gives refl) ∙ append-nil (filter_map h xs)

module _ {X Y : Type 0} (h : X → Option Y) (xs : List X) (i : ℕ) (x : X) (within : i < length xs) (is : x ≡ get_or xs i x) where
  -- the entry at a place gives something
  pub taken_some : (y : Y) (ys more : List Y) → h x ≡ Some y → ys ≡ filter_map h (take i xs) → more ≡ ys ++ y ∷ [] → more ≡ filter_map h (take (i + 1) xs)
  taken_some y ys more gives so_far pushed =
      pushed ∙ ap (λ l. l ++ y ∷ []) so_far ∙ sym (ap (filter_map h) (next_item xs i x within is) ∙ filter_map-some h (take i xs) x y gives)

  -- or nothing
  pub taken_none : (ys : List Y) → h x ≡ None → ys ≡ filter_map h (take i xs) → ys ≡ filter_map h (take (i + 1) xs)
  taken_none ys gives so_far = so_far ∙ sym (ap (filter_map h) (next_item xs i x within is) ∙ filter_map-none h (take i xs) x gives)

-- ---- one more path

-- what one more item gives stands behind what the items before it gave
pub flat_more : {X Y : Type 0} (f : X → List Y) (xs : List X) (i : ℕ) (x : X) → i < length xs → x ≡ get_or xs i x
    → (ys more : List Y) → ys ≡ flat_map f (take i xs) → more ≡ ys ++ f x → more ≡ flat_map f (take (i + 1) xs)
flat_more f xs i x within is ys more so_far pushed =
    pushed ∙ ap (λ l. l ++ f x) so_far
    ∙ sym (ap (flat_map f) (next_item xs i x within is) ∙ flat_map-append f (take i xs) (x ∷ []) ∙ ap (λ l. flat_map f (take i xs) ++ l) (append-nil (f x)))

-- ---- the only manifest

-- the last manifest, where none is left before it
pub only_last : (found rest : List ProjectManifest) (manifest : ProjectManifest) → found ≡ rest ++ manifest ∷ [] → length rest ≡ 0 → only_manifest found ≡ Ok manifest
only_last found [] manifest is none = ap only_manifest is
only_last found (other ∷ rest) manifest is none = absurd (omega arith)

-- and where one is left
pub one_of_several : (found rest : List ProjectManifest) (manifest : ProjectManifest) → found ≡ rest ++ manifest ∷ [] → (length rest ≡ 0 → ⊥) → only_manifest found ≡ Err Several
one_of_several found [] manifest is some = absurd (some refl)
one_of_several found (other ∷ []) manifest is some = ap only_manifest is
one_of_several found (other ∷ next ∷ rest) manifest is some = ap only_manifest is

-- no manifest
pub none_left : (found : List ProjectManifest) → length found ≡ 0 → only_manifest found ≡ Err NoProject
none_left [] none = refl
none_left (manifest ∷ found) none = absurd (omega arith)
