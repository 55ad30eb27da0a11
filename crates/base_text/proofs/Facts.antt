-- Facts of trees that a wrong definition would break.
use Rattle.std.proofs.Common.{◌≡◌, ℕ, Bool, true, false, cond, ◌&&◌, ◌||◌, List, [], ◌∷◌, Some, None, refl, sym, ap, ◌∙◌, append-nil}
use Rattle.std.specs.Prelude.{bytes_eq, length, nat_lt}
use Rattle.std.specs.Cmp.Lexicographic.{bytes_decides, nat_list_cmp_total, pointwise, pointwise_decides}
use Rattle.std.specs.List.{filter_map, list_any}
use Rattle.base_values.proofs.SortedLists.{has, has-fold}
use Rattle.base_values.specs.ByText.{text_cmp}
use Rattle.base_text_paths.specs.Paths.{components, is_prefix, normal}
use Rattle.base_text.specs.Tree.{TreeFiles, entry_name, entry_names, file_text, holds_path, is_above, names_in}
use Rattle.base_text.proofs.Fronts.{is_prefix-behind}
use Rattle.base_values.proofs.Basics.{or_second}

-- a file that is read is held
pub holds_path-file_text : (files : TreeFiles) (path text : List ℕ) → file_text files path ≡ Some text → holds_path files path ≡ true
unfolding file_text holds_path
holds_path-file_text [] path text e = cc
holds_path-file_text (file ∷ files) path text e = by (pointwise bytes_eq (normal path) (components file.0)) refl e (holds_path-file_text files path text)
  where
    others : Bool
    others = list_any (λ file. is_prefix (normal path) (components file.0)) files

    by : (b : Bool) → pointwise bytes_eq (normal path) (components file.0) ≡ b → cond b (Some file.1) (file_text files path) ≡ Some text → (file_text files path ≡ Some text → others ≡ true)
        → (is_prefix (normal path) (components file.0) || others) ≡ true
    by true same found rest =
        let parts : normal path ≡ components file.0 = (pointwise_decides bytes_decides (normal path) (components file.0)).0 same in
        ap (λ b. b || others) (ap (is_prefix (normal path)) (sym parts ∙ sym (append-nil (normal path))) ∙ is_prefix-behind (normal path) [])
    by false other found rest = or_second _ others (rest found)

-- a directory that is above a file is held
is_prefix-above : (directory file : List (List ℕ)) → is_above directory file ≡ true → is_prefix directory file ≡ true
unfolding is_above
is_prefix-above directory file e =
    (elim (is_prefix directory file) as (λ b. (b && nat_lt (length directory) (length file)) ≡ true → b ≡ true) [
      | true ↦ λ h. refl
      | false ↦ λ h. h
    ]) e

held_above : (files : TreeFiles) (directory : List (List ℕ)) → list_any (λ file. is_above directory (components file.0)) files ≡ true → list_any (λ file. is_prefix directory (components file.0)) files ≡ true
held_above [] directory e = e
held_above (file ∷ files) directory e = by (is_above directory (components file.0)) refl e (held_above files directory)
  where
    others : Bool
    others = list_any (λ file. is_prefix directory (components file.0)) files

    by : (b : Bool) → is_above directory (components file.0) ≡ b → (b || list_any (λ file. is_above directory (components file.0)) files) ≡ true
        → (list_any (λ file. is_above directory (components file.0)) files ≡ true → others ≡ true) → (is_prefix directory (components file.0) || others) ≡ true
    by true above found rest = ap (λ b. b || others) (is_prefix-above directory (components file.0) above)
    by false other found rest = or_second _ others (rest found)

pub holds_path-names_in : (files : TreeFiles) (path : List ℕ) (names : List (List ℕ)) → names_in files path ≡ Some names → holds_path files path ≡ true
unfolding names_in holds_path
holds_path-names_in files path names e = held_above files (normal path) (by (list_any (λ file. is_above (normal path) (components file.0)) files) e)
  where
    by : (b : Bool) → cond b (Some (entry_names files (normal path))) None ≡ Some names → b ≡ true
    by true found = refl
    by false found = cc

-- the names of a directory's entries are those right behind it in files
pub has-entry_names : (name : List ℕ) (files : TreeFiles) (directory : List (List ℕ)) → has text_cmp name (entry_names files directory) ≡ has text_cmp name (filter_map (λ file. entry_name directory (components file.0)) files)
unfolding entry_names
has-entry_names name files directory = has-fold nat_list_cmp_total name [] (filter_map (λ file. entry_name directory (components file.0)) files)
