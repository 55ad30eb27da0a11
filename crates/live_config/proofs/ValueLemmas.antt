-- What the values of options say, case by case.
use Rattle.std.proofs.Common.{◌≡◌, ◌<◌, ℕ, List, true, false, Some, None, length, get_or, inl, inr, sym, ap, ◌∙◌, arith}
use Rattle.std.proofs.lemmas.Bool.{cases_eq, cond-false, cond-true, eq-eqb, ne_eqb}
use Rattle.std.proofs.lemmas.Bool.Decides.{nat_tests}
use Rattle.std.proofs.lemmas.List.Folds.{list_any_at}
use Rattle.std.specs.List.{after_first, before_first, list_any, position_or_len, slice_split}
use Rattle.base_text_outside.specs.Cfg.{is_equals}
use Rattle.base_text_paths.specs.Paths.{components, is_absolute, path_text}
use Rattle.live_config.specs.Values.{absolute_option_path, feature_names, is_comma, is_empty_text, variable_of}
use Rattle.base_values.proofs.Basics.{list_any-position}

-- the names are those between commas
pub feature_names-are : (text : List ℕ) (names : List (List ℕ)) → names ≡ slice_split is_comma text → list_any is_empty_text names ≡ false
    → feature_names text ≡ Some names
unfolding feature_names
feature_names-are text names are some =
    cond-false _ _ _ (ap (list_any is_empty_text) (sym are) ∙ some) ∙ ap Some (sym are)

-- there are none where one of them is empty
pub feature_names-none : (text name : List ℕ) (place : ℕ) → place < length (slice_split is_comma text) → name ≡ get_or (slice_split is_comma text) place name
    → length name ≡ 0 → feature_names text ≡ None
unfolding feature_names
feature_names-none text name place within is empty =
    let here : is_empty_text (get_or (slice_split is_comma text) place name) ≡ true = eq-eqb _ 0 (ap length (sym is) ∙ empty) in
    cond-true _ _ _ (list_any_at is_empty_text (slice_split is_comma text) place name within here)

-- an absolute text gives its clean path
pub absolute_path-is : (text path : List ℕ) → ((get_or text 0 0 ≡ 47 → ⊥) → ⊥) → path ≡ path_text (components text) → absolute_option_path text ≡ Some path
unfolding absolute_option_path
absolute_path-is text path absolute is =
    let begins : is_absolute text ≡ true =
    elim (cases_eq (get_or text 0 0) 47) [ inl same ↦ eq-eqb (get_or text 0 0) 47 same | inr other ↦ absurd (absolute other) ] in
    cond-true _ _ _ begins ∙ ap Some (sym is)

-- another one gives none
pub absolute_path-none : (text : List ℕ) → (get_or text 0 0 ≡ 47 → ⊥) → absolute_option_path text ≡ None
unfolding absolute_option_path
absolute_path-none text other = cond-false _ _ _ (ne_eqb (get_or text 0 0) 47 other)

-- a text without `=` is no variable
pub variable_of-uncut : (text : List ℕ) → position_or_len is_equals text ≡ length text → variable_of text ≡ None
unfolding variable_of
variable_of-uncut text none = rw list_any-position (grind (arith, nat_tests))

-- nor is one that begins with it
pub variable_of-nameless : (text name : List ℕ) → name ≡ before_first is_equals text → length name ≡ 0 → variable_of text ≡ None
unfolding variable_of
variable_of-nameless text name front empty =
    let none : length (before_first is_equals text) ≡ 0 = ap length (sym front) ∙ empty in
    rw none (grind (arith, nat_tests))

-- another one is cut there
pub variable_of-cut : (text name value : List ℕ) → position_or_len is_equals text < length text → name ≡ before_first is_equals text
    → value ≡ after_first is_equals text → 0 < length name → variable_of text ≡ Some (name, value)
unfolding variable_of
variable_of-cut text name value within front back some =
    let named : 0 < length (before_first is_equals text) = rw (sym front) some in
    rw (front, back) (rw list_any-position (grind (arith, nat_tests)))
