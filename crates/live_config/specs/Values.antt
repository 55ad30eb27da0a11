-- What the values of options say: numbers, names of features, paths and variables.
use Rattle.std.specs.Prelude.{ℕ, Bool, ◌&&◌, not, nat_le, List, [], ◌∷◌, ◌++◌, Option, Some, None, decimal, length, ◌==◌, if◌then◌else◌}
use Rattle.std.specs.List.{after_first, before_first, list_any, slice_split}
use Rattle.std.specs.Borrow.{Bor}
use Rattle.std.specs.Option.{option_map}
use Rattle.std.specs.Str.{bytes_eq}
use Rattle.std.specs.Str.Parse.{digits_value}
use Rattle.base_text_outside.specs.Cfg.{is_equals}
use Rattle.base_text_paths.specs.Paths.{if_absolute}
use Rattle.base_values.specs.ByText.{with_value}
use Rattle.base_text.specs.Tools.{Variables}

-- the number up to a greatest one whose decimal text this is, so that it has no sign and no leading zero
unfoldable pub number_up_to : ℕ → List ℕ → Option ℕ
number_up_to most text =
    if bytes_eq text (decimal (digits_value 10 text)) && nat_le (digits_value 10 text) most
    then Some (digits_value 10 text) else None

-- a comma
abbrev pub is_comma : ℕ → Bool
is_comma byte = byte == 44

-- a text of no bytes
abbrev pub is_empty_text : List ℕ → Bool
is_empty_text text = length text == 0

-- the names that single commas join, of which none is empty
unfoldable pub feature_names : List ℕ → Option (List (List ℕ))
feature_names text =
    if list_any is_empty_text (slice_split is_comma text) then None else Some (slice_split is_comma text)

-- the clean path of a text that begins with `/`
unfoldable pub absolute_option_path : List ℕ → Option (List ℕ)
absolute_option_path text = if_absolute text (λ path. Some path) None

-- these paths and one more
abbrev pub with_option_path : List (List ℕ) → List ℕ → Option (List (List ℕ))
with_option_path paths text = option_map (λ path. paths ++ path ∷ []) (absolute_option_path text)

-- a name and a value, cut at the first `=`; the name is not empty
unfoldable pub variable_of : List ℕ → Option (List ℕ × List ℕ)
variable_of text =
    if list_any is_equals text && not (is_empty_text (before_first is_equals text))
    then Some (before_first is_equals text, after_first is_equals text) else None

-- the variables of commands with one more, in place of an earlier one of its name
abbrev pub with_extra : Variables → List ℕ → Option Variables
with_extra variables text = option_map (λ pair. with_value pair.0 (Some pair.1) variables) (variable_of text)

-- the variables of the process with one more, in place of an earlier one of its name
abbrev pub with_process : List (List ℕ × List ℕ) → List ℕ → Option (List (List ℕ × List ℕ))
with_process variables text = option_map (λ pair. with_value pair.0 pair.1 variables) (variable_of text)

-- a name and a value, as their texts
abbrev pub pair_texts : Option (Bor (List ℕ) × Bor (List ℕ)) → Option (List ℕ × List ℕ)
pair_texts pair = option_map (λ found. (found.0.now, found.1.now)) pair
