-- The lines of a printed configuration: `KEYS = VALUE REST`, `KEYS = [`, `VALUE REST` and `] REST`, where
-- REST may name the file that a value comes from.
use Rattle.std.specs.Prelude.{ℕ, Bool, false, not, ◌||◌, ◌&&◌, ◌==◌, if◌then◌else◌, nat_eq, nat_lt, nat_le, List, [], ◌∷◌, length, map, slice_index, Option, Some, None}
use Rattle.std.specs.Char.{is_whitespace}
use Rattle.std.specs.List.{list_all, starts_with}
use Rattle.std.specs.Option.{option_and_then, option_map, option_map_or, unwrap_or}
use Rattle.std.specs.Str.{chars, encode_utf8_all, trim, trim_start}
use Rattle.toml.specs.Data.{as_str}
use Rattle.toml.specs.Parse.{parse_value}
use Rattle.base_text_paths.specs.Paths.{components, is_absolute, parent_text, path_text}
use Rattle.pm_tools_ask.specs.declared.quotes.Quotes.TheVariants.{Outside, Basic, Literal}
use Rattle.pm_tools_ask.specs.Quotes.{after_quotes, cut_outside, parts_outside}

-- a byte of a bare key: a letter, a digit, `-` or `_`
unfoldable pub is_bare_byte : ℕ → Bool
is_bare_byte b =
    (nat_le 97 b && nat_le b 122) || (nat_le 65 b && nat_le b 90) || (nat_le 48 b && nat_le b 57) || b == 45
    || b == 95

-- a key without quotes: at least one byte, and each a bare one
unfoldable pub is_bare : List ℕ → Bool
is_bare part = list_all is_bare_byte part && not (length part == 0)

-- the text that TOML reads in quotes
unfoldable pub quoted_text : List ℕ → Option (List ℕ)
quoted_text part = option_and_then as_str (parse_value part)

-- three quotes of either kind at the front of a part of KEYS, as a text of several lines would begin, which
-- is no key
unfoldable pub begins_multiline : List ℕ → Bool
begins_multiline part =
    starts_with nat_eq part (34 ∷ 34 ∷ 34 ∷ []) || starts_with nat_eq part (39 ∷ 39 ∷ 39 ∷ [])

-- the key that a part of KEYS writes: a bare one as it stands, and one in quotes as TOML reads that text
unfoldable pub key_of : List ℕ → Option (List ℕ)
key_of part =
    if begins_multiline part then None
    else if slice_index part 0 == 34 || slice_index part 0 == 39 then quoted_text part
    else if is_bare part then Some part else None

-- all values, where each is there
abbrev pub all_of : {A : Type 0} → List (Option A) → Option (List A)
all_of [] = Some []
all_of (None ∷ xs) = None
all_of (Some x ∷ xs) = option_map (λ ys. x ∷ ys) (all_of xs)

-- the keys that KEYS writes, with dots between them
unfoldable pub keys_of : List ℕ → Option (List (List ℕ))
keys_of text = all_of (map key_of (parts_outside 46 Outside text))

-- a character that ends a VALUE without quotes
unfoldable pub ends_run : ℕ → Bool
ends_run c = is_whitespace c || c == 44 || c == 35

-- the characters from the first on that ends a VALUE without quotes
abbrev pub drop_run : List ℕ → List ℕ
drop_run [] = []
drop_run (c ∷ cs) = if ends_run c then c ∷ cs else drop_run cs

-- what follows a VALUE without quotes
unfoldable pub after_run : List ℕ → List ℕ
after_run text = encode_utf8_all (drop_run (chars text))

-- a text without the byte at its front, where that is `b`
abbrev pub behind_byte : ℕ → List ℕ → Option (List ℕ)
behind_byte b [] = None
behind_byte b (x ∷ xs) = if x == b then Some xs else None

-- the REST behind a run of characters, of which there is at least one
abbrev pub run_rest : List ℕ → Option (List ℕ)
run_rest text = if nat_lt (length (after_run text)) (length text) then Some (after_run text) else None

-- the REST behind a text in quotes of either kind, where the text begins with one, or else behind a run
abbrev pub value_rest : Option (List ℕ) → Option (List ℕ) → List ℕ → Option (List ℕ)
value_rest (Some quoted) other text = after_quotes Basic quoted
value_rest None (Some quoted) text = after_quotes Literal quoted
value_rest None None text = run_rest text

-- the REST behind the VALUE at the front of a text, where there is one: a text in quotes, or a run of other
-- characters
unfoldable pub after_value : List ℕ → Option (List ℕ)
after_value text = value_rest (behind_byte 34 text) (behind_byte 39 text) text

-- REST without the comma at its front and the white space behind that
unfoldable pub behind_comma : List ℕ → List ℕ
behind_comma rest = trim_start (unwrap_or (behind_byte 44 rest) rest)

-- the directory two levels above a path, where the text is an absolute one
unfoldable pub root_above : List ℕ → Option (List ℕ)
root_above path =
    if is_absolute path then option_and_then parent_text (parent_text (path_text (components path))) else None

-- what relative values are relative to by the comment in REST: the directory two levels above the file that
-- it names. The comments for a variable of the environment and for a word of the command line name no
-- absolute path
unfoldable pub root_by_comment : List ℕ → Option (List ℕ)
root_by_comment rest =
    option_and_then (λ comment. root_above (trim comment)) (behind_byte 35 (behind_comma rest))

-- what stands before and behind the first `=` of a line outside of quotes, without white space
abbrev pub sides_of : List ℕ → Option (List ℕ × List ℕ)
sides_of line = option_map (λ sides. (trim sides.0, trim_start sides.1)) (cut_outside 61 Outside line)

-- the text is the `[` of an open list, with nothing but white space behind it
unfoldable pub opens_list : List ℕ → Bool
opens_list text = option_map_or (λ rest. length (trim_start rest) == 0) (behind_byte 91 text) false
