-- The version that a tool prints of itself: the word behind the tool's name, where Cargo's `semver` reads it.
use Rattle.std.specs.Prelude.{ℕ, if◌then◌else◌, List, [], ◌∷◌, Option}
use Rattle.std.specs.Char.{is_whitespace}
use Rattle.std.specs.Option.{option_and_then}
use Rattle.std.specs.Result.{result_ok}
use Rattle.std.specs.Str.{chars, encode_utf8_all, skip_leading_whitespace}
use Rattle.base_values.specs.Version.{Parts}
use Rattle.semver.specs.Parse.{version_parts}
use Rattle.pm_tools_info.specs.Behind.{behind}

-- the characters before the first white space
abbrev pub before_whitespace : List ℕ → List ℕ
before_whitespace [] = []
before_whitespace (c ∷ cs) = if is_whitespace c then [] else c ∷ before_whitespace cs

-- the first word of a text, which is empty where the text has none
unfoldable pub first_word : List ℕ → List ℕ
first_word text = encode_utf8_all (before_whitespace (skip_leading_whitespace (chars text)))

-- the version that a word is, where `semver` reads it as one
abbrev pub version_of_word : List ℕ → Option Parts
version_of_word word = result_ok (version_parts word)

-- the version whose word stands first behind a front of the text
abbrev pub version_behind : List ℕ → List ℕ → Option Parts
version_behind front text = option_and_then (λ rest. version_of_word (first_word rest)) (behind front text)
