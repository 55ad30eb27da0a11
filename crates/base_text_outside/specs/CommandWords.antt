-- Words of a command that stand where something is set.
use Rattle.std.specs.Prelude.{ℕ, List, [], ◌∷◌, Bool, if◌then◌else◌, Option, Some, None}

-- a word that stands where its flag is set
abbrev pub flag_word : Bool → List ℕ → List (List ℕ)
flag_word is_set word = if is_set then word ∷ [] else []

-- a word and its value, where that is set
abbrev pub option_words : List ℕ → Option (List ℕ) → List (List ℕ)
option_words word None = []
option_words word (Some value) = word ∷ value ∷ []
