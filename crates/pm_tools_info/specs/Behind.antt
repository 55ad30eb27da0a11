-- What follows a prefix of a text, such as the name of a tool or of a field.
use Rattle.std.specs.Prelude.{ℕ, if◌then◌else◌, nat_eq, List, drop, length, Option, Some, None}
use Rattle.std.specs.List.{starts_with}

-- the text behind a front, where it has that front
abbrev pub behind : List ℕ → List ℕ → Option (List ℕ)
behind front text = if starts_with nat_eq text front then Some (drop (length front) text) else None
