-- A file name is cut at its last dot into a stem and an extension, unless that dot comes first.
use Rattle.std.specs.Prelude.{ℕ, Bool, ◌==◌, if◌then◌else◌, List, length, nat_lt, Option, Some, None}
use Rattle.std.specs.List.{before_last, after_last}

-- the byte before an extension
abbrev pub is_dot : ℕ → Bool
is_dot b = b == 46

-- something stands before the last dot
abbrev pub has_extension : List ℕ → Bool
has_extension name = nat_lt 0 (length (before_last is_dot name))

-- what stands before the last dot, or the whole name
unfoldable pub stem_of : List ℕ → List ℕ
stem_of name = if has_extension name then before_last is_dot name else name

-- what follows the last dot, if that is an extension
unfoldable pub extension_of : List ℕ → Option (List ℕ)
extension_of name = if has_extension name then Some (after_last is_dot name) else None
