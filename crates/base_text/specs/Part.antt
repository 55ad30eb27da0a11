-- What is held of a line that was read in part, and what is given of a line: its bytes, unless they are more
-- than a bound.
use Rattle.std.specs.Prelude.{◌≡◌, ℕ, ◌<◌, ◌≤◌, if◌then◌else◌, Bool, true, false, List, [], ◌∷◌, Option, Some, None, length, nat_le}
use Rattle.base_text.specs.declared.lines.Line.{Line}
use Rattle.base_text.specs.declared.lines.Line.TheVariants.{Whole, TooLong}

-- the bytes that are held of a line, the bound, and whether the line is longer than that
pub record Part : Type 0 where
  pub bytes : List ℕ
  pub max_line : ℕ
  pub is_long : Bool

-- nothing of a line
abbrev pub no_part : ℕ → Part
no_part max = record { bytes = []; max_line = max; is_long = false }

-- all of a line is held, or it is longer than the bound and nothing is
abbrev pub IsHeldAs : Bool → List ℕ → Part → Type 0
IsHeldAs false line held = (line ≡ held.bytes) × (length line ≤ held.max_line)
IsHeldAs true line held = (held.bytes ≡ []) × (held.max_line < length line)

-- this is what is held of a line
abbrev pub IsHeld : List ℕ → Part → Type 0
IsHeld line held = IsHeldAs held.is_long line held

-- what is given of a line: its bytes, or none where they are more than the bound
unfoldable pub item_of : ℕ → List ℕ → Option (List ℕ)
item_of max line = if nat_le (length line) max then Some line else None

-- what is given of the bytes behind the last newline: nothing where there are none
unfoldable pub last_item_of : ℕ → List ℕ → Option (Option (List ℕ))
last_item_of max [] = None
last_item_of max (b ∷ bs) = Some (item_of max (b ∷ bs))

-- the bytes of a line that was given, where it is not too long
abbrev pub line_bytes : Line → Option (List ℕ)
line_bytes (Whole bytes) = Some bytes
line_bytes TooLong = None
