-- Virtual paths: texts that are cut at slashes, and joined by text, as the documentation of `VfsPath` says.
use Rattle.std.specs.Prelude.{◌≡◌, ℕ, zero, suc, ◌-◌, ◌<◌, ◌==◌, List, [], ◌∷◌, ◌++◌, Option, Some, None, codes, bytes_eq, take, length, reverse, slice_index, if◌then◌else◌}
use Rattle.std.specs.Borrow.{Bor}
use Rattle.std.specs.List.{after_last, before_last, join_with_byte, list_any, slice_split}
use Rattle.std.specs.Option.{option_and_then, option_map}
use Rattle.base_text_paths.specs.FileName.{extension_of, stem_of}
use Rattle.base_text_paths.specs.Paths.{components, is_component, is_slash}
use Rattle.vfs_core.specs.RealPath.{is_text_prefix}

-- what stands before the last slash, if there is one
unfoldable pub virtual_parent : List ℕ → Option (List ℕ)
virtual_parent text = if list_any is_slash text then Some (before_last is_slash text) else None

-- a base without a last name for each leading `../` of a tail, where it has so many, and the rest of the tail
unfoldable pub climb : List ℕ → List ℕ → Option (List ℕ × List ℕ)
climb base [] = Some (base, [])
climb base (a ∷ []) = Some (base, a ∷ [])
climb base (a ∷ b ∷ []) = Some (base, a ∷ b ∷ [])
climb base (a ∷ b ∷ c ∷ rest) =
    if bytes_eq (a ∷ b ∷ c
    ∷ []) (codes "../") then option_and_then (λ above. climb above rest) (virtual_parent base)
    else Some (base, a ∷ b ∷ c ∷ rest)

-- a tail without each leading `./`
unfoldable pub without_dots : List ℕ → List ℕ
without_dots [] = []
without_dots (a ∷ []) = a ∷ []
without_dots (a ∷ b ∷ rest) = if bytes_eq (a ∷ b ∷ []) (codes "./") then without_dots rest else a ∷ b ∷ rest

-- a path joined with a tail: each leading `../` pops, then each leading `./` is dropped
abbrev pub virtual_joined : List ℕ → List ℕ → Option (List ℕ)
virtual_joined base tail = option_map (λ parts. parts.0 ++ 47 ∷ without_dots parts.1) (climb base tail)

-- a text without one slash at its end
unfoldable pub virtual_without_end_slash : List ℕ → List ℕ
virtual_without_end_slash text =
    if slice_index text (length text - 1) == 47 then take (length text - 1) text else text

-- what follows the last slash, or the whole text where there is none
unfoldable pub last_name : List ℕ → List ℕ
last_name text = after_last is_slash text

-- a name as a stem and an extension, unless it is empty
abbrev pub stem_and_extension_if_any : List ℕ → Option (List ℕ × Option (List ℕ))
stem_and_extension_if_any name = if length name == 0 then None else Some (stem_of name, extension_of name)

-- the last name as a stem and an extension, where one slash at the end plays no part
abbrev pub virtual_stem_and_extension : List ℕ → Option (List ℕ × Option (List ℕ))
virtual_stem_and_extension text = stem_and_extension_if_any (last_name (virtual_without_end_slash text))

-- the parts from the first component on
abbrev pub from_component : List (List ℕ) → List (List ℕ)
from_component [] = []
from_component (part ∷ parts) = if is_component part then part ∷ parts else from_component parts

-- a text from its first component on
unfoldable pub trim_front : List ℕ → List ℕ
trim_front text = join_with_byte 47 (from_component (slice_split is_slash text))

-- a text up to its last component
unfoldable pub trim_back : List ℕ → List ℕ
trim_back text = join_with_byte 47 (reverse (from_component (reverse (slice_split is_slash text))))

-- the parts behind so many components
abbrev pub parts_behind : List (List ℕ) → ℕ → List (List ℕ)
parts_behind parts zero = parts
parts_behind [] (suc count) = []
parts_behind (part ∷ parts) (suc count) =
    if is_component part then parts_behind parts count else parts_behind parts (suc count)

-- what follows so many components of a text
abbrev pub text_behind : List ℕ → ℕ → List ℕ
text_behind text count = join_with_byte 47 (parts_behind (slice_split is_slash text) count)

-- what follows the components of a front, where they come first: from the next component to the last
unfoldable pub virtual_rest : List ℕ → List ℕ → Option (List ℕ)
virtual_rest front text =
    if is_text_prefix front text then Some (trim_back (trim_front (text_behind text (length (components front)))))
    else None

-- the texts of two borrowed parts
abbrev pub both_texts : Bor (List ℕ) × Bor (List ℕ) → List ℕ × List ℕ
both_texts parts = (parts.0.now, parts.1.now)

-- the first component of a text, and what follows the slash that ends it
pub record TakesComponent (text part rest : List ℕ) : Type 0 where
  pub parts : components text ≡ part ∷ components rest
  pub shorter : length rest < length text
  pub behind : (count : ℕ) → text_behind text (suc count) ≡ text_behind rest count
