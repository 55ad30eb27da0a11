-- Paths as lists of components, by the rules of Unix paths: a path is its components, and its text follows
-- from them.
use Rattle.std.specs.Prelude.{◌≡◌, ℕ, ◌-◌, Bool, not, ◌||◌, ◌==◌, if◌then◌else◌, List, [], ◌∷◌, ◌++◌, length, take, drop, slice_get, slice_index, Option, Some, None}
use Rattle.std.specs.Prelude.{codes, bytes_eq, filter, flat_map, fold}
use Rattle.std.specs.List.{join_with_byte, slice_split, starts_with}
use Rattle.std.specs.Option.{option_and_then}

-- the byte that stands between components
abbrev pub is_slash : ℕ → Bool
is_slash b = b == 47

-- a component counts unless it is empty or `.`
abbrev pub is_component : List ℕ → Bool
is_component part = not (bytes_eq part [] || bytes_eq part (codes "."))

-- the components of a text, in order
unfoldable pub components : List ℕ → List (List ℕ)
components text = filter is_component (slice_split is_slash text)

-- the list but for its last component, if it has one
abbrev pub without_last : List (List ℕ) → List (List ℕ)
without_last parts = take (length parts - 1) parts

-- the last component, if there is one
abbrev pub last_component : List (List ℕ) → Option (List ℕ)
last_component parts = slice_get parts (length parts - 1)

-- one more component after those taken: `..` drops the last one, or nothing
unfoldable pub resolve : List (List ℕ) → List ℕ → List (List ℕ)
resolve taken part = if bytes_eq part (codes "..") then without_last taken else taken ++ part ∷ []

-- the components that are left once each `..` is resolved
unfoldable pub resolved_components : List (List ℕ) → List (List ℕ)
resolved_components parts = fold resolve [] parts

-- the components of the normal path
abbrev pub normal : List ℕ → List (List ℕ)
normal text = resolved_components (components text)

-- no `..` of the text is left to resolve
abbrev pub IsResolved : List ℕ → Type 0
IsResolved text = normal text ≡ components text

-- each component behind a slash
unfoldable pub with_slashes : List (List ℕ) → List ℕ
with_slashes parts = flat_map (λ part. 47 ∷ part) parts

-- the text of a path's components, which is `/` for none
unfoldable pub path_text : List (List ℕ) → List ℕ
path_text [] = 47 ∷ []
path_text (part ∷ parts) = with_slashes (part ∷ parts)

-- the text begins with `/`
abbrev pub is_absolute : List ℕ → Bool
is_absolute text = slice_index text 0 == 47

-- what is made of the clean text of an absolute path, and what of any other text
abbrev pub if_absolute : {A : Type 0} → List ℕ → (List ℕ → A) → A → A
if_absolute text made other = if is_absolute text then made (path_text (components text)) else other

-- the text begins with `/`, as a fact
abbrev pub IsAbsolute : List ℕ → Type 0
IsAbsolute text = slice_index text 0 ≡ 47

-- the text is that of its components, with nothing to drop
abbrev pub IsClean : List ℕ → Type 0
IsClean text = text ≡ path_text (components text)

-- the components of a path with a tail behind it, where an absolute tail stands alone
unfoldable pub components_with_tail : List ℕ → List ℕ → List (List ℕ)
components_with_tail base tail =
    if is_absolute tail then components tail else components base ++ components tail

-- the text of the path without its last component, and none for `/`
unfoldable pub parent_text : List ℕ → Option (List ℕ)
parent_text text =
    if length (components text) == 0 then None else Some (path_text (without_last (components text)))

-- the first components of the whole are those of the front
unfoldable pub is_prefix : List (List ℕ) → List (List ℕ) → Bool
is_prefix front whole = starts_with bytes_eq whole front

-- the components behind the front, with a slash between each two, where the front begins the whole
unfoldable pub text_below : List (List ℕ) → List (List ℕ) → Option (List ℕ)
text_below front whole =
    if is_prefix front whole then Some (join_with_byte 47 (drop (length front) whole)) else None

-- the last component, unless it is `..`
unfoldable pub file_name : List ℕ → Option (List ℕ)
file_name text =
    option_and_then (λ name. if bytes_eq name (codes "..") then None else Some name)
    (last_component (components text))
