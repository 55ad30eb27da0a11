-- a map from text, seen as its entries in ascending order of their keys' bytes: the order of a
-- `BTreeMap<String, _>`
use Rattle.std.specs.Prelude.{◌≡◌, ℕ, List, map, Option, String, string_bytes}
use Rattle.std.specs.declared.alloc.Global.{Global}
use Rattle.std.specs.declared.cmp.Ordering.{Ordering}
use Rattle.std.specs.declared.cmp.Ordering.TheVariants.{Less}
use Rattle.std.specs.BTreeMap.{insert_entry, is_at}
use Rattle.std.specs.Cmp.Lexicographic.{slice_cmp}
use Rattle.std.specs.List.{AllByRecursion}
use Rattle.std.specs.List.Sorted.{IsStrictlySortedBy}
use Rattle.std.specs.Map.{keys_of, lookup}
use Rattle.std.specs.Ordering.{nat_cmp}

-- texts are ordered by their bytes
abbrev pub text_cmp : List ℕ → List ℕ → Ordering
text_cmp = slice_cmp nat_cmp

-- the entries, with each key as its bytes
abbrev pub text_entries : {V : Type 0} → List (String Global × V) → List (List ℕ × V)
text_entries es = map (λ e. (string_bytes e.0, e.1)) es

-- the value at a key
abbrev pub value_at : {V : Type 0} → List ℕ → List (List ℕ × V) → Option V
value_at key es = lookup (is_at (text_cmp key)) es

-- the entries with the value at the key, in place of an older value or as a new entry in its place
abbrev pub with_value : {V : Type 0} → List ℕ → V → List (List ℕ × V) → List (List ℕ × V)
with_value key value es = insert_entry text_cmp es key value

-- each key is below those after it
abbrev pub HasAscendingKeys : {V : Type 0} → List (List ℕ × V) → Type 0
HasAscendingKeys es = IsStrictlySortedBy text_cmp (keys_of es)

-- the key is above all keys
abbrev pub IsAboveKeys : {V : Type 0} → List ℕ → List (List ℕ × V) → Type 0
IsAboveKeys key es = AllByRecursion (λ k. text_cmp k key ≡ Less) (keys_of es)
