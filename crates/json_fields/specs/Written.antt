-- what a table's rows write: each value under its key
use Rattle.std.specs.Prelude.{if◌then◌else◌, ℕ, Bool, true, false, List, [], ◌∷◌, map, Option, Some, None}
use Rattle.serde_json.specs.View.{items_of}
use Rattle.serde_json.specs.Data.{Data, null, boolean, number, string, array, object, Items, Members, no_members, member, put}

-- the members, with the value under the key
unfoldable pub set_member : List ℕ → Data → Members → Members
set_member key d ms = put key d ms

-- no value as null
abbrev pub option_data : {T : Type 0} → (T → Data) → Option T → Data
option_data writes None = null
option_data writes (Some x) = writes x

-- the values as items, in order
abbrev pub items_data : {T : Type 0} → (T → Data) → List T → Items
items_data writes xs = items_of (map writes xs)

-- a list
abbrev pub list_data : {T : Type 0} → (T → Data) → List T → Data
list_data writes xs = array (items_data writes xs)

-- the values under their keys, in the map's order
abbrev pub entries_data : {T : Type 0} → (T → Data) → List (List ℕ × T) → Members
entries_data writes [] = no_members
entries_data writes (e ∷ es) = member e.0 (writes e.1) (entries_data writes es)

-- a map as an object
abbrev pub map_data : {T : Type 0} → (T → Data) → List (List ℕ × T) → Data
map_data writes es = object (entries_data writes es)

-- whether the value is null
abbrev pub is_null : Data → Bool
is_null null = true
is_null (boolean b) = false
is_null (number n) = false
is_null (string s) = false
is_null (array ds) = false
is_null (object ms) = false

-- the members, with the value under the key unless it is null
unfoldable pub set_unless_null : List ℕ → Data → Members → Members
set_unless_null key d ms = if is_null d then ms else set_member key d ms
