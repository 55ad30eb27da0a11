-- what a table's rows read: a required, optional, defaulted or listed member, and the plain kinds of value
use Rattle.std.specs.Prelude.{ℕ, suc, Bool, List, [], ◌∷◌, Option, Some, None, Ok, Err}
use Rattle.serde_json.specs.Data.{Data, null, boolean, number, string, array, object, Num, unsigned, negative, float, Items, no_items, item, Members, no_members, member}
use Rattle.serde_json.specs.Find.{get_member}
use Rattle.base_values.specs.Outcome.{◌>>=◌}
use Rattle.json_fields.specs.Outcome.{Reading, below_key, below_position}

-- the members of an object
abbrev pub members_at : Data → Reading Members
members_at null = Err []
members_at (boolean b) = Err []
members_at (number n) = Err []
members_at (string s) = Err []
members_at (array ds) = Err []
members_at (object ms) = Ok ms

-- a text
abbrev pub text_at : Data → Reading (List ℕ)
text_at null = Err []
text_at (boolean b) = Err []
text_at (number n) = Err []
text_at (string s) = Ok s
text_at (array ds) = Err []
text_at (object ms) = Err []

-- true or false
abbrev pub flag_at : Data → Reading Bool
flag_at null = Err []
flag_at (boolean b) = Ok b
flag_at (number n) = Err []
flag_at (string s) = Err []
flag_at (array ds) = Err []
flag_at (object ms) = Err []

-- a whole number that is not negative
abbrev pub whole_number : Num → Reading ℕ
whole_number (unsigned n) = Ok n
whole_number (negative z) = Err []
whole_number (float x) = Err []

-- a number from 0 to 2^64 - 1
abbrev pub number_at : Data → Reading ℕ
number_at null = Err []
number_at (boolean b) = Err []
number_at (number n) = whole_number n
number_at (string s) = Err []
number_at (array ds) = Err []
number_at (object ms) = Err []

-- any value, which never misses
abbrev pub any_at : Data → Reading Data
any_at d = Ok d

-- what was read, under f
abbrev pub under : {A B : Type 0} → (A → B) → Reading A → Reading B
under f (Ok x) = Ok (f x)
under f (Err place) = Err place

-- null, or a value
abbrev pub option_at : {T : Type 0} → (Data → Reading T) → Data → Reading (Option T)
option_at reads null = Ok None
option_at reads (boolean b) = under Some (reads (boolean b))
option_at reads (number n) = under Some (reads (number n))
option_at reads (string s) = under Some (reads (string s))
option_at reads (array ds) = under Some (reads (array ds))
option_at reads (object ms) = under Some (reads (object ms))

-- the items of a list from position n on, by position
abbrev pub items_from : {T : Type 0} → (Data → Reading T) → ℕ → Items → Reading (List T)
items_from reads n no_items = Ok []
items_from reads n (item d ds) =
    below_position n (reads d) >>= λ x. under (λ xs. x ∷ xs) (items_from reads (suc n) ds)

-- a list, whose items are read by position
abbrev pub list_at : {T : Type 0} → (Data → Reading T) → Data → Reading (List T)
list_at reads null = Err []
list_at reads (boolean b) = Err []
list_at reads (number n) = Err []
list_at reads (string s) = Err []
list_at reads (array ds) = items_from reads 0 ds
list_at reads (object ms) = Err []

-- the values of an object by their keys, which ascend
abbrev pub members_from : {T : Type 0} → (Data → Reading T) → Members → Reading (List (List ℕ × T))
members_from reads no_members = Ok []
members_from reads (member k d ms) =
    below_key k (reads d) >>= λ x. under (λ es. (k, x) ∷ es) (members_from reads ms)

-- an object as a map, whose values are read by ascending key
abbrev pub map_at : {T : Type 0} → (Data → Reading T) → Data → Reading (List (List ℕ × T))
map_at reads d = members_at d >>= members_from reads

-- what stands at a key, or the given reading where nothing does
abbrev pub read_or : {T : Type 0} → Reading T → (Data → Reading T) → Option Data → Reading T
read_or missing reads None = missing
read_or missing reads (Some d) = reads d

-- a member that must be there
unfoldable pub required_member : {T : Type 0} → List ℕ → (Data → Reading T) → Members → Reading T
required_member key reads ms = below_key key (read_or (Err []) reads (get_member key ms))

-- a member that may be missing or null
unfoldable pub optional_member : {T : Type 0} → List ℕ → (Data → Reading T) → Members → Reading (Option T)
optional_member key reads ms = below_key key (read_or (Ok None) (option_at reads) (get_member key ms))

-- a member that may be missing, and is then the default
unfoldable pub default_member : {T : Type 0} → List ℕ → T → (Data → Reading T) → Members → Reading T
default_member key default reads ms = below_key key (read_or (Ok default) reads (get_member key ms))
