-- what a reading gives, the place of a miss, and what a caller may rest on: the project's rule for field
-- tables
use Rattle.std.specs.Prelude.{◌≡◌, ◌==◌, if◌then◌else◌, ℕ, List, [], ◌∷◌, ◌++◌, codes, decimal, false, Result, Ok, Err}
use Rattle.serde_json.specs.Data.{Data}
use Rattle.serde_json.specs.Written.{has_float}
use Rattle.json_fields.specs.declared.place.ReadError.{ReadError}
use Rattle.json_fields.specs.declared.place.ReadError.TheVariants.{Missed, OutOfMemory}

-- what a table makes of a part of a document: the value, or the first place that it misses, from here
abbrev pub Reading : Type 0 → Type 0
Reading T = Result T (List ℕ)

-- a call answers what the table gives, unless memory ran out
abbrev pub Gives : {T : Type 0} → Result T ReadError → Reading T → Type 0
Gives (Ok x) reading = reading ≡ Ok x
Gives (Err (Missed place)) reading = reading ≡ Err place
Gives (Err OutOfMemory) reading = Unit {0}

-- the same of a call whose answer shows its value by f
abbrev pub GivesBy : {A T : Type 0} → (A → T) → Result A ReadError → Reading T → Type 0
GivesBy f (Ok x) reading = reading ≡ Ok (f x)
GivesBy f (Err (Missed place)) reading = reading ≡ Err place
GivesBy f (Err OutOfMemory) reading = Unit {0}

-- what is written of the value is read as the value
abbrev pub IsReadAgain : {T : Type 0} → (Data → Reading T) → (T → Data) → T → Type 0
IsReadAgain reads writes x = reads (writes x) ≡ Ok x

-- what is written of the value holds no float
abbrev pub HasNoFloat : {T : Type 0} → (T → Data) → T → Type 0
HasNoFloat writes x = has_float (writes x) ≡ false

-- a miss below a member has the member's key before it
abbrev pub below_key : {T : Type 0} → List ℕ → Reading T → Reading T
below_key key (Ok x) = Ok x
below_key key (Err place) = Err ((46 ∷ key) ++ place)

-- a miss below an item has the item's position before it
abbrev pub below_position : {T : Type 0} → ℕ → Reading T → Reading T
below_position n (Ok x) = Ok x
below_position n (Err place) = Err (91 ∷ (decimal n ++ (93 ∷ place)))

-- the whole place: no dot at its front, and `$` where the document itself misses
abbrev pub whole_place_of : List ℕ → List ℕ
whole_place_of [] = codes "$"
whole_place_of (b ∷ place) = if b == 46 then place else b ∷ place
