-- the types that a table is made of keep what they are read from, and so does a table whose rows do
use Rattle.std.proofs.Common.{◌≡◌, ◌≤◌, ℕ, zero, suc, max, arith, List, [], ◌∷◌, Bool, false, Option, Some, None, Ok, Err, refl, ap}
use Rattle.std.proofs.lemmas.Bool.{true≢false}
use Rattle.std.specs.Option.{IfSome}
use Rattle.std.specs.Result.{IfOk}
use Rattle.serde_json.specs.Data.{Data, null, boolean, number, string, array, object, unsigned, negative, float, Items, no_items, item, Members, no_members, member, depth, items_depth, members_depth}
use Rattle.serde_json.specs.Find.{get_member}
use Rattle.serde_json.specs.Written.{has_float, items_have_float, members_have_float}
use Rattle.json_fields.specs.Laws.Depths.{set_member-within, set_unless_null-within}
use Rattle.json_fields.specs.Laws.Parts.{first_of_none, rest_of_none, get_member-no_float, get_member-within}
use Rattle.json_fields.specs.Laws.Rows.{set_member-no_float, set_unless_null-no_float}
use Rattle.json_fields.specs.Fields.{any_at, default_member, flag_at, read_or, items_from, list_at, map_at, members_at, members_from, number_at, option_at, optional_member, required_member, text_at, under}
use Rattle.base_values.specs.Outcome.{◌>>=◌}
use Rattle.json_fields.specs.Outcome.{Reading, below_key, below_position}
use Rattle.json_fields.specs.RoundTrip.{IsKept, RoundTrips, outer_height}
use Rattle.json_fields.specs.Written.{entries_data, is_null, items_data, list_data, map_data, option_data, set_member, set_unless_null}

-- what is read, where anything is, has that property
pub record ReadsAs {T : Type 0} (reading : Reading T) (P : T → Type 0) : Type 0 where
  pub holds : IfOk reading P

-- what holds of what is read next, where it holds after whatever was read before
pub and_then : {A B : Type 0} {P : A → Type 0} {Q : B → Type 0} {r : Reading A} {f : A → Reading B}
    → ReadsAs r P → ((x : A) → P x → ReadsAs (f x) Q) → ReadsAs (r >>= f) Q
and_then {r = Ok x} h next = next x h.holds
and_then {r = Err place} h next = record { holds = tt }

-- what is read at the end of a table
pub at_last : {A : Type 0} {P : A → Type 0} {x : A} → P x → ReadsAs (Ok x) P
at_last h = record { holds = h }

-- what holds of a reading holds of each value under it
pub under-as : {A B : Type 0} {Q : B → Type 0} (f : A → B) {r : Reading A} → ReadsAs r (λ x. Q (f x))
    → ReadsAs (under f r) Q
under-as f {r = Ok x} h = record { holds = h.holds }
under-as f {r = Err place} h = record { holds = tt }

-- a reading below a key gives the same value
pub below_key-as : {A : Type 0} {P : A → Type 0} (k : List ℕ) {r : Reading A} → ReadsAs r P
    → ReadsAs (below_key k r) P
below_key-as k {r = Ok x} h = record { holds = h.holds }
below_key-as k {r = Err place} h = record { holds = tt }

-- and one below a position
pub below_position-as : {A : Type 0} {P : A → Type 0} (n : ℕ) {r : Reading A} → ReadsAs r P
    → ReadsAs (below_position n r) P
below_position-as n {r = Ok x} h = record { holds = h.holds }
below_position-as n {r = Err place} h = record { holds = tt }

-- less may be said of what is read
pub weaker : {A : Type 0} {P Q : A → Type 0} {r : Reading A} → ((x : A) → P x → Q x) → ReadsAs r P
    → ReadsAs r Q
weaker {r = Ok x} f h = record { holds = f x h.holds }
weaker {r = Err place} f h = record { holds = tt }

-- the plain kinds of value
text-kept : (d : Data) → IfOk (text_at d) (IsKept text_at string (has_float d) (max 0 (depth d)))
text-kept null = tt
text-kept (boolean b) = tt
text-kept (number n) = tt
text-kept (string s) = record { again = refl; clean = λ _. refl; nests = omega arith }
text-kept (array ds) = tt
text-kept (object ms) = tt

flag-kept : (d : Data) → IfOk (flag_at d) (IsKept flag_at boolean (has_float d) (max 0 (depth d)))
flag-kept null = tt
flag-kept (boolean b) = record { again = refl; clean = λ _. refl; nests = omega arith }
flag-kept (number n) = tt
flag-kept (string s) = tt
flag-kept (array ds) = tt
flag-kept (object ms) = tt

number-kept : (d : Data)
    → IfOk (number_at d) (IsKept number_at (λ n. number (unsigned n)) (has_float d) (max 0 (depth d)))
number-kept null = tt
number-kept (boolean b) = tt
number-kept (number (unsigned n)) = record { again = refl; clean = λ _. refl; nests = omega arith }
number-kept (number (negative z)) = tt
number-kept (number (float x)) = tt
number-kept (string s) = tt
number-kept (array ds) = tt
number-kept (object ms) = tt

-- texts
pub text-round_trips : RoundTrips text_at string 0
text-round_trips = record { keeps = text-kept }

-- truth values
pub flag-round_trips : RoundTrips flag_at boolean 0
flag-round_trips = record { keeps = flag-kept }

-- whole numbers
pub number-round_trips : RoundTrips number_at (λ n. number (unsigned n)) 0
number-round_trips = record { keeps = number-kept }

-- any value
pub any-round_trips : RoundTrips any_at (λ d. d) 0
any-round_trips = record { keeps = λ d. record { again = refl; clean = λ h. h; nests = omega arith } }

-- a list of what nests so deep nests one level deeper
pub raised-above : (h k m : ℕ) → m ≤ max h k → suc m ≤ max (outer_height h) (suc k)
raised-above zero k m low = omega (arith, low)
raised-above (suc h) k m low = omega (arith, low)

module _ {T : Type 0} (reads : Data → Reading T) (writes : T → Data) where
  option_at-present : (d : Data) (x : T) → is_null d ≡ false → reads d ≡ Ok x
      → option_at reads d ≡ Ok (Some x)
  option_at-present null x h e = absurd (true≢false h)
  option_at-present (boolean b) x h e = ap (under Some) e
  option_at-present (number n) x h e = ap (under Some) e
  option_at-present (string s) x h e = ap (under Some) e
  option_at-present (array ds) x h e = ap (under Some) e
  option_at-present (object ms) x h e = ap (under Some) e

module _ {T : Type 0} (reads : Data → Reading T) (writes : T → Data) (height : ℕ)
    (kept : RoundTrips reads writes height) where
  at : (d : Data) → ReadsAs (reads d) (IsKept reads writes (has_float d) (max height (depth d)))
  at d = record { holds = kept.keeps d }

  some-kept : ((x : T) → is_null (writes x) ≡ false) → (d : Data)
      → IfOk (under Some (reads d))
      (IsKept (option_at reads) (option_data writes) (has_float d) (max height (depth d)))
  some-kept present d =
      (under-as Some (weaker (λ x k. record { again = option_at-present reads writes (writes x) x (present x) k.again; clean = k.clean; nests = k.nests }) (at d))).holds

  -- a value or null
  option-kept : ((x : T) → is_null (writes x) ≡ false) → (d : Data)
      → IfOk (option_at reads d)
      (IsKept (option_at reads) (option_data writes) (has_float d) (max height (depth d)))
  option-kept present null = record { again = refl; clean = λ _. refl; nests = omega arith }
  option-kept present (boolean b) = some-kept present (boolean b)
  option-kept present (number n) = some-kept present (number n)
  option-kept present (string s) = some-kept present (string s)
  option-kept present (array ds) = some-kept present (array ds)
  option-kept present (object ms) = some-kept present (object ms)

  -- null, or a value
  pub option-round_trips : ((x : T) → is_null (writes x) ≡ false)
      → RoundTrips (option_at reads) (option_data writes) height
  option-round_trips present = record { keeps = option-kept present }

  -- the items of a list
  record AreKept (may_float : Bool) (n : ℕ) (xs : List T) : Type 0 where
    pub again : (position : ℕ) → items_from reads position (items_data writes xs) ≡ Ok xs
    pub clean : may_float ≡ false → items_have_float (items_data writes xs) ≡ false
    pub nests : items_depth (items_data writes xs) ≤ n

  items-kept : (position : ℕ) (ds : Items)
      → ReadsAs (items_from reads position ds) (AreKept (items_have_float ds) (max height (items_depth ds)))
  items-kept position no_items =
      record { holds = record { again = λ _. refl; clean = λ _. refl; nests = omega arith } }
  items-kept position (item d ds) =
      and_then (below_position-as position (at d)) λ x first.
      under-as (λ xs. x ∷ xs) (weaker
      (λ xs rest. record {
        again = λ p. rw (first.again, rest.again (suc p)) refl;
        clean =
            λ none. rw (first.clean (first_of_none (has_float d) _ none), rest.clean (rest_of_none (has_float d) _ none)) refl;
        nests = omega (arith, first.nests, rest.nests);
      })
      (items-kept (suc position) ds))

  list-kept : (d : Data)
      → IfOk (list_at reads d)
      (IsKept (list_at reads) (list_data writes) (has_float d) (max (outer_height height) (depth d)))
  list-kept null = tt
  list-kept (boolean b) = tt
  list-kept (number n) = tt
  list-kept (string s) = tt
  list-kept (array ds) =
      (weaker (λ xs all. record { again = all.again 0; clean = all.clean; nests = raised-above height (items_depth ds) _ all.nests }) (items-kept 0 ds)).holds
  list-kept (object ms) = tt

  -- lists
  pub list-round_trips : RoundTrips (list_at reads) (list_data writes) (outer_height height)
  list-round_trips = record { keeps = list-kept }

  -- the values of a map
  record EntriesKept (may_float : Bool) (n : ℕ) (es : List (List ℕ × T)) : Type 0 where
    pub again : members_from reads (entries_data writes es) ≡ Ok es
    pub clean : may_float ≡ false → members_have_float (entries_data writes es) ≡ false
    pub nests : members_depth (entries_data writes es) ≤ n

  entries-kept : (ms : Members)
      → ReadsAs (members_from reads ms) (EntriesKept (members_have_float ms) (max height (members_depth ms)))
  entries-kept no_members = record { holds = record { again = refl; clean = λ _. refl; nests = omega arith } }
  entries-kept (member k d ms) =
      and_then (below_key-as k (at d)) λ x first.
      under-as (λ es. (k, x) ∷ es) (weaker
      (λ es rest. record {
        again = rw (first.again, rest.again) refl;
        clean =
            λ none. rw (first.clean (first_of_none (has_float d) _ none), rest.clean (rest_of_none (has_float d) _ none)) refl;
        nests = omega (arith, first.nests, rest.nests);
      })
      (entries-kept ms))

  map-kept : (d : Data)
      → IfOk (map_at reads d)
      (IsKept (map_at reads) (map_data writes) (has_float d) (max (outer_height height) (depth d)))
  map-kept null = tt
  map-kept (boolean b) = tt
  map-kept (number n) = tt
  map-kept (string s) = tt
  map-kept (array ds) = tt
  map-kept (object ms) =
      (weaker (λ es all. record { again = all.again; clean = all.clean; nests = raised-above height (members_depth ms) _ all.nests }) (entries-kept ms)).holds

  -- maps
  pub map-round_trips : RoundTrips (map_at reads) (map_data writes) (outer_height height)
  map-round_trips = record { keeps = map-kept }

  -- what is read at a key, where what is read of nothing is kept
  read_or-kept : (missing : Reading T) (may_float : Bool) (n : ℕ) (o : Option Data) → height ≤ n
      → (may_float ≡ false → IfSome o (λ d. has_float d ≡ false)) → IfSome o (λ d. depth d ≤ n)
      → ReadsAs missing (IsKept reads writes may_float n)
      → ReadsAs (read_or missing reads o) (IsKept reads writes may_float n)
  read_or-kept missing may_float n None low clean nests h = h
  read_or-kept missing may_float n (Some d) low clean nests h =
      weaker
      (λ x k. record {
        again = k.again;
        clean = λ none. k.clean (clean none);
        nests = omega (arith, low, nests, k.nests);
      }) (at d)

  row-kept : (k : List ℕ) (missing : Reading T) (n : ℕ) (ms : Members) → height ≤ n → members_depth ms ≤ n
      → ReadsAs missing (IsKept reads writes (members_have_float ms) n)
      → ReadsAs (below_key k (read_or missing reads (get_member k ms)))
      (IsKept reads writes (members_have_float ms) n)
  row-kept k missing n ms low within h =
      below_key-as k
      (read_or-kept missing (members_have_float ms) n (get_member k ms) low (get_member-no_float k ms) (get_member-within n k ms within) h)

-- the members of an object, which nest to at most n levels
pub record AreWithin (n : ℕ) (ms : Members) : Type 0 where
  pub within : members_depth ms ≤ n

-- a row keeps what its values do
module _ {T : Type 0} {reads : Data → Reading T} {writes : T → Data} {height : ℕ}
    (kept : RoundTrips reads writes height) {n : ℕ} {ms : Members} (low : height ≤ n)
    (within : AreWithin n ms) where
  -- a member that must be there
  pub required_member-kept : (k : List ℕ)
      → ReadsAs (required_member k reads ms) (IsKept reads writes (members_have_float ms) n)
  unfolding required_member
  required_member-kept k =
      row-kept reads writes height kept k (Err []) n ms low within.within (record { holds = tt })

  -- a member whose default is kept
  pub default_member-kept : (k : List ℕ) (default : T) → IsKept reads writes false n default
      → ReadsAs (default_member k default reads ms) (IsKept reads writes (members_have_float ms) n)
  unfolding default_member
  default_member-kept k default h =
      row-kept reads writes height kept k (Ok default) n ms low within.within
      (record { holds = record { again = h.again; clean = λ _. h.clean refl; nests = h.nests } })

  -- a member that may be missing or null
  pub optional_member-kept : ((x : T) → is_null (writes x) ≡ false) → (k : List ℕ)
      → ReadsAs (optional_member k reads ms)
      (IsKept (option_at reads) (option_data writes) (members_have_float ms) n)
  unfolding optional_member
  optional_member-kept present k =
      row-kept (option_at reads) (option_data writes) height
      (option-round_trips reads writes height kept present) k (Ok None) n ms low within.within
      (record { holds = record { again = refl; clean = λ _. refl; nests = omega arith } })

module _ {T : Type 0} {reads : Data → Reading T} {writes : T → Data} {height : ℕ}
    (kept : RoundTrips reads writes height) {n : ℕ} {ms : Members} (low : outer_height height ≤ n)
    (some : 1 ≤ n) (within : AreWithin n ms) where
  -- a list that may be missing
  pub list_member-kept : (k : List ℕ)
      → ReadsAs (default_member k [] (list_at reads) ms)
      (IsKept (list_at reads) (list_data writes) (members_have_float ms) n)
  unfolding default_member
  list_member-kept k =
      row-kept (list_at reads) (list_data writes) (outer_height height)
      (list-round_trips reads writes height kept) k (Ok []) n ms low within.within
      (record { holds = record { again = refl; clean = λ _. refl; nests = some } })

  -- a map that may be missing
  pub map_member-kept : (k : List ℕ)
      → ReadsAs (default_member k [] (map_at reads) ms)
      (IsKept (map_at reads) (map_data writes) (members_have_float ms) n)
  unfolding default_member
  map_member-kept k =
      row-kept (map_at reads) (map_data writes) (outer_height height)
      (map-round_trips reads writes height kept) k (Ok []) n ms low within.within
      (record { holds = record { again = refl; clean = λ _. refl; nests = some } })

-- members in which what is kept was put
pub record AreWritten (may_float : Bool) (n : ℕ) (ws : Members) : Type 0 where
  pub clean : may_float ≡ false → members_have_float ws ≡ false
  pub nests : members_depth ws ≤ n

-- an object begins with no members
pub no_members-written : (may_float : Bool) (n : ℕ) → AreWritten may_float n no_members
no_members-written may_float n = record { clean = λ _. refl; nests = omega arith }

module _ {T : Type 0} {reads : Data → Reading T} {writes : T → Data} {may_float : Bool} {n : ℕ} {x : T}
    {ws : Members} where
  -- one more member
  pub set_member-written : (k : List ℕ) → IsKept reads writes may_float n x → AreWritten may_float n ws
      → AreWritten may_float n (set_member k (writes x) ws)
  set_member-written k h before = record {
    clean = λ none. set_member-no_float k (writes x) ws (h.clean none) (before.clean none);
    nests = set_member-within n k (writes x) ws h.nests before.nests;
  }

  -- one more member, unless it is null
  pub set_unless_null-written : (k : List ℕ) → IsKept reads writes may_float n x → AreWritten may_float n ws
      → AreWritten may_float n (set_unless_null k (writes x) ws)
  set_unless_null-written k h before = record {
    clean = λ none. set_unless_null-no_float k (writes x) ws (h.clean none) (before.clean none);
    nests = set_unless_null-within n k (writes x) ws h.nests before.nests;
  }

-- a table, whose rows are read of an object's members
module _ {T : Type 0} (from : Members → Reading T) (writes : T → Data) (height : ℕ)
    (rows : (ms : Members)
    → ReadsAs (from ms)
    (IsKept (λ d. members_at d
    >>= from) writes (members_have_float ms) (max height (suc (members_depth ms))))) where
  table-kept : (d : Data)
      → IfOk (members_at d >>= from)
      (IsKept (λ d. members_at d >>= from) writes (has_float d) (max height (depth d)))
  table-kept null = tt
  table-kept (boolean b) = tt
  table-kept (number n) = tt
  table-kept (string s) = tt
  table-kept (array ds) = tt
  table-kept (object ms) = (rows ms).holds

  -- a table whose rows are kept
  pub table-round_trips : RoundTrips (λ d. members_at d >>= from) writes height
  table-round_trips = record { keeps = table-kept }
