-- what a row reads of members that were set one after another: the rewriting names for tables
use Rattle.std.proofs.Common.{◌≡◌, ℕ, List, Bool, true, false, cond, ◌||◌, bytes_eq, Option, Some, None, Ok, Err, refl, sym, ◌∙◌, inl, inr}
use Rattle.std.proofs.lemmas.Bool.{cases_Bool, false≢true}
use Rattle.std.proofs.lemmas.Slice.Eq.{bytes_eq-Decides}
use Rattle.serde_json.specs.Data.{Data, null, boolean, number, string, array, object, Members, no_members, member}
use Rattle.std.specs.declared.cmp.Ordering.{Ordering}
use Rattle.std.specs.declared.cmp.Ordering.TheVariants.{Less, Equal, Greater}
use Rattle.std.specs.Cmp.Lexicographic.{slice_cmp}
use Rattle.std.specs.Ordering.{nat_cmp, match_ordering}
use Rattle.serde_json.specs.Find.{get_member}
use Rattle.json_fields.specs.Laws.Parts.{first_of_none, rest_of_none}
use Rattle.serde_json.proofs.Views.{get_member-put, get_member-put_other}
use Rattle.json_fields.specs.Fields.{read_or, option_at, required_member, optional_member, default_member}
use Rattle.base_values.specs.Outcome.{◌>>=◌}
use Rattle.json_fields.specs.Outcome.{Gives, Reading, below_key}
use Rattle.json_fields.specs.declared.place.ReadError.{ReadError}
use Rattle.json_fields.specs.declared.place.ReadError.TheVariants.{Missed, OutOfMemory}
use Rattle.json_fields.specs.Written.{is_null, set_member, set_unless_null}
use Rattle.serde_json.specs.Written.{has_float, members_have_float}

-- what stands at a key of members, one of which was set
pub get_member-set_member : (k l : List ℕ) (d : Data) (ms : Members)
    → get_member k (set_member l d ms) ≡ cond (bytes_eq k l) (Some d) (get_member k ms)
unfolding set_member
get_member-set_member k l d ms = elim (cases_Bool (bytes_eq k l)) [
  | inl same ↦
      let e : k ≡ l = (bytes_eq-Decides k l).0 same in
      rw same (rw e (get_member-put l d ms))
  | inr other ↦
      let apart = λ (e : k ≡ l). false≢true (sym other ∙ (bytes_eq-Decides k l).1 e) in
      rw other (get_member-put_other k l d ms apart)
]

required_by :
    {T : Type 0} (reads : Data → Reading T) (k : List ℕ) (b : Bool) (d : Data) (o : Option Data)
    (missing : Reading T)
    → below_key k (read_or missing reads (cond b (Some d) o))
    ≡ cond b (below_key k (reads d)) (below_key k (read_or missing reads o))
required_by reads k true d o missing = refl
required_by reads k false d o missing = refl

same_either : {A : Type 0} (b : Bool) (x : A) → cond b x x ≡ x
same_either true x = refl
same_either false x = refl

module _ {T : Type 0} (reads : Data → Reading T) (k l : List ℕ) (d : Data) (ms : Members) where
  -- a member that must be there, after a member was put
  pub required_member-set_member :
      required_member k reads (set_member l d ms)
      ≡ cond (bytes_eq k l) (below_key k (reads d)) (required_member k reads ms)
  unfolding required_member
  required_member-set_member =
      rw (get_member-set_member k l d ms) (required_by reads k (bytes_eq k l) d (get_member k ms) _)

  -- a member that may be missing or null, after a member was put
  pub optional_member-set_member :
      optional_member k reads (set_member l d ms)
      ≡ cond (bytes_eq k l) (below_key k (option_at reads d)) (optional_member k reads ms)
  unfolding optional_member
  optional_member-set_member =
      rw (get_member-set_member k l d ms)
      (required_by (option_at reads) k (bytes_eq k l) d (get_member k ms) _)

  -- a member with a default, after a member was put
  pub default_member-set_member : (default : T)
      → default_member k default reads (set_member l d ms)
      ≡ cond (bytes_eq k l) (below_key k (reads d)) (default_member k default reads ms)
  unfolding default_member
  default_member-set_member default =
      rw (get_member-set_member k l d ms) (required_by reads k (bytes_eq k l) d (get_member k ms) _)

  -- a member that must be there, after a member was put unless it is null
  pub required_member-set_unless_null :
      required_member k reads (set_unless_null l d ms)
      ≡ cond (bytes_eq k l) (cond (is_null d) (required_member k reads ms) (below_key k (reads d)))
      (required_member k reads ms)
  unfolding set_unless_null
  required_member-set_unless_null = elim (cases_Bool (is_null d)) [
    | inl none ↦ rw none (sym (same_either (bytes_eq k l) (required_member k reads ms)))
    | inr some ↦ rw some required_member-set_member
  ]

  -- a member that may be missing or null, after a member was put unless it is null
  pub optional_member-set_unless_null :
      optional_member k reads (set_unless_null l d ms)
      ≡ cond (bytes_eq k l) (cond (is_null d) (optional_member k reads ms) (below_key k (option_at reads d)))
      (optional_member k reads ms)
  unfolding set_unless_null
  optional_member-set_unless_null = elim (cases_Bool (is_null d)) [
    | inl none ↦ rw none (sym (same_either (bytes_eq k l) (optional_member k reads ms)))
    | inr some ↦ rw some optional_member-set_member
  ]

  -- a member with a default, after a member was put unless it is null
  pub default_member-set_unless_null : (default : T)
      → default_member k default reads (set_unless_null l d ms)
      ≡ cond (bytes_eq k l) (cond (is_null d) (default_member k default reads ms) (below_key k (reads d)))
      (default_member k default reads ms)
  unfolding set_unless_null
  default_member-set_unless_null default = elim (cases_Bool (is_null d)) [
    | inl none ↦ rw none (sym (same_either (bytes_eq k l) (default_member k default reads ms)))
    | inr some ↦ rw some (default_member-set_member default)
  ]

-- a value that is null is null
pub null-or_not : (d : Data) → cond {A = Reading Data} (is_null d) (Ok null) (Ok d) ≡ Ok d
null-or_not null = refl
null-or_not (boolean b) = refl
null-or_not (number n) = refl
null-or_not (string s) = refl
null-or_not (array ds) = refl
null-or_not (object ms) = refl

at_order : (o : Ordering) (a b c : Members) → members_have_float a ≡ false → members_have_float b ≡ false
    → members_have_float c ≡ false → members_have_float (match_ordering o a b c) ≡ false
at_order Less a b c p q r = p
at_order Equal a b c p q r = q
at_order Greater a b c p q r = r

neither : (a b : Bool) → a ≡ false → b ≡ false → (a || b) ≡ false
neither a b p q = rw (p, q)

-- members with no float hold none after a value with no float is set
pub set_member-no_float : (k : List ℕ) (d : Data) (ms : Members) → has_float d ≡ false
    → members_have_float ms ≡ false → members_have_float (set_member k d ms) ≡ false
unfolding set_member
set_member-no_float k d no_members h none = neither (has_float d) false h refl
set_member-no_float k d (member l e ms) h none =
    let rest = rest_of_none (has_float e) (members_have_float ms) none in
    at_order (slice_cmp nat_cmp k l) _ _ _
    (neither (has_float d) _ h none)
    (neither (has_float d) _ h rest)
    (neither (has_float e) _ (first_of_none (has_float e) (members_have_float ms) none) (set_member-no_float k d ms h rest))

-- a value with no float, left out where it is null, adds none
pub set_unless_null-no_float : (k : List ℕ) (d : Data) (ms : Members) → has_float d ≡ false
    → members_have_float ms ≡ false → members_have_float (set_unless_null k d ms) ≡ false
unfolding set_unless_null
set_unless_null-no_float k d ms h none = elim (cases_Bool (is_null d)) [
  | inl left_out ↦ rw left_out none
  | inr written ↦ rw written (set_member-no_float k d ms h none)
]

-- of no members a row reads that its own is missing
pub optional_member-no_members : {T : Type 0} (k : List ℕ) (reads : Data → Reading T)
    → optional_member k reads no_members ≡ Ok None
unfolding optional_member
optional_member-no_members k reads = refl

-- a row of an empty object gives its default
pub default_member-no_members : {T : Type 0} (k : List ℕ) (default : T) (reads : Data → Reading T)
    → default_member k default reads no_members ≡ Ok default
unfolding default_member
default_member-no_members k default reads = refl

-- a miss stays a miss through the rows after it
pub Gives-then : {A B : Type 0} (e : ReadError) (r : Reading A) (f : A → Reading B) → Gives (Err e) r
    → Gives (Err e) (r >>= f)
Gives-then (Missed place) r f h = rw h refl
Gives-then OutOfMemory r f h = tt
