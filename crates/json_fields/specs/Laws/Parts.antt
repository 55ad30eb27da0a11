-- a part of a value that holds no float holds none
use Rattle.std.proofs.Common.{◌≡◌, ◌≤◌, arith, ℕ, List, Bool, true, false, ◌||◌, Option, Some, Ordering, Less, Equal, Greater, refl}
use Rattle.std.proofs.lemmas.Bool.{true≢false}
use Rattle.std.specs.Ordering.{nat_cmp, match_ordering}
use Rattle.std.specs.Cmp.Lexicographic.{slice_cmp}
use Rattle.std.specs.Option.{IfSome}
use Rattle.serde_json.specs.Data.{Data, Members, no_members, member, depth, members_depth}
use Rattle.serde_json.specs.Find.{get_member}
use Rattle.serde_json.specs.Written.{has_float, members_have_float}

-- of two flags that are both down the first is
pub first_of_none : (a b : Bool) → (a || b) ≡ false → a ≡ false
first_of_none true b h = h
first_of_none false b h = refl

-- and the second
pub rest_of_none : (a b : Bool) → (a || b) ≡ false → b ≡ false
rest_of_none true b h = absurd (true≢false h)
rest_of_none false b h = h

at_key : (P : Data → Type 0) (o : Ordering) (later : Option Data) (d : Data) → P d → IfSome later P
    → IfSome (match_ordering o later (Some d) later) P
at_key P Less later d here rest = rest
at_key P Equal later d here rest = here
at_key P Greater later d here rest = rest

-- a member of members with no float
pub get_member-no_float : (key : List ℕ) (ms : Members) → members_have_float ms ≡ false
    → IfSome (get_member key ms) (λ d. has_float d ≡ false)
get_member-no_float key no_members h = tt
get_member-no_float key (member k d ms) h =
    at_key (λ e. has_float e ≡ false) (slice_cmp nat_cmp key k) _ d (first_of_none (has_float d) _ h)
    (get_member-no_float key ms (rest_of_none (has_float d) _ h))

-- a member of members that nest to at most n levels
pub get_member-within : (n : ℕ) (key : List ℕ) (ms : Members) → members_depth ms ≤ n
    → IfSome (get_member key ms) (λ d. depth d ≤ n)
get_member-within n key no_members h = tt
get_member-within n key (member k d ms) h =
    at_key (λ e. depth e ≤ n) (slice_cmp nat_cmp key k) _ d (omega (arith, h))
    (get_member-within n key ms (omega (arith, h)))
