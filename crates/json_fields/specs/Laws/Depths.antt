-- how deep members nest in which values were set
use Rattle.std.proofs.Common.{◌≤◌, ℕ, arith, inl, inr, List, Ordering, Less, Equal, Greater}
use Rattle.std.proofs.lemmas.Bool.{cases_Bool}
use Rattle.std.specs.Cmp.Lexicographic.{slice_cmp}
use Rattle.std.specs.Ordering.{nat_cmp, match_ordering}
use Rattle.serde_json.specs.Data.{Data, Members, no_members, member, depth, members_depth}
use Rattle.json_fields.specs.Written.{is_null, set_member, set_unless_null}

at_order : (n : ℕ) (o : Ordering) (a b c : Members) → members_depth a ≤ n → members_depth b ≤ n
    → members_depth c ≤ n → members_depth (match_ordering o a b c) ≤ n
at_order n Less a b c p q r = p
at_order n Equal a b c p q r = q
at_order n Greater a b c p q r = r

-- members that nest to at most n levels do so after a value that does is set
pub set_member-within : (n : ℕ) (k : List ℕ) (d : Data) (ms : Members) → depth d ≤ n → members_depth ms ≤ n
    → members_depth (set_member k d ms) ≤ n
unfolding set_member
set_member-within n k d no_members h within = omega (arith, h)
set_member-within n k d (member l e ms) h within =
    at_order n (slice_cmp nat_cmp k l) _ _ _ (omega (arith, h, within)) (omega (arith, h, within))
    (omega (arith, within, set_member-within n k d ms h (omega (arith, within))))

-- so do members after a value that is left out where it is null
pub set_unless_null-within : (n : ℕ) (k : List ℕ) (d : Data) (ms : Members) → depth d ≤ n
    → members_depth ms ≤ n → members_depth (set_unless_null k d ms) ≤ n
unfolding set_unless_null
set_unless_null-within n k d ms h within = elim (cases_Bool (is_null d)) [
  | inl left_out ↦ rw left_out within
  | inr written ↦ rw written (set_member-within n k d ms h within)
]
