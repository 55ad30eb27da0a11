-- The places of hashes, found from the last to the first, and the first equal crate by them.
use Rattle.std.proofs.Common.{◌≡◌, ◌≢◌, ℕ, zero, suc, ◌+◌, ◌-◌, ◌<◌, inl, inr, Bool, true, false, not, cond, List, [], ◌∷◌, length, get_or, set, Option, Some, None, refl, sym, ap, ◌∙◌, subst, arith, get_or-set_same, get_or-set_other, length-set}
use Rattle.std.specs.Prelude.{nat_lt, slice_index, slice_index_or, ◌==◌}
use Rattle.std.specs.List.{position, position_or_len}
use Rattle.std.proofs.lemmas.Bool.{cases_Bool, cases_eq, cases_lt, eq-eqb, ne_eqb}
use Rattle.std.proofs.lemmas.Bool.Decides.{Decides-ltb}
use Rattle.crate_graph.specs.Places.{ArePlaces, IsFirst}

-- ---- one more place in front

-- a place that does not have the hash is passed over
first_past : (hashes : List ℕ) (hash place : ℕ) (o : Option ℕ) → slice_index hashes place ≢ hash → IsFirst hashes hash (place + 1) o → IsFirst hashes hash place o
first_past hashes hash place None apart first = λ k from below. elim (cases_eq k place) [
  | inl same ↦ subst (λ z. slice_index hashes z ≢ hash) (sym same) apart
  | inr other ↦ first k (omega (arith, from, other)) below
]
first_past hashes hash place (Some at) apart first = (
  omega (arith, first.0),
  first.1,
  first.2,
  λ k from below. elim (cases_eq k place) [
    | inl same ↦ subst (λ z. slice_index hashes z ≢ hash) (sym same) apart
    | inr other ↦ first.3 k (omega (arith, from, other)) below
  ],
)

pub places_none : (hashes : List ℕ) (first : ℕ → Option ℕ) (next : List (Option ℕ)) → length next ≡ length hashes → ((hash : ℕ) → first hash ≡ None) → ArePlaces hashes (length hashes) first next
places_none hashes first next long none = record {
  long = long;
  first_is = λ hash. subst (IsFirst hashes hash (length hashes)) (sym (none hash)) (λ k from below. absurd (omega (arith, from, below)));
  next_is = λ k from below. absurd (omega (arith, from, below));
}

pub places_more : (hashes : List ℕ) (place : ℕ) (old new : ℕ → Option ℕ) (next : List (Option ℕ)) → place < length hashes → ArePlaces hashes (place + 1) old next
    → ((hash : ℕ) → new hash ≡ cond (slice_index hashes place == hash) (Some place) (old hash)) → ArePlaces hashes place new (set next place (old (slice_index hashes place)))
places_more hashes place old new next within were changed = record {
  long = length-set next place (old (slice_index hashes place)) ∙ were.long;
  first_is = λ hash. elim (cases_eq (slice_index hashes place) hash) [
    | inl same ↦
        let now : new hash ≡ Some place = changed hash ∙ ap (λ b. cond b (Some place) (old hash)) (eq-eqb (slice_index hashes place) hash same) in
        subst (IsFirst hashes hash place) (sym now) (omega arith, within, same, λ k from below. absurd (omega (arith, from, below)))
    | inr other ↦
        let was : new hash ≡ old hash = changed hash ∙ ap (λ b. cond b (Some place) (old hash)) (ne_eqb (slice_index hashes place) hash other) in
        subst (IsFirst hashes hash place) (sym was) (first_past hashes hash place (old hash) other (were.first_is hash))
  ];
  next_is = λ k from below. elim (cases_eq k place) [
    | inl same ↦
        let at = get_or-set_same next place (old (slice_index hashes place)) None (omega (arith, within, were.long)) in
        subst (λ z. IsFirst hashes (slice_index hashes z) (z + 1) (slice_index_or (set next place (old (slice_index hashes place))) z None)) (sym same)
        (subst (IsFirst hashes (slice_index hashes place) (place + 1)) (sym at) (were.first_is (slice_index hashes place)))
    | inr other ↦
        subst (IsFirst hashes (slice_index hashes k) (k + 1)) (sym (get_or-set_other next place k (old (slice_index hashes place)) None other))
        (were.next_is k (omega (arith, from, other)) below)
  ];
}

-- ---- the first item that passes

passes_none : {X : Type 0} (p : X → Bool) (xs : List X) → ((k : ℕ) (d : X) → k < length xs → p (get_or xs k d) ≡ false) → position_or_len p xs ≡ length xs
passes_none p [] fails = refl
passes_none {X} p (x ∷ xs) fails =
    let rest = passes_none p xs (λ k d below. fails (suc k) d (omega (arith, below))) in
    ap (λ b. cond (not b) (1 + position_or_len p xs) 0) (fails 0 x (omega arith)) ∙ omega (arith, rest)

passes_at : {X : Type 0} (p : X → Bool) (xs : List X) (n : ℕ) (x : X) → n < length xs → p (get_or xs n x) ≡ true → ((k : ℕ) (d : X) → k < n → p (get_or xs k d) ≡ false) → position_or_len p xs ≡ n
passes_at p [] n x within is fails = absurd (omega (arith, within))
passes_at p (y ∷ ys) zero x within is fails = ap (λ b. cond (not b) (1 + position_or_len p ys) 0) is
passes_at p (y ∷ ys) (suc n) x within is fails =
    let rest = passes_at p ys n x (omega (arith, within)) is (λ k d below. fails (suc k) d (omega (arith, below))) in
    ap (λ b. cond (not b) (1 + position_or_len p ys) 0) (fails 0 y (omega arith)) ∙ omega (arith, rest)

pub position_none : {X : Type 0} (p : X → Bool) (xs : List X) → ((k : ℕ) (d : X) → k < length xs → p (get_or xs k d) ≡ false) → None ≡ position p xs
position_none p xs fails =
    let size = length xs in
    let past : nat_lt (length xs) (length xs) ≡ false = grind arith in
    sym (ap (λ m. cond (nat_lt m (length xs)) (Some m) None) (passes_none p xs fails) ∙ ap (λ b. cond b (Some size) None) past)

pub position_at : {X : Type 0} (p : X → Bool) (xs : List X) (n : ℕ) (x : X) → n < length xs → p (get_or xs n x) ≡ true → ((k : ℕ) (d : X) → k < n → p (get_or xs k d) ≡ false) → Some n ≡ position p xs
position_at p xs n x within is fails =
    sym (ap (λ m. cond (nat_lt m (length xs)) (Some m) None) (passes_at p xs n x within is fails) ∙ ap (λ b. cond b (Some n) None) ((Decides-ltb n (length xs)).1 within))

-- ---- a search over the places of one hash

-- each item that passes has the hash
abbrev pub AreAlike : {X : Type 0} (p : X → Bool) (xs : List X) (places : List ℕ) → ℕ → Type 0
AreAlike {X} p xs places hash = (k : ℕ) (d : X) → k < length xs → p (get_or xs k d) ≡ true → slice_index places k ≡ hash

-- no item before a place, or before the end, passes, and the hash stands at the place
abbrev pub Searches : {X : Type 0} (p : X → Bool) (xs : List X) (places : List ℕ) (hash : ℕ) → Option ℕ → Type 0
Searches {X} p xs places hash None = (k : ℕ) (d : X) → k < length xs → p (get_or xs k d) ≡ false
Searches {X} p xs places hash (Some n) = (n < length xs) × (slice_index places n ≡ hash) × ((k : ℕ) (d : X) → k < n → p (get_or xs k d) ≡ false)

-- how many items are left from a place on
abbrev pub left_from : {X : Type 0} → List X → Option ℕ → ℕ
left_from xs None = 0
left_from xs (Some n) = length xs - n

module _ {X : Type 0} (p : X → Bool) (xs : List X) (places : List ℕ) (hash : ℕ) (long : length places ≡ length xs) (alike : AreAlike p xs places hash) where
  other_fails : (k : ℕ) (d : X) → k < length xs → slice_index places k ≢ hash → p (get_or xs k d) ≡ false
  other_fails k d within apart = elim (cases_Bool (p (get_or xs k d))) [
    | inl is ↦ absurd (apart (alike k d within is))
    | inr is ↦ is
  ]

  -- from a place before which none passes on to the next place of the hash
  pub searches_on : (from : ℕ) (o : Option ℕ) → IsFirst places hash from o → ((k : ℕ) (d : X) → k < from → k < length xs → p (get_or xs k d) ≡ false) → Searches p xs places hash o
  searches_on from None first before = λ k d within. elim (cases_lt k from) [
    | inl less ↦ before k d less within
    | inr past ↦ other_fails k d within (first k past (omega (arith, within, long)))
  ]
  searches_on from (Some n) first before =
      let inside : n < length xs = omega (arith, first.1, long) in (
        inside,
        first.2,
        λ k d less. elim (cases_lt k from) [
          | inl earlier ↦ before k d earlier (omega (arith, less, inside))
          | inr past ↦ other_fails k d (omega (arith, less, inside)) (first.3 k past less)
        ],
      )

  -- on from a place that does not pass
  pub searches_next : (n : ℕ) (o : Option ℕ) → Searches p xs places hash (Some n) → ((d : X) → p (get_or xs n d) ≡ false) → IsFirst places (slice_index places n) (n + 1) o
      → Searches p xs places hash o × (left_from xs o < left_from xs (Some n))
  searches_next n o old fails first =
      let next : IsFirst places hash (n + 1) o = subst (λ h. IsFirst places h (n + 1) o) old.1 first in (
        searches_on (n + 1) o next (λ k d less within. elim (cases_eq k n) [
          | inl same ↦ subst (λ z. p (get_or xs z d) ≡ false) (sym same) (fails d)
          | inr other ↦ old.2 k d (omega (arith, less, other))
        ]),
        fewer o next,
      )
    where
      fewer : (o : Option ℕ) → IsFirst places hash (n + 1) o → left_from xs o < left_from xs (Some n)
      fewer None first = omega (arith, old.0)
      fewer (Some m) first = omega (arith, old.0, first.0, first.1, long)
