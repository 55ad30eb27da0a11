-- Keeping commutes with leaving out nodes, where no kept edge leads from a node that stays to one that does not.
use Rattle.std.proofs.Common.{◌≡◌, ℕ, Bool, true, false, ◌&&◌, ◌||◌, cond, inl, inr, List, [], ◌∷◌, ◌++◌, refl, sym, ap, ◌∙◌, append_assoc, subst}
use Rattle.std.specs.List.{All}
use Rattle.std.proofs.lemmas.Bool.{and_from, and_left, and_parts, cases_Bool}
use Rattle.std.proofs.lemmas.List.{append-nil}
use Rattle.std.proofs.lemmas.List.Elements.{All-cons, All-head, All-nil, All-tail, All-weaker, filter-append, filter_passes}
use Rattle.graph_base.specs.EdgeList.{Edge, reach_over}
use Rattle.pm_lower_crates.specs.ClosedFront.{IsBetweenPassing, IsClosedBy, IsOneToOne, edges_of_passing, renamed_edges}
use Rattle.pm_lower_crates.specs.KeptFrom.{keep_pair, kept_pairs, pairs_kept_from}
use Rattle.pm_lower_crates.proofs.ClosedFrontLemmas.{Stays, none_out, or_none}
use Rattle.pm_lower_crates.proofs.KeepLemmas.{all_kept, keep_if, kept_from-append, kept_from-first, kept_from-none}
use Rattle.pm_lower_crates.proofs.RenamedLemmas.{kept_renamed}

-- all edges before and after one more is kept, or dropped
pub keep_grows : (kept : List Edge) (e : Edge) → (extra : List Edge) × (keep_pair kept e ≡ kept ++ extra)
keep_grows kept e = elim (cases_Bool (reach_over kept e.1 e.0)) [
  | inl closes ↦ ([], keep_if true kept e closes ∙ sym (append-nil kept))
  | inr apart ↦ (e ∷ [], keep_if false kept e apart)
]

pub kept_grows : (front wanted : List Edge) → (extra : List Edge) × (pairs_kept_from front wanted ≡ front ++ extra)
kept_grows front [] = ([], kept_from-none front ∙ sym (append-nil front))
kept_grows front (e ∷ wanted) =
    let one = keep_grows front e in
    let more = kept_grows (keep_pair front e) wanted in
    (one.0 ++ more.0, kept_from-first front wanted e ∙ more.1 ∙ ap (λ z. z ++ more.0) one.1 ∙ append_assoc front one.0 more.0)

All-first : (P : Edge → Type 0) (xs ys : List Edge) → All P (xs ++ ys) → All P xs
All-first P [] ys all = All-nil P
All-first P (x ∷ xs) ys all = All-cons P x xs (All-head P x (xs ++ ys) all) (All-first P xs ys (All-tail P x (xs ++ ys) all))

module _ (stays : ℕ → Bool) where
  one_among : (e : Edge) (es : List Edge) → (stays e.0 && stays e.1) ≡ true → edges_of_passing stays (e ∷ es) ≡ e ∷ edges_of_passing stays es
  one_among e es is = ap (λ b. cond b (e ∷ edges_of_passing stays es) (edges_of_passing stays es)) is

  none_among : (e : Edge) (es : List Edge) → (stays e.0 && stays e.1) ≡ false → edges_of_passing stays (e ∷ es) ≡ edges_of_passing stays es
  none_among e es is = ap (λ b. cond b (e ∷ edges_of_passing stays es) (edges_of_passing stays es)) is

  -- a node that stays reaches the same over the edges that stay
  pub reach_among : (es : List Edge) (a b : ℕ) → IsClosedBy stays es → stays a ≡ true → reach_over (edges_of_passing stays es) a b ≡ reach_over es a b
  reach_among [] a b closed from = refl
  reach_among (e ∷ es) a b closed from =
      let rest = All-tail (Stays stays) e es closed in
      elim (cases_Bool (stays e.0)) [
        | inl here ↦
            let there : stays e.1 ≡ true = All-head (Stays stays) e es closed here in
            ap (λ z. reach_over z a b) (one_among e es (and_from (stays e.0) (stays e.1) here there))
            ∙ ap (λ z. z || (reach_over (edges_of_passing stays es) a e.0 && reach_over (edges_of_passing stays es) e.1 b)) (reach_among es a b rest from)
            ∙ ap (λ z. reach_over es a b || (z && reach_over (edges_of_passing stays es) e.1 b)) (reach_among es a e.0 rest from)
            ∙ ap (λ z. reach_over es a b || (reach_over es a e.0 && z)) (reach_among es e.1 b rest there)
        | inr not ↦
            ap (λ z. reach_over z a b) (none_among e es (and_left (stays e.0) (stays e.1) not))
            ∙ reach_among es a b rest from
            ∙ sym (or_none (reach_over es a b) (reach_over es a e.0 && reach_over es e.1 b)
            (and_left (reach_over es a e.0) (reach_over es e.1 b) (none_out stays es a e.0 rest from not)))
      ]

  among_push : (kept : List Edge) (e : Edge) → edges_of_passing stays (kept ++ e ∷ []) ≡ edges_of_passing stays kept ++ edges_of_passing stays (e ∷ [])
  among_push kept e = filter-append (λ (x : Edge). stays x.0 && stays x.1) kept (e ∷ [])

  -- an edge that stays
  keep_inside : (kept : List Edge) (e : Edge) → IsClosedBy stays kept → stays e.1 ≡ true → (stays e.0 && stays e.1) ≡ true
      → keep_pair (edges_of_passing stays kept) e ≡ edges_of_passing stays (keep_pair kept e)
  keep_inside kept e closed target is =
      ap (λ b. cond b (edges_of_passing stays kept) (edges_of_passing stays kept ++ e ∷ [])) (reach_among kept e.1 e.0 closed target)
      ∙ split (reach_over kept e.1 e.0)
    where
      split : (b : Bool) → cond b (edges_of_passing stays kept) (edges_of_passing stays kept ++ e ∷ []) ≡ edges_of_passing stays (cond b kept (kept ++ e ∷ []))
      split true = refl
      split false = ap (λ z. edges_of_passing stays kept ++ z) (sym (one_among e [] is)) ∙ sym (among_push kept e)

  -- an edge that does not
  keep_outside : (kept : List Edge) (e : Edge) → (stays e.0 && stays e.1) ≡ false → edges_of_passing stays (keep_pair kept e) ≡ edges_of_passing stays kept
  keep_outside kept e is = split (reach_over kept e.1 e.0)
    where
      split : (b : Bool) → edges_of_passing stays (cond b kept (kept ++ e ∷ [])) ≡ edges_of_passing stays kept
      split true = refl
      split false = among_push kept e ∙ ap (λ z. edges_of_passing stays kept ++ z) (none_among e [] is) ∙ append-nil (edges_of_passing stays kept)

  -- what is closed over all edges is closed over those of the front
  pub closed_before : (front wanted : List Edge) → IsClosedBy stays (pairs_kept_from front wanted) → IsClosedBy stays front
  closed_before front wanted closed =
      let grown = kept_grows front wanted in
      All-first (Stays stays) front grown.0 (subst (IsClosedBy stays) grown.1 closed)

  pub kept_among : (front wanted : List Edge) → IsClosedBy stays (pairs_kept_from front wanted)
      → pairs_kept_from (edges_of_passing stays front) (edges_of_passing stays wanted) ≡ edges_of_passing stays (pairs_kept_from front wanted)
  kept_among front [] closed = kept_from-none (edges_of_passing stays front) ∙ ap (edges_of_passing stays) (sym (kept_from-none front))
  kept_among front (e ∷ wanted) closed =
      let later : IsClosedBy stays (pairs_kept_from (keep_pair front e) wanted) = subst (IsClosedBy stays) (kept_from-first front wanted e) closed in
      let before : IsClosedBy stays front = closed_before front (e ∷ wanted) closed in
      let rest = kept_among (keep_pair front e) wanted later in
      let whole = ap (edges_of_passing stays) (sym (kept_from-first front wanted e)) in
      elim (cases_Bool (stays e.0 && stays e.1)) [
        | inl is ↦
            ap (pairs_kept_from (edges_of_passing stays front)) (one_among e wanted is)
            ∙ kept_from-first (edges_of_passing stays front) (edges_of_passing stays wanted) e
            ∙ ap (λ z. pairs_kept_from z (edges_of_passing stays wanted)) (keep_inside front e before (and_parts (stays e.0) (stays e.1) is).1 is)
            ∙ rest ∙ whole
        | inr is ↦
            ap (pairs_kept_from (edges_of_passing stays front)) (none_among e wanted is)
            ∙ ap (λ z. pairs_kept_from z (edges_of_passing stays wanted)) (sym (keep_outside front e is))
            ∙ rest ∙ whole
      ]

  -- edges between nodes that stay
  all_among : (es : List Edge) → All (IsBetweenPassing stays) es → edges_of_passing stays es ≡ es
  all_among [] all = refl
  all_among (e ∷ es) all =
      let ends = All-head (IsBetweenPassing stays) e es all in
      one_among e es (and_from (stays e.0) (stays e.1) ends.source ends.target) ∙ ap (λ z. e ∷ z) (all_among es (All-tail (IsBetweenPassing stays) e es all))

  pub among_between : (es : List Edge) → All (IsBetweenPassing stays) (edges_of_passing stays es)
  among_between es =
      All-weaker (λ (e : Edge). (stays e.0 && stays e.1) ≡ true) (IsBetweenPassing stays)
      (λ e is. let both = and_parts (stays e.0) (stays e.1) is in record { source = both.0; target = both.1 })
      (edges_of_passing stays es) (filter_passes (λ (e : Edge). stays e.0 && stays e.1) es)

-- edges that are kept of all, of those nodes that stay, renamed, are those that are kept behind a front: what is kept of the
-- first, without the nodes that go, renamed
pub joined : (stays : ℕ → Bool) (name : ℕ → ℕ) (first second : List Edge) → IsOneToOne stays name
    → IsClosedBy stays (kept_pairs first) → All (IsBetweenPassing stays) second
    → pairs_kept_from (renamed_edges name (edges_of_passing stays (kept_pairs first))) (renamed_edges name second)
    ≡ renamed_edges name (edges_of_passing stays (kept_pairs (first ++ second)))
joined stays name first second is closed all =
    let old = kept_pairs first in
    let whole : IsClosedBy stays (pairs_kept_from old second) =
    all_kept (Stays stays) old second closed (All-weaker (IsBetweenPassing stays) (Stays stays) (λ e ends from. ends.target) second all) in
    kept_renamed stays name is (edges_of_passing stays old) second (among_between stays old) all
    ∙ ap (renamed_edges name)
    (ap (pairs_kept_from (edges_of_passing stays old)) (sym (all_among stays second all))
    ∙ kept_among stays old second whole
    ∙ ap (edges_of_passing stays) (sym (kept_from-append [] first second)))
