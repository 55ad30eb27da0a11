-- What holds of kept edges holds where they have more to them than their ends.
use Rattle.std.proofs.Common.{◌≡◌, ℕ, Bool, true, false, ◌&&◌, cond, inl, inr, List, [], ◌∷◌, ◌++◌, map, refl, sym, ap, ◌∙◌, append_assoc, subst}
use Rattle.std.specs.List.{All}
use Rattle.std.proofs.lemmas.Bool.{and_from, and_parts, cases_Bool}
use Rattle.std.proofs.lemmas.List.{append-nil, map-append}
use Rattle.std.proofs.lemmas.List.Elements.{All-head, All-nil, All-tail, All-weaker, filter-append}
use Rattle.std.proofs.lemmas.List.Sums.{fold-append}
use Rattle.graph_base.specs.EdgeList.{Edge, reach_over}
use Rattle.pm_lower_crates.specs.KeptColumns.{among_by, keep_by, kept_by_ends}
use Rattle.pm_lower_crates.specs.ClosedFront.{IsBetweenPassing, IsClosedBy, IsClosedFront, IsOneToOne, edges_of_passing, renamed_edge, renamed_edges}
use Rattle.pm_lower_crates.specs.KeptFrom.{keep_pair, pairs_kept_from}
use Rattle.pm_lower_crates.proofs.AmongLemmas.{among_between, closed_before, reach_among}
use Rattle.pm_lower_crates.proofs.ClosedFrontLemmas.{LeadsIn, StartsOut, Stays, reach_past}
use Rattle.pm_lower_crates.proofs.KeepLemmas.{all_keep, all_kept, kept_from-first, kept_from-none}
use Rattle.pm_lower_crates.proofs.RenamedLemmas.{reach_renamed}

module _ {E : Type 0} (ends : E → Edge) where
  pub kept_by-first : (front more : List E) (e : E) → kept_by_ends ends front (e ∷ more) ≡ kept_by_ends ends (keep_by ends front e) more
  unfolding kept_by_ends
  kept_by-first front more e = refl

  pub kept_by-none : (front : List E) → kept_by_ends ends front [] ≡ front
  unfolding kept_by_ends
  kept_by-none front = refl

  -- the ends of the kept edges
  pub keep_ends : (kept : List E) (e : E) → map ends (keep_by ends kept e) ≡ keep_pair (map ends kept) (ends e)
  keep_ends kept e = split (reach_over (map ends kept) (ends e).1 (ends e).0)
    where
      split : (b : Bool) → map ends (cond b kept (kept ++ e ∷ [])) ≡ cond b (map ends kept) (map ends kept ++ ends e ∷ [])
      split true = refl
      split false = map-append ends kept (e ∷ [])

  pub kept_ends : (front wanted : List E) → map ends (kept_by_ends ends front wanted) ≡ pairs_kept_from (map ends front) (map ends wanted)
  kept_ends front [] = ap (map ends) (kept_by-none front) ∙ sym (kept_from-none (map ends front))
  kept_ends front (e ∷ wanted) =
      ap (map ends) (kept_by-first front wanted e) ∙ kept_ends (keep_by ends front e) wanted
      ∙ ap (λ z. pairs_kept_from z (map ends wanted)) (keep_ends front e) ∙ sym (kept_from-first (map ends front) (map ends wanted) (ends e))

  -- ---- behind a front

  keep_past : (in_front : ℕ → Bool) (front es : List E) (e : E) → All (LeadsIn in_front) (map ends front) → All (StartsOut in_front) (map ends es) → in_front (ends e).0 ≡ false
      → keep_by ends (front ++ es) e ≡ front ++ keep_by ends es e
  keep_past in_front front es e closed out is =
      ap (λ z. cond (reach_over z (ends e).1 (ends e).0) (front ++ es) ((front ++ es) ++ e ∷ [])) (map-append ends front es)
      ∙ ap (λ b. cond b (front ++ es) ((front ++ es) ++ e ∷ [])) (reach_past in_front (map ends front) (map ends es) (ends e).1 (ends e).0 closed out is)
      ∙ split (reach_over (map ends es) (ends e).1 (ends e).0)
    where
      split : (b : Bool) → cond b (front ++ es) ((front ++ es) ++ e ∷ []) ≡ front ++ cond b es (es ++ e ∷ [])
      split true = refl
      split false = append_assoc front es (e ∷ [])

  kept_past : (in_front : ℕ → Bool) (front es more : List E) → All (LeadsIn in_front) (map ends front) → All (StartsOut in_front) (map ends es) → All (StartsOut in_front) (map ends more)
      → kept_by_ends ends (front ++ es) more ≡ front ++ kept_by_ends ends es more
  kept_past in_front front es [] closed out later = kept_by-none (front ++ es) ∙ ap (λ z. front ++ z) (sym (kept_by-none es))
  kept_past in_front front es (e ∷ more) closed out later =
      let here = All-head (StartsOut in_front) (ends e) (map ends more) later in
      let next = subst (All (StartsOut in_front)) (sym (keep_ends es e)) (all_keep (StartsOut in_front) (map ends es) (ends e) out here) in
      kept_by-first (front ++ es) more e ∙ ap (λ z. kept_by_ends ends z more) (keep_past in_front front es e closed out here)
      ∙ kept_past in_front front (keep_by ends es e) more closed next (All-tail (StartsOut in_front) (ends e) (map ends more) later)
      ∙ ap (λ z. front ++ z) (sym (kept_by-first es more e))

  pub columns_apart : (in_front : ℕ → Bool) (front wanted : List E) → IsClosedFront in_front (map ends front) (map ends wanted) → kept_by_ends ends front wanted ≡ front ++ kept_by_ends ends [] wanted
  columns_apart in_front front wanted is =
      ap (λ z. kept_by_ends ends z wanted) (sym (append-nil front)) ∙ kept_past in_front front [] wanted is.closed (All-nil (StartsOut in_front)) is.behind

  -- ---- renamed

  module _ (passes : ℕ → Bool) (name : ℕ → ℕ) (is : IsOneToOne passes name) (rename : E → E) (ends_are : (e : E) → ends (rename e) ≡ renamed_edge name (ends e)) where
    renamed_ends : (es : List E) → map ends (map rename es) ≡ renamed_edges name (map ends es)
    renamed_ends [] = refl
    renamed_ends (e ∷ es) = ap (λ z. z ∷ map ends (map rename es)) (ends_are e) ∙ ap (λ z. renamed_edge name (ends e) ∷ z) (renamed_ends es)

    keep_renamed : (kept : List E) (e : E) → All (IsBetweenPassing passes) (map ends kept) → IsBetweenPassing passes (ends e) → keep_by ends (map rename kept) (rename e) ≡ map rename (keep_by ends kept e)
    keep_renamed kept e all between =
        let grown = map rename kept ++ rename e ∷ [] in
        ap (λ z. cond (reach_over z (ends (rename e)).1 (ends (rename e)).0) (map rename kept) grown) (renamed_ends kept)
        ∙ ap (λ z. cond (reach_over (renamed_edges name (map ends kept)) z.1 z.0) (map rename kept) grown) (ends_are e)
        ∙ ap (λ b. cond b (map rename kept) grown) (reach_renamed passes name is (map ends kept) (ends e).1 (ends e).0 all between.target between.source)
        ∙ split (reach_over (map ends kept) (ends e).1 (ends e).0)
      where
        split : (b : Bool) → cond b (map rename kept) (map rename kept ++ rename e ∷ []) ≡ map rename (cond b kept (kept ++ e ∷ []))
        split true = refl
        split false = sym (map-append rename kept (e ∷ []))

    pub columns_renamed : (front wanted : List E) → All (IsBetweenPassing passes) (map ends front) → All (IsBetweenPassing passes) (map ends wanted)
        → kept_by_ends ends (map rename front) (map rename wanted) ≡ map rename (kept_by_ends ends front wanted)
    columns_renamed front [] all later = kept_by-none (map rename front) ∙ ap (map rename) (sym (kept_by-none front))
    columns_renamed front (e ∷ wanted) all later =
        let between = All-head (IsBetweenPassing passes) (ends e) (map ends wanted) later in
        let next = subst (All (IsBetweenPassing passes)) (sym (keep_ends front e)) (all_keep (IsBetweenPassing passes) (map ends front) (ends e) all between) in
        kept_by-first (map rename front) (map rename wanted) (rename e)
        ∙ ap (λ z. kept_by_ends ends z (map rename wanted)) (keep_renamed front e all between)
        ∙ columns_renamed (keep_by ends front e) wanted next (All-tail (IsBetweenPassing passes) (ends e) (map ends wanted) later)
        ∙ ap (map rename) (sym (kept_by-first front wanted e))

  -- ---- without some nodes

  module _ (stays : ℕ → Bool) where
    abbrev IsInside : E → Bool
    IsInside e = stays (ends e).0 && stays (ends e).1

    ends_of_choice : (b : Bool) (e : E) (es : List E) (rest : List Edge) → map ends es ≡ rest → map ends (cond b (e ∷ es) es) ≡ cond b (ends e ∷ rest) rest
    ends_of_choice true e es rest is = ap (λ z. ends e ∷ z) is
    ends_of_choice false e es rest is = is

    among_ends : (es : List E) → map ends (among_by ends stays es) ≡ edges_of_passing stays (map ends es)
    among_ends [] = refl
    among_ends (e ∷ es) = ends_of_choice (IsInside e) e (among_by ends stays es) (edges_of_passing stays (map ends es)) (among_ends es)

    one_among : (e : E) (es : List E) (b : Bool) → IsInside e ≡ b → among_by ends stays (e ∷ es) ≡ cond b (e ∷ among_by ends stays es) (among_by ends stays es)
    one_among e es b is = ap (λ b. cond b (e ∷ among_by ends stays es) (among_by ends stays es)) is

    among_push : (kept : List E) (e : E) → among_by ends stays (kept ++ e ∷ []) ≡ among_by ends stays kept ++ among_by ends stays (e ∷ [])
    among_push kept e = filter-append (λ (x : E). IsInside x) kept (e ∷ [])

    keep_inside : (kept : List E) (e : E) → IsClosedBy stays (map ends kept) → IsInside e ≡ true → keep_by ends (among_by ends stays kept) e ≡ among_by ends stays (keep_by ends kept e)
    keep_inside kept e closed is =
        let old = among_by ends stays kept in
        ap (λ z. cond (reach_over z (ends e).1 (ends e).0) old (old ++ e ∷ [])) (among_ends kept)
        ∙ ap (λ b. cond b old (old ++ e ∷ [])) (reach_among stays (map ends kept) (ends e).1 (ends e).0 closed (and_parts (stays (ends e).0) (stays (ends e).1) is).1)
        ∙ split (reach_over (map ends kept) (ends e).1 (ends e).0)
      where
        split : (b : Bool) → cond b (among_by ends stays kept) (among_by ends stays kept ++ e ∷ []) ≡ among_by ends stays (cond b kept (kept ++ e ∷ []))
        split true = refl
        split false = ap (λ z. among_by ends stays kept ++ z) (sym (one_among e [] true is)) ∙ sym (among_push kept e)

    keep_outside : (kept : List E) (e : E) → IsInside e ≡ false → among_by ends stays (keep_by ends kept e) ≡ among_by ends stays kept
    keep_outside kept e is = split (reach_over (map ends kept) (ends e).1 (ends e).0)
      where
        split : (b : Bool) → among_by ends stays (cond b kept (kept ++ e ∷ [])) ≡ among_by ends stays kept
        split true = refl
        split false = among_push kept e ∙ ap (λ z. among_by ends stays kept ++ z) (one_among e [] false is) ∙ append-nil (among_by ends stays kept)

    pub columns_among : (front wanted : List E) → IsClosedBy stays (map ends (kept_by_ends ends front wanted))
        → kept_by_ends ends (among_by ends stays front) (among_by ends stays wanted) ≡ among_by ends stays (kept_by_ends ends front wanted)
    columns_among front [] closed = kept_by-none (among_by ends stays front) ∙ ap (among_by ends stays) (sym (kept_by-none front))
    columns_among front (e ∷ wanted) closed =
        let old = among_by ends stays front in
        let more = among_by ends stays wanted in
        let later : IsClosedBy stays (map ends (kept_by_ends ends (keep_by ends front e) wanted)) = subst (λ z. IsClosedBy stays (map ends z)) (kept_by-first front wanted e) closed in
        let before : IsClosedBy stays (map ends front) = closed_before stays (map ends front) (map ends (e ∷ wanted)) (subst (IsClosedBy stays) (kept_ends front (e ∷ wanted)) closed) in
        let rest = columns_among (keep_by ends front e) wanted later in
        let whole = ap (among_by ends stays) (sym (kept_by-first front wanted e)) in
        elim (cases_Bool (IsInside e)) [
          | inl is ↦
              ap (kept_by_ends ends old) (one_among e wanted true is) ∙ kept_by-first old more e
              ∙ ap (λ z. kept_by_ends ends z more) (keep_inside front e before is) ∙ rest ∙ whole
          | inr is ↦
              ap (kept_by_ends ends old) (one_among e wanted false is)
              ∙ ap (λ z. kept_by_ends ends z more) (sym (keep_outside front e is)) ∙ rest ∙ whole
        ]

module _ {E : Type 0} (ends : E → Edge) where
  -- wanted edges in two parts: the second is kept from what the first left
  pub kept_by-append : (front xs ys : List E) → kept_by_ends ends front (xs ++ ys) ≡ kept_by_ends ends (kept_by_ends ends front xs) ys
  unfolding kept_by_ends
  kept_by-append front xs ys = fold-append (keep_by ends) front xs ys

  all_inside : (stays : ℕ → Bool) (es : List E) → All (IsBetweenPassing stays) (map ends es) → among_by ends stays es ≡ es
  all_inside stays [] all = refl
  all_inside stays (e ∷ es) all =
      let both = All-head (IsBetweenPassing stays) (ends e) (map ends es) all in
      one_among ends stays e es true (and_from (stays (ends e).0) (stays (ends e).1) both.source both.target)
      ∙ ap (λ z. e ∷ z) (all_inside stays es (All-tail (IsBetweenPassing stays) (ends e) (map ends es) all))

  -- edges that are kept of all, of those nodes that stay, renamed, are those that are kept behind a front: what is kept of
  -- the first, without the nodes that go, renamed
  pub columns_joined : (stays : ℕ → Bool) (name : ℕ → ℕ) (rename : E → E) (first second : List E) → IsOneToOne stays name
      → ((e : E) → ends (rename e) ≡ renamed_edge name (ends e)) → IsClosedBy stays (map ends (kept_by_ends ends [] first)) → All (IsBetweenPassing stays) (map ends second)
      → kept_by_ends ends (map rename (among_by ends stays (kept_by_ends ends [] first))) (map rename second) ≡ map rename (among_by ends stays (kept_by_ends ends [] (first ++ second)))
  columns_joined stays name rename first second is ends_are closed all =
      let old = kept_by_ends ends [] first in
      let between : All (IsBetweenPassing stays) (map ends (among_by ends stays old)) =
      subst (All (IsBetweenPassing stays)) (sym (among_ends ends stays old)) (among_between stays (map ends old)) in
      let later : IsClosedBy stays (map ends second) = All-weaker (IsBetweenPassing stays) (Stays stays) (λ e both from. both.target) (map ends second) all in
      let whole : IsClosedBy stays (map ends (kept_by_ends ends old second)) =
      subst (IsClosedBy stays) (sym (kept_ends ends old second)) (all_kept (Stays stays) (map ends old) (map ends second) closed later) in
      columns_renamed ends stays name is rename ends_are (among_by ends stays old) second between all
      ∙ ap (map rename)
      (ap (kept_by_ends ends (among_by ends stays old)) (sym (all_inside stays second all))
      ∙ columns_among ends stays old second whole
      ∙ ap (among_by ends stays) (sym (kept_by-append [] first second)))
