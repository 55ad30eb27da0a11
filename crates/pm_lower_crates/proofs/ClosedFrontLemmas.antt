-- What is kept behind a closed front is what is kept without it.
use Rattle.std.proofs.Common.{◌≡◌, ℕ, Bool, true, false, ◌&&◌, ◌||◌, cond, inl, inr, List, [], ◌∷◌, ◌++◌, refl, sym, ap, ◌∙◌, append_assoc, subst}
use Rattle.std.specs.List.{All}
use Rattle.std.proofs.lemmas.Bool.{and_left, and_right, both_ways, cases_Bool, ne_eqb, or_from}
use Rattle.std.proofs.lemmas.List.{append-nil}
use Rattle.std.proofs.lemmas.List.Elements.{All-append, All-head, All-nil, All-tail, All-weaker}
use Rattle.graph_base.specs.EdgeList.{Edge, reach_over}
use Rattle.pm_lower_crates.specs.ClosedFront.{IsClosedBy, IsClosedFront}
use Rattle.pm_lower_crates.specs.KeptFrom.{keep_pair, kept_pairs, pairs_kept_from}
use Rattle.pm_lower_crates.proofs.KeepLemmas.{all_keep, kept_from-first, kept_from-none}

module _ (passes : ℕ → Bool) where
  abbrev pub Stays : Edge → Type 0
  Stays e = passes e.0 ≡ true → passes e.1 ≡ true

  -- from a node that passes none is reached that does not
  pub none_out : (es : List Edge) (a b : ℕ) → IsClosedBy passes es → passes a ≡ true → passes b ≡ false → reach_over es a b ≡ false
  none_out [] a b closed from out = ne_eqb a b (λ same. both_ways (passes b) out (subst (λ z. passes z ≡ true) same from))
  none_out (e ∷ es) a b closed from out =
      let rest = All-tail Stays e es closed in
      or_from (reach_over es a b) (reach_over es a e.0 && reach_over es e.1 b) (none_out es a b rest from out)
      (elim (cases_Bool (passes e.0)) [
        | inl here ↦ and_right (reach_over es a e.0) (reach_over es e.1 b) (none_out es e.1 b rest (All-head Stays e es closed here) out)
        | inr not ↦ and_left (reach_over es a e.0) (reach_over es e.1 b) (none_out es a e.0 rest from not)
      ])

-- with nothing beside it
pub or_none : (b c : Bool) → c ≡ false → (b || c) ≡ b
or_none true c is = refl
or_none false c is = is

module _ (in_front : ℕ → Bool) where
  abbrev pub LeadsIn : Edge → Type 0
  LeadsIn e = in_front e.1 ≡ true

  abbrev pub StartsOut : Edge → Type 0
  StartsOut e = in_front e.0 ≡ false

  abbrev StaysIn : Edge → Type 0
  StaysIn e = in_front e.0 ≡ true → in_front e.1 ≡ true

  pub out_closed : (es : List Edge) → All StartsOut es → IsClosedBy in_front es
  out_closed es out = All-weaker StartsOut StaysIn (λ e is from. absurd (both_ways (in_front e.0) is from)) es out

  pub in_closed : (es : List Edge) → All LeadsIn es → IsClosedBy in_front es
  in_closed es leads = All-weaker LeadsIn StaysIn (λ e is from. is) es leads

  -- a node outside is reached over the edges of a front and others just where it is reached over the others
  pub reach_past : (front es : List Edge) (a b : ℕ) → All LeadsIn front → All StartsOut es → in_front b ≡ false → reach_over (front ++ es) a b ≡ reach_over es a b
  reach_past [] es a b closed out is = refl
  reach_past (e ∷ front) es a b closed out is =
      let rest = All-tail LeadsIn e front closed in
      let all : IsClosedBy in_front (front ++ es) = All-append StaysIn front es (in_closed front rest) (out_closed es out) in
      let never = none_out in_front (front ++ es) e.1 b all (All-head LeadsIn e front closed) is in
      or_none (reach_over (front ++ es) a b) (reach_over (front ++ es) a e.0 && reach_over (front ++ es) e.1 b)
      (and_right (reach_over (front ++ es) a e.0) (reach_over (front ++ es) e.1 b) never)
      ∙ reach_past front es a b rest out is

  keep_past : (front es : List Edge) (e : Edge) → All LeadsIn front → All StartsOut es → in_front e.0 ≡ false → keep_pair (front ++ es) e ≡ front ++ keep_pair es e
  keep_past front es e closed out is =
      ap (λ b. cond b (front ++ es) ((front ++ es) ++ e ∷ [])) (reach_past front es e.1 e.0 closed out is)
      ∙ split (reach_over es e.1 e.0)
    where
      split : (b : Bool) → cond b (front ++ es) ((front ++ es) ++ e ∷ []) ≡ front ++ cond b es (es ++ e ∷ [])
      split true = refl
      split false = append_assoc front es (e ∷ [])

  kept_past : (front es more : List Edge) → All LeadsIn front → All StartsOut es → All StartsOut more → pairs_kept_from (front ++ es) more ≡ front ++ pairs_kept_from es more
  kept_past front es [] closed out later = kept_from-none (front ++ es) ∙ ap (λ z. front ++ z) (sym (kept_from-none es))
  kept_past front es (e ∷ more) closed out later =
      let here = All-head StartsOut e more later in
      kept_from-first (front ++ es) more e ∙ ap (λ z. pairs_kept_from z more) (keep_past front es e closed out here)
      ∙ kept_past front (keep_pair es e) more closed (all_keep StartsOut es e out here) (All-tail StartsOut e more later)
      ∙ ap (λ z. front ++ z) (sym (kept_from-first es more e))

-- what is kept behind a front is what is kept without it
pub front_apart : (in_front : ℕ → Bool) (front wanted : List Edge) → IsClosedFront in_front front wanted → pairs_kept_from front wanted ≡ front ++ kept_pairs wanted
front_apart in_front front wanted is =
    ap (λ z. pairs_kept_from z wanted) (sym (append-nil front)) ∙ kept_past in_front front [] wanted is.closed (All-nil (λ (e : Edge). in_front e.0 ≡ false)) is.behind
