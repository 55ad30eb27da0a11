-- Keeping commutes with a one-to-one renaming of the nodes.
use Rattle.std.proofs.Common.{◌≡◌, ℕ, Bool, true, false, ◌&&◌, ◌||◌, ◌==◌, cond, inl, inr, List, [], ◌∷◌, ◌++◌, refl, sym, ap, ◌∙◌}
use Rattle.std.specs.List.{All}
use Rattle.std.proofs.lemmas.Bool.{cases_eq, eq-eqb, ne_eqb}
use Rattle.std.proofs.lemmas.List.{map-append}
use Rattle.std.proofs.lemmas.List.Elements.{All-head, All-tail}
use Rattle.graph_base.specs.EdgeList.{Edge, reach_over}
use Rattle.pm_lower_crates.specs.ClosedFront.{IsBetweenPassing, IsOneToOne, renamed_edge, renamed_edges}
use Rattle.pm_lower_crates.specs.KeptFrom.{keep_pair, pairs_kept_from}
use Rattle.pm_lower_crates.proofs.KeepLemmas.{all_keep, kept_from-first, kept_from-none}

module _ (passes : ℕ → Bool) (name : ℕ → ℕ) (is : IsOneToOne passes name) where
  same_name : (a b : ℕ) → passes a ≡ true → passes b ≡ true → (name a == name b) ≡ (a == b)
  same_name a b from to = elim (cases_eq a b) [
    | inl same ↦ eq-eqb (name a) (name b) (ap name same) ∙ sym (eq-eqb a b same)
    | inr other ↦ ne_eqb (name a) (name b) (λ one. other (is.apart a b from to one)) ∙ sym (ne_eqb a b other)
  ]

  -- renamed nodes reach each other over the renamed edges just where they do
  pub reach_renamed : (es : List Edge) (a b : ℕ) → All (IsBetweenPassing passes) es → passes a ≡ true → passes b ≡ true
      → reach_over (renamed_edges name es) (name a) (name b) ≡ reach_over es a b
  reach_renamed [] a b all from to = same_name a b from to
  reach_renamed (e ∷ es) a b all from to =
      let rest = All-tail (IsBetweenPassing passes) e es all in
      let ends = All-head (IsBetweenPassing passes) e es all in
      ap (λ z. z || (reach_over (renamed_edges name es) (name a) (name e.0) && reach_over (renamed_edges name es) (name e.1) (name b))) (reach_renamed es a b rest from to)
      ∙ ap (λ z. reach_over es a b || (z && reach_over (renamed_edges name es) (name e.1) (name b))) (reach_renamed es a e.0 rest from ends.source)
      ∙ ap (λ z. reach_over es a b || (reach_over es a e.0 && z)) (reach_renamed es e.1 b rest ends.target to)

  keep_renamed : (kept : List Edge) (e : Edge) → All (IsBetweenPassing passes) kept → IsBetweenPassing passes e
      → keep_pair (renamed_edges name kept) (renamed_edge name e) ≡ renamed_edges name (keep_pair kept e)
  keep_renamed kept e all ends =
      ap (λ b. cond b (renamed_edges name kept) (renamed_edges name kept ++ renamed_edge name e ∷ [])) (reach_renamed kept e.1 e.0 all ends.target ends.source)
      ∙ split (reach_over kept e.1 e.0)
    where
      split : (b : Bool) → cond b (renamed_edges name kept) (renamed_edges name kept ++ renamed_edge name e ∷ []) ≡ renamed_edges name (cond b kept (kept ++ e ∷ []))
      split true = refl
      split false = sym (map-append (renamed_edge name) kept (e ∷ []))

  pub kept_renamed : (front wanted : List Edge) → All (IsBetweenPassing passes) front → All (IsBetweenPassing passes) wanted
      → pairs_kept_from (renamed_edges name front) (renamed_edges name wanted) ≡ renamed_edges name (pairs_kept_from front wanted)
  kept_renamed front [] all later = kept_from-none (renamed_edges name front) ∙ ap (renamed_edges name) (sym (kept_from-none front))
  kept_renamed front (e ∷ wanted) all later =
      let ends = All-head (IsBetweenPassing passes) e wanted later in
      kept_from-first (renamed_edges name front) (renamed_edges name wanted) (renamed_edge name e)
      ∙ ap (λ z. pairs_kept_from z (renamed_edges name wanted)) (keep_renamed front e all ends)
      ∙ kept_renamed (keep_pair front e) wanted (all_keep (IsBetweenPassing passes) front e all ends) (All-tail (IsBetweenPassing passes) e wanted later)
      ∙ ap (renamed_edges name) (sym (kept_from-first front wanted e))
