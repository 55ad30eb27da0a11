-- The targets of a node over the edges of a graph, and over those kept behind a front.
use Rattle.std.proofs.Common.{◌≡◌, ℕ, zero, suc, ◌+◌, ◌<◌, ◌≤◌, Bool, true, false, List, [], ◌∷◌, ◌++◌, map, get_or, length, refl, sym, ap, ◌∙◌, subst, arith}
use Rattle.std.specs.List.{All}
use Rattle.std.proofs.lemmas.Bool.{both_ways}
use Rattle.std.proofs.lemmas.List.{append-nil, get_or_default, same_lists}
use Rattle.std.proofs.lemmas.List.Elements.{All-append, All-cons, All-head, All-nil, All-tail, Contains-get_or}
use Rattle.graph_base.specs.EdgeList.{Edge, IsEdgeWithin, graph_of, targets_of}
use Rattle.graph_base.specs.Edges.{IsInRange}
use Rattle.graph_base.proofs.EdgeListLemmas.{length-graph_of, row-graph_of, targets_of-append, targets_of-other, targets_of-same}
use Rattle.pm_lower_crates.specs.ClosedFront.{IsBetweenPassing, IsClosedFront, edges_of, edges_of_rows}
use Rattle.pm_lower_crates.specs.KeptFrom.{kept_pairs, pairs_kept_from}
use Rattle.pm_lower_crates.proofs.ClosedFrontLemmas.{StartsOut, front_apart}
use Rattle.pm_lower_crates.proofs.KeepLemmas.{all_kept}

-- edges of other nodes give a node no targets
pub none_of : (P : Edge → Type 0) (a : ℕ) → ((e : Edge) → P e → e.0 ≡ a → ⊥) → (es : List Edge) → All P es → targets_of es a ≡ []
none_of P a other [] all = refl
none_of P a other (e ∷ es) all =
    targets_of-append (e ∷ []) es a ∙ ap (λ z. z ++ targets_of es a) (targets_of-other e a (other e (All-head P e es all))) ∙ none_of P a other es (All-tail P e es all)

module _ (in_front : ℕ → Bool) (front wanted : List Edge) (is : IsClosedFront in_front front wanted) where
  parts : (a : ℕ) → targets_of (pairs_kept_from front wanted) a ≡ targets_of front a ++ targets_of (kept_pairs wanted) a
  parts a = ap (λ z. targets_of z a) (front_apart in_front front wanted is) ∙ targets_of-append front (kept_pairs wanted) a

  -- a node of the front has the targets that it had
  pub targets_in_front : (a : ℕ) → in_front a ≡ true → targets_of (pairs_kept_from front wanted) a ≡ targets_of front a
  targets_in_front a in' =
      let none = none_of (StartsOut in_front) a (λ e out same. both_ways (in_front a) (subst (λ z. in_front z ≡ false) same out) in')
      (kept_pairs wanted) (all_kept (StartsOut in_front) [] wanted (All-nil (StartsOut in_front)) is.behind) in
      parts a ∙ ap (λ z. targets_of front a ++ z) none ∙ append-nil (targets_of front a)

  -- any other has those that are kept without the front
  pub targets_behind : (a : ℕ) → All (IsBetweenPassing in_front) front → in_front a ≡ false → targets_of (pairs_kept_from front wanted) a ≡ targets_of (kept_pairs wanted) a
  targets_behind a between out =
      parts a ∙ ap (λ z. z ++ targets_of (kept_pairs wanted) a)
      (none_of (IsBetweenPassing in_front) a (λ e ends same. both_ways (in_front a) out (subst (λ z. in_front z ≡ true) same ends.source)) front between)

-- ---- the edges of a graph

own_targets : (n : ℕ) (r : List ℕ) → targets_of (map (λ target. (n, target)) r) n ≡ r
own_targets n [] = refl
own_targets n (t ∷ ts) =
    targets_of-append ((n, t) ∷ []) (map (λ target. (n, target)) ts) n ∙ ap (λ z. z ++ targets_of (map (λ target. (n, target)) ts) n) (targets_of-same (n, t) n refl)
    ∙ ap (λ z. t ∷ z) (own_targets n ts)

other_targets : (n a : ℕ) (r : List ℕ) → (n ≡ a → ⊥) → targets_of (map (λ target. (n, target)) r) a ≡ []
other_targets n a [] other = refl
other_targets n a (t ∷ ts) other =
    targets_of-append ((n, t) ∷ []) (map (λ target. (n, target)) ts) a ∙ ap (λ z. z ++ targets_of (map (λ target. (n, target)) ts) a) (targets_of-other (n, t) a other)
    ∙ other_targets n a ts other

-- nodes from n on have no targets below n
targets_early : (n a : ℕ) (rs : List (List ℕ)) → a < n → targets_of (edges_of_rows n rs) a ≡ []
targets_early n a [] early = refl
targets_early n a (r ∷ rs) early =
    targets_of-append (map (λ target. (n, target)) r) (edges_of_rows (n + 1) rs) a
    ∙ ap (λ z. z ++ targets_of (edges_of_rows (n + 1) rs) a) (other_targets n a r (λ same. absurd (omega arith)))
    ∙ targets_early (n + 1) a rs (omega arith)

targets_at : (n i a : ℕ) (rs : List (List ℕ)) → n + i ≡ a → i < length rs → targets_of (edges_of_rows n rs) a ≡ get_or rs i []
targets_at n i a [] at within = absurd (omega arith)
targets_at n zero a (r ∷ rs) at within =
    let same : n ≡ a = omega arith in
    targets_of-append (map (λ target. (n, target)) r) (edges_of_rows (n + 1) rs) a
    ∙ ap (λ z. targets_of (map (λ target. (n, target)) r) z ++ targets_of (edges_of_rows (n + 1) rs) a) (sym same)
    ∙ ap (λ z. z ++ targets_of (edges_of_rows (n + 1) rs) a) (own_targets n r)
    ∙ ap (λ z. r ++ z) (targets_early (n + 1) a rs (omega arith)) ∙ append-nil r
targets_at n (suc i) a (r ∷ rs) at within =
    targets_of-append (map (λ target. (n, target)) r) (edges_of_rows (n + 1) rs) a
    ∙ ap (λ z. z ++ targets_of (edges_of_rows (n + 1) rs) a) (other_targets n a r (λ same. absurd (omega arith)))
    ∙ targets_at (n + 1) i a rs (omega arith) (omega arith)

-- a graph is that of its edges
pub graph_of-edges_of : (g : List (List ℕ)) → graph_of (length g) (edges_of g) ≡ g
graph_of-edges_of g =
    same_lists (graph_of (length g) (edges_of g)) g (length-graph_of (length g) (edges_of g))
    (λ k d within.
    let below : k < length g = omega (arith, within, length-graph_of (length g) (edges_of g)) in
    get_or_default (graph_of (length g) (edges_of g)) k d [] within ∙ row-graph_of (length g) (edges_of g) k below
    ∙ targets_at 0 k k g (omega arith) below ∙ get_or_default g k [] d below)

row_within : (count n : ℕ) (r : List ℕ) → n < count → ((k : ℕ) → k < length r → get_or r k 0 < count) → All (IsEdgeWithin count) (map (λ target. (n, target)) r)
row_within count n [] source all = All-nil (IsEdgeWithin count)
row_within count n (t ∷ ts) source all =
    All-cons (IsEdgeWithin count) (n, t) (map (λ target. (n, target)) ts) (record { source = source; target = all 0 (omega arith) })
    (row_within count n ts source (λ k within. all (suc k) (omega (arith, within))))

rows_within : (count n : ℕ) (rs : List (List ℕ)) → n + length rs ≤ count → ((i k : ℕ) → i < length rs → k < length (get_or rs i []) → get_or (get_or rs i []) k 0 < count) → All (IsEdgeWithin count) (edges_of_rows n rs)
rows_within count n [] fits all = All-nil (IsEdgeWithin count)
rows_within count n (r ∷ rs) fits all =
    All-append (IsEdgeWithin count) (map (λ target. (n, target)) r) (edges_of_rows (n + 1) rs)
    (row_within count n r (omega (arith, fits)) (λ k within. all 0 k (omega arith) within))
    (rows_within count (n + 1) rs (omega (arith, fits)) (λ i k row_at within. all (suc i) k (omega (arith, row_at)) within))

-- and they are within it
pub edges_within : (g : List (List ℕ)) → IsInRange g → All (IsEdgeWithin (length g)) (edges_of g)
edges_within g in_range =
    rows_within (length g) 0 g (omega arith) (λ i k row_at within. in_range i (get_or (get_or g i []) k 0) (Contains-get_or (get_or g i []) k 0 within))
