-- Graphs whose edges lead back, and the closure that a search finds.
use Rattle.std.proofs.Common.{◌≡◌, ℕ, List, sym, ◌∙◌, subst, arith, eqb}
use Rattle.std.specs.List.{Contains, dedup, flat_map}
use Rattle.std.specs.List.Sorted.{IsPermutation, IsSorted}
use Rattle.std.specs.Ordering.{nat_cmp}
use Rattle.std.proofs.lemmas.List.Kept.{Contains-dedup_nat, Contains-from_dedup}
use Rattle.std.proofs.lemmas.List.Sorted.{Contains-permutation, IsPermutation-sym}
use Rattle.std.proofs.lemmas.Map.Keys.{IsStrictlyIncreasing-dedup, sorted_from_strictly_increasing}
use Rattle.graph_base.specs.Edges.{HasEdge, IsInRange, row}
use Rattle.graph_base.specs.Reach.{Reaches}
use Rattle.graph_base.specs.Trail.{IsWhole, Trail}
use Rattle.graph_base.proofs.ClearLemmas.{found_reached}
use Rattle.graph_base.proofs.KeptLemmas.{edge_within}
use Rattle.graph_base.proofs.TrailLemmas.{reached_placed}
use Rattle.graph_base.specs.Reversed.{IsReversed}
use Rattle.pm_cargo_members.specs.Closure.{closure}
use Rattle.pm_cargo_members.proofs.ClosureLemmas.{is_closure, last_from_leads, leads_from_last}
use Rattle.pm_cargo_members.proofs.ListLemmas.{flat_map_in, flat_map_of}

-- a graph whose edges lead back has edges to its nodes alone
pub reversed_in_range : (back g : List (List ℕ)) → IsReversed back g → IsInRange back
reversed_in_range back g is a b e = omega (arith, edge_within g b a ((is.edges b a).0 e), is.nodes)

-- the targets of the nodes that a search found, sorted and each once, are the closure
pub closure_found : (g : List (List ℕ)) (start : ℕ) (t : Trail) (targets sorted result : List ℕ) → IsInRange g → IsWhole g start t
    → targets ≡ flat_map (row g) t.nodes → IsPermutation targets sorted → IsSorted nat_cmp sorted → result ≡ dedup eqb sorted → result ≡ closure g start
closure_found g start t targets sorted result ranged whole are moved in_order once =
    is ∙ is_closure g start (dedup eqb sorted) ranged (sorted_from_strictly_increasing (dedup eqb sorted) (IsStrictlyIncreasing-dedup sorted in_order)) sound all
  where
    is : result ≡ dedup eqb sorted
    is = once

    sound : (b : ℕ) → Contains (dedup eqb sorted) b → (c : ℕ) × HasEdge g start c × Reaches g c b
    sound b c =
        let there : Contains targets b = Contains-permutation sorted targets b (IsPermutation-sym targets sorted moved) (Contains-from_dedup eqb sorted b c) in
        let from = flat_map_in (row g) t.nodes b (subst (λ l. Contains l b) are there) in
        leads_from_last b (found_reached g start t whole.trail from.0 from.1) from.2

    all : (b : ℕ) → (c : ℕ) × HasEdge g start c × Reaches g c b → Contains (dedup eqb sorted) b
    all b l =
        let from = last_from_leads g start b l in
        let there = flat_map_of (row g) t.nodes from.0 b (reached_placed g start t whole from.0 from.1) from.2 in
        Contains-dedup_nat sorted b (Contains-permutation targets sorted b moved (subst (λ l. Contains l b) (sym are) there))
