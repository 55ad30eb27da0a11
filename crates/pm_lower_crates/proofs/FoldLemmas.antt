-- The kept edges as a fold are those of the relation.
use Rattle.std.proofs.Common.{◌≡◌, ℕ, Bool, true, false, List, [], ◌∷◌, ◌++◌, map, fold, refl, if◌then◌else◌}
use Rattle.std.specs.List.{All}
use Rattle.std.proofs.lemmas.Bool.{cond_both}
use Rattle.std.proofs.lemmas.List.Elements.{All-append, All-cons, All-head, All-map, All-nil, All-push, All-tail}
use Rattle.graph_base.specs.EdgeList as graph
use Rattle.graph_base.proofs.EdgeListLemmas.{found_if, reaches_if}
use Rattle.pm_lower_crates.specs.KeptColumns.{kept_by_ends}
use Rattle.pm_lower_crates.specs.KeptEdges.{AreKept, IsWithinRows, Keeps, none, keeps, drops, ends, keep, kept_edges, kept_from}
use Rattle.pm_lower_crates.specs.WantedEdges.{Edge}
use Rattle.pm_lower_crates.proofs.KeptLemmas.{kept_once}

module _ (count : ℕ) where
  step : (kept more : List Edge) (e : Edge) (b : Bool) → graph.reach_over (map ends kept) e.dep.target e.source ≡ b → All (IsWithinRows count) kept → IsWithinRows count e
      → ((next : List Edge) → All (IsWithinRows count) next → Keeps count next more (fold keep next more)) → Keeps count kept (e ∷ more) (fold keep (if b then kept else kept ++ e ∷ []) more)
  step kept more e true is all within rest = drops (reaches_if count (map ends kept) e.dep.target e.source (All-map (graph.IsEdgeWithin count) ends kept all) is) (rest kept all)
  step kept more e false is all within rest =
      keeps (λ r. let found = found_if count (map ends kept) e.dep.target e.source r in cc) (rest (kept ++ e ∷ []) (All-append (IsWithinRows count) kept (e ∷ []) all (All-cons (IsWithinRows count) e [] within (All-nil (IsWithinRows count)))))

  folded : (more kept : List Edge) → All (IsWithinRows count) kept → All (IsWithinRows count) more → Keeps count kept more (fold keep kept more)
  folded [] kept all later = none
  folded (e ∷ more) kept all later =
      step kept more e (graph.reach_over (map ends kept) e.dep.target e.source) refl all (All-head (IsWithinRows count) e more later) (λ next next_all. folded more next next_all (All-tail (IsWithinRows count) e more later))

-- the fold keeps what the relation keeps
pub fold_keeps_from : (count : ℕ) (before want : List Edge) → All (IsWithinRows count) before → All (IsWithinRows count) want → Keeps count before want (kept_from before want)
unfolding kept_by_ends
fold_keeps_from count before want all later = folded count want before all later

pub fold_keeps : (count : ℕ) (want : List Edge) → All (IsWithinRows count) want → AreKept count want (kept_edges want)
fold_keeps count want all = fold_keeps_from count [] want (All-nil (IsWithinRows count)) all

-- what the relation keeps is what the fold gives
pub kept_are_folded : (count : ℕ) (before want kept : List Edge) → All (IsWithinRows count) before → All (IsWithinRows count) want → Keeps count before want kept → kept ≡ kept_from before want
kept_are_folded count before want kept all later k = kept_once k (fold_keeps_from count before want all later)

-- what holds of the edges before and of all that are wanted holds of all that are kept
pub kept_all : (P : Edge → Type 0) (before want : List Edge) → All P before → All P want → All P (kept_from before want)
unfolding kept_by_ends
kept_all P before [] all later = all
kept_all P before (e ∷ more) all later =
    kept_all P (keep before e) more
    (cond_both (graph.reach_over (map ends before) e.dep.target e.source) before (before ++ e ∷ []) (All P) (λ closes. all) (λ apart. All-push P before e all (All-head P e more later)))
    (All-tail P e more later)
