-- A file alone as a part: one row where it is live, and none else.
use Rattle.std.proofs.Common.{◌≡◌, ℕ, ◌+◌, ◌≤◌, List, [], ◌∷◌, ◌++◌, map, length, inl, inr, Option, None, Some, refl, sym, ap, ◌∙◌, subst, arith}
use Rattle.std.specs.List.{All}
use Rattle.std.proofs.lemmas.Bool.{cases_lt}
use Rattle.std.proofs.lemmas.List.{append-nil, length-append, length-map}
use Rattle.std.proofs.lemmas.List.Elements.{All-cons, All-nil}
use Rattle.crate_graph.specs.Graph.{Graph, IsWellMadeGraph}
use Rattle.pm_lower_crates.specs.Facts.{Facts}
use Rattle.pm_lower_crates.specs.Front.{IsPublicIn}
use Rattle.pm_lower_crates.specs.Keeping.{StartBehind}
use Rattle.pm_lower_crates.specs.KeptEdges.{IsWithinRows}
use Rattle.pm_lower_crates.specs.Lowering.{Crate, crate_seen}
use Rattle.pm_lower_crates.specs.WantedEdges.{Dep, Edge, Public, RankedEdge, to_public, unranked, with_rank}
use Rattle.pm_lower_crates.proofs.GatheredLemmas.{IsGathered}
use Rattle.pm_lower_crates.proofs.UnrankedLemmas.{map_by_place, map_each}
use Rattle.pm_lower_crates.proofs.WithinLemmas.{more_public, public_behind, public_within}
use Rattle.pm_lower_crates.specs.DetachedLowering.{file_crate, file_part, file_public_edges}

public_unranked : (public : Public) (n : ℕ) → unranked (file_public_edges public n) ≡ map (to_public n) public.rows
public_unranked public n =
    map_by_place (λ (r : RankedEdge). r.edge) (λ i (dep : Dep). with_rank (1 ∷ 1 ∷ 0 ∷ i ∷ []) (to_public n dep ∷ [])) (λ (dep : Dep). to_public n dep ∷ []) (λ i dep. refl) 0 public.rows
    ∙ map_each (to_public n) public.rows

module _ (facts : Facts) (public : Public) (file : List ℕ) (old mid : Graph) (well : IsWellMadeGraph old.crates old.limit) where
  -- a file that is not live
  pub alone_none : (n : ℕ) (want : List Edge) → want ≡ [] → mid ≡ old → IsGathered old mid (file_part facts public n file None) want
  alone_none n want none same = record {
    made = well;
    limit = ap (λ g. g.limit) same;
    fits = subst (λ (g : Graph). length g.crates ≤ old.limit) (sym same) well.within;
    added = ap (λ (g : Graph). map crate_seen g.crates) same ∙ sym (append-nil (map crate_seen old.crates));
    bare = All-nil (λ (c : Crate). c.deps ≡ []);
    wanted = none;
    within = subst (λ es. All (IsWithinRows (length old.crates + 0)) es) (sym none) (All-nil (IsWithinRows (length old.crates + 0)));
    behind = subst (StartBehind (length old.crates)) (sym none) (All-nil (λ (e : Edge). length old.crates ≤ e.source));
  }

  -- and one that is
  pub alone_one : (n number : ℕ) (want : List Edge) → n ≡ length old.crates → IsPublicIn n public → want ≡ [] ++ map (to_public n) public.rows → mid.limit ≡ old.limit
      → map crate_seen mid.crates ≡ map crate_seen old.crates ++ file_crate facts file number ∷ [] → (length old.crates ≡ old.limit → ⊥)
      → IsGathered old mid (file_part facts public n file (Some number)) want
  alone_one n number want is known want_are limit added room =
      let few = well.within in
      let count : length mid.crates ≡ length old.crates + 1 =
      sym (length-map mid.crates crate_seen) ∙ ap length added ∙ length-append (map crate_seen old.crates) (file_crate facts file number ∷ []) ∙ ap (λ k. k + 1) (length-map old.crates crate_seen) in
      let more : IsPublicIn (n + 1) public = more_public n 1 public known in
      record {
        made = well;
        limit = limit;
        fits = by (length old.crates) old.limit (length mid.crates) few count room;
        added = added;
        bare = All-cons (λ (c : Crate). c.deps ≡ []) (file_crate facts file number) [] refl (All-nil (λ (c : Crate). c.deps ≡ []));
        wanted = want_are ∙ sym (public_unranked public n);
        within = subst (λ k. All (IsWithinRows (k + 1)) want) is (subst (All (IsWithinRows (n + 1))) (sym want_are) (public_within (n + 1) public.rows more.rows n (omega arith)));
        behind = subst (λ k. StartBehind k want) is (subst (StartBehind n) (sym want_are) (public_behind n public.rows n (omega arith)));
      }
    where
      by : (a limit b : ℕ) → a ≤ limit → b ≡ a + 1 → (a ≡ limit → ⊥) → b ≤ limit
      by a limit b few is apart = elim (cases_lt a limit) [ inl below ↦ omega (arith, below, is) | inr past ↦ absurd (apart (omega (arith, few, past))) ]

-- no name of it is bad
pub part_names : (facts : Facts) (public : Public) (n : ℕ) (file : List ℕ) (number : Option ℕ) → (file_part facts public n file number).bad_names ≡ []
part_names facts public n file None = refl
part_names facts public n file (Some number) = refl
