-- How the edges of a graph follow its crates.
use Rattle.std.proofs.Common.{◌≡◌, ℕ, zero, suc, ◌-◌, ◌^◌, ◌<◌, List, [], ◌∷◌, ◌++◌, map, length, take, get_or, set, Some, refl, sym, ap, ◌∙◌, subst, arith, length-set}
use Rattle.std.specs.Prelude.{slice_get}
use Rattle.std.proofs.lemmas.Option.{get_or_from_slice_get, slice_get-get_or, slice_get_within}
use Rattle.std.proofs.lemmas.List.{length_push, length-map, map-append, map-set, set-get_or, set-set, take_at}
use Rattle.std.proofs.lemmas.List.Elements.{All-append, All-cons, All-nil, All-set}
use Rattle.std.specs.List.{All}
use Rattle.base_text_paths.specs.declared.arena.Idx.{Idx}
use Rattle.graph_base.specs.Edges.{HasEdge, IsInRange, row, with_edge, with_node}
use Rattle.graph_base.specs.Reach.{IsAcyclic}
use Rattle.crate_graph_values.specs.declared.builder.CrateBuilder.{CrateBuilder}
use Rattle.crate_graph_values.specs.declared.crate_data.CrateTag.{CrateTag}
use Rattle.crate_graph_values.specs.declared.crate_data.Dependency.{Dependency}
use Rattle.crate_graph_values.specs.Laws.{HasCleanMacroDirectory}
use Rattle.crate_graph.specs.Graph.{HasDependency, IsWellMadeGraph, edges, dependency_row, target_of, with_dependency}

pub length-edges : (crates : List CrateBuilder) → length (edges crates) ≡ length crates
length-edges crates = length-map crates dependency_row

-- there is a value at each place within a list
pub slice_get_some : {X : Type 0} (xs : List X) (i : ℕ) → i < length xs → (x : X) × (slice_get xs i ≡ Some x)
slice_get_some [] i within = absurd (omega arith)
slice_get_some (x ∷ xs) zero within = (x, refl)
slice_get_some (x ∷ xs) (suc i) within = slice_get_some xs i (omega arith)

-- the row of a crate
pub row-at : (crates : List CrateBuilder) (i : ℕ) (krate : CrateBuilder) → slice_get crates i ≡ Some krate → row (edges crates) i ≡ dependency_row krate
row-at [] i krate is = cc
row-at (x ∷ xs) zero krate is = let same : x ≡ krate = cc in ap dependency_row same
row-at (x ∷ xs) (suc i) krate is = row-at xs i krate is

-- the path of each crate is clean
pub clean_at : (crates : List CrateBuilder) (i : ℕ) (krate : CrateBuilder) → All (λ krate. HasCleanMacroDirectory krate.basic) crates → slice_get crates i ≡ Some krate → HasCleanMacroDirectory krate.basic
clean_at crates i krate clean is =
    let within = slice_get_within crates i krate is in
    let at : slice_get crates i ≡ Some (get_or crates i krate) = slice_get-get_or crates i krate within in
    let same : get_or crates i krate ≡ krate = cc in
    subst (λ (k : CrateBuilder). HasCleanMacroDirectory k.basic) same (clean i krate within)

module _ (old new : List CrateBuilder) (from : ℕ) (dep : Dependency (Idx CrateTag)) (within : from < length old) (has : HasDependency old new from dep) where
  pub edges-with_dependency : edges new ≡ with_edge (edges old) from (target_of dep)
  edges-with_dependency =
      let at = slice_get_some old from within in
      let changed = has at.0 at.1 in
      ap edges changed ∙ map-set dependency_row old from (with_dependency at.0 dep)
      ∙ ap (set (edges old) from) (map-append target_of at.0.basic.dependencies (dep ∷ []) ∙ ap (λ r. r ++ target_of dep ∷ []) (sym (row-at old from at.0 at.1)))

  pub length-with_dependency : length new ≡ length old
  length-with_dependency =
      let at = slice_get_some old from within in
      ap length (has at.0 at.1) ∙ length-set old from (with_dependency at.0 dep)

  clean-with_dependency : All (λ krate. HasCleanMacroDirectory krate.basic) old → All (λ krate. HasCleanMacroDirectory krate.basic) new
  clean-with_dependency clean =
      let at = slice_get_some old from within in
      let here : HasCleanMacroDirectory at.0.basic = clean_at old from at.0 clean at.1 in
      subst (All (λ krate. HasCleanMacroDirectory krate.basic)) (sym (has at.0 at.1)) (All-set (λ (krate : CrateBuilder). HasCleanMacroDirectory krate.basic) old from (with_dependency at.0 dep) here clean)

  pub well_made-with_dependency : (limit : ℕ) → IsWellMadeGraph old limit → IsInRange (with_edge (edges old) from (target_of dep)) → IsAcyclic (with_edge (edges old) from (target_of dep)) → IsWellMadeGraph new limit
  well_made-with_dependency limit made in_range acyclic = record {
    fits = made.fits;
    within = omega (arith, made.within, length-with_dependency);
    in_range = subst IsInRange (sym edges-with_dependency) in_range;
    acyclic = subst IsAcyclic (sym edges-with_dependency) acyclic;
    clean = clean-with_dependency made.clean;
  }

-- a crate that depends on nothing
pub edges-with_crate : (old : List CrateBuilder) (krate : CrateBuilder) → krate.basic.dependencies ≡ [] → edges (old ++ krate ∷ []) ≡ with_node (edges old)
edges-with_crate old krate none = map-append dependency_row old (krate ∷ []) ∙ ap (λ r. edges old ++ map target_of r ∷ []) none

pub well_made-with_crate : (old new : List CrateBuilder) (krate : CrateBuilder) (limit : ℕ) → new ≡ old ++ krate ∷ [] → krate.basic.dependencies ≡ [] → HasCleanMacroDirectory krate.basic → length old < limit → IsWellMadeGraph old limit
    → IsInRange (with_node (edges old)) → IsAcyclic (with_node (edges old)) → IsWellMadeGraph new limit
well_made-with_crate old new krate limit is none clean room made in_range acyclic =
    let same : edges new ≡ with_node (edges old) = ap edges is ∙ edges-with_crate old krate none in
    record {
      fits = made.fits;
      within = omega (arith, ap length is, length_push old krate);
      in_range = subst IsInRange (sym same) in_range;
      acyclic = subst IsAcyclic (sym same) acyclic;
      clean = subst (All (λ krate. HasCleanMacroDirectory krate.basic)) (sym is) (All-append (λ (krate : CrateBuilder). HasCleanMacroDirectory krate.basic) old (krate ∷ []) made.clean (All-cons (λ (krate : CrateBuilder). HasCleanMacroDirectory krate.basic) krate [] clean (All-nil (λ (krate : CrateBuilder). HasCleanMacroDirectory krate.basic))));
    }

no_edge : (a b : ℕ) → HasEdge (edges []) a b → ⊥
no_edge a b e = omega (arith, e.1)

-- the graph with no crates
pub well_made-none : (limit : ℕ) → limit < 2 ^ 32 → IsWellMadeGraph [] limit
well_made-none limit fits = record {
  fits = fits;
  within = omega arith;
  in_range = λ a b e. absurd (no_edge a b e);
  acyclic = λ a b e r. no_edge a b e;
  clean = All-nil (λ (krate : CrateBuilder). HasCleanMacroDirectory krate.basic);
}
