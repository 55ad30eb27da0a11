-- How the crates of a graph follow the edges that are kept.
use Rattle.std.proofs.Common.{◌≡◌, ◌↔◌, ℕ, zero, suc, ◌+◌, ◌<◌, List, [], ◌∷◌, ◌++◌, map, length, get_or, set, Some, slice_get, refl, sym, ap, ◌∙◌, subst, arith}
use Rattle.std.specs.List.{All, Contains, range_with_len}
use Rattle.std.proofs.lemmas.List.{length-map, map-append, map-set}
use Rattle.std.proofs.lemmas.List.Elements.{All-contains}
use Rattle.base_text_paths.specs.declared.arena.Idx.{Idx}
use Rattle.graph_base.specs.Reach.{IsAcyclic, Reaches}
use Rattle.crate_graph.proofs.GraphLemmas.{slice_get_some}
use Rattle.crate_graph.specs.Graph.{HasDependency, edges, dependency_row, target_of, with_dependency}
use Rattle.crate_graph_values.specs.declared.builder.CrateBuilder.{CrateBuilder}
use Rattle.crate_graph_values.specs.declared.crate_data.CrateTag.{CrateTag}
use Rattle.crate_graph_values.specs.declared.crate_data.Dependency.{Dependency}
use Rattle.graph_base.specs.EdgeList as graph
use Rattle.pm_lower_crates.specs.Keeping.{AreLowered}
use Rattle.pm_lower_crates.specs.KeptEdges.{ClosesCycle, IsWithinRows, deps_of, ends}
use Rattle.pm_lower_crates.specs.Lowering.{Crate, HasDep, LacksCyclesAlone, crate_seen, dep_seen, with_deps}
use Rattle.pm_lower_crates.specs.WantedEdges.{Dep, Edge}
use Rattle.pm_lower_crates.proofs.KeptLemmas.{deps_of-push_same, deps_of-push_other, dep_of_edge, edge_of_dep, edges_graph, keeps_push, drops_push, kept_iff, targets_are}

pub map_map : {A B C : Type 0} (f : B → C) (g : A → B) (h : A → C) → ((x : A) → f (g x) ≡ h x) → (xs : List A) → map f (map g xs) ≡ map h xs
map_map f g h same [] = refl
map_map f g h same (x ∷ xs) = ap (λ y. y ∷ map f (map g xs)) (same x) ∙ ap (λ ys. h x ∷ ys) (map_map f g h same xs)

pub slice_get_map : {A B : Type 0} (f : A → B) (xs : List A) (i : ℕ) (x : A) → slice_get xs i ≡ Some x → slice_get (map f xs) i ≡ Some (f x)
slice_get_map f [] i x is = cc
slice_get_map f (y ∷ ys) zero x is = let same : y ≡ x = cc in ap (λ z. Some (f z)) same
slice_get_map f (y ∷ ys) (suc i) x is = slice_get_map f ys i x is

pub got : {A : Type 0} (xs : List A) (i : ℕ) (x d : A) → slice_get xs i ≡ Some x → get_or xs i d ≡ x
got [] i x d is = cc
got (y ∷ ys) zero x d is = cc
got (y ∷ ys) (suc i) x d is = got ys i x d is

-- ---- crates with the dependencies that edges give them

-- a crate with other dependencies
with_these : Crate → List Dep → Crate
with_these c ds = record c { deps = ds }

pub length-with_deps : (kept : List Edge) (n : ℕ) (bare : List Crate) → length (with_deps kept n bare) ≡ length bare
length-with_deps kept n [] = refl
length-with_deps kept n (c ∷ cs) = ap suc (length-with_deps kept (n + 1) cs)

deps_at : (kept : List Edge) (n i : ℕ) (bare : List Crate) (c : Crate) → slice_get bare i ≡ Some c → slice_get (with_deps kept n bare) i ≡ Some (with_these c (deps_of kept (n + i)))
unfolding with_these
deps_at kept n i [] c is = cc
deps_at kept n zero (x ∷ xs) c is =
    let same : x ≡ c = cc in
    ap (λ y. Some (with_these y (deps_of kept n))) same ∙ ap (λ m. Some (with_these c (deps_of kept m))) (let e : n ≡ n + zero = omega arith in e)
deps_at kept n (suc i) (x ∷ xs) c is = deps_at kept (n + 1) i xs c is ∙ ap (λ m. Some (with_these c (deps_of kept m))) (let e : (n + 1) + i ≡ n + suc i = omega arith in e)

targets_from : (kept : List Edge) (n : ℕ) (bare : List Crate) → map (λ (c : Crate). map (λ (d : Dep). d.target) c.deps) (with_deps kept n bare) ≡ map (graph.targets_of (map ends kept)) (range_with_len n (length bare))
targets_from kept n [] = refl
targets_from kept n (c ∷ cs) =
    ap (λ ts. ts ∷ map (λ (x : Crate). map (λ (d : Dep). d.target) x.deps) (with_deps kept (n + 1) cs)) (sym (targets_are kept n))
    ∙ ap (λ tss. graph.targets_of (map ends kept) n ∷ tss) (targets_from kept (n + 1) cs)

-- the edges of the graph are the kept ones
pub edges_are : (bare : List Crate) (kept : List Edge) (crates : List CrateBuilder) → map crate_seen crates ≡ with_deps kept 0 bare → edges crates ≡ edges_graph (length bare) kept
edges_are bare kept crates are =
    let targets : Crate → List ℕ = λ c. map (λ (d : Dep). d.target) c.deps in
    sym (map_map targets crate_seen dependency_row (λ krate. map_map (λ (d : Dep). d.target) dep_seen target_of (λ d. refl) krate.basic.dependencies) crates)
    ∙ ap (map targets) are ∙ targets_from kept 0 bare

pub length_lowered : (bare : List Crate) (kept : List Edge) (crates : List CrateBuilder) → map crate_seen crates ≡ with_deps kept 0 bare → length crates ≡ length bare
length_lowered bare kept crates are = sym (length-map crates crate_seen) ∙ ap length are ∙ length-with_deps kept 0 bare

-- the crate of a graph at a place has the dependencies of its number
seen_at : (bare : List Crate) (kept : List Edge) (crates : List CrateBuilder) (i : ℕ) (krate : CrateBuilder) (c : Crate)
    → map crate_seen crates ≡ with_deps kept 0 bare → slice_get crates i ≡ Some krate → slice_get bare i ≡ Some c → crate_seen krate ≡ with_these c (deps_of kept i)
seen_at bare kept crates i krate c are there bare_there =
    let same : Some (crate_seen krate) ≡ Some (with_these c (deps_of kept (0 + i))) = sym (slice_get_map crate_seen crates i krate there) ∙ ap (λ cs. slice_get cs i) are ∙ deps_at kept 0 i bare c bare_there in
    let zero-plus : 0 + i ≡ i = omega arith in
    let seen : crate_seen krate ≡ with_these c (deps_of kept (0 + i)) = cc in
    seen ∙ ap (λ m. with_these c (deps_of kept m)) zero-plus

-- ---- one edge more

dep_more : Crate → Dep → Crate
dep_more c d = record c { deps = c.deps ++ d ∷ [] }

seen_more : (krate : CrateBuilder) (dep : Dependency (Idx CrateTag)) → crate_seen (with_dependency krate dep) ≡ dep_more (crate_seen krate) (dep_seen dep)
unfolding dep_more
seen_more krate dep = ap (λ ds. record (crate_seen krate) { deps = ds }) (map-append dep_seen krate.basic.dependencies (dep ∷ []))

module _ (kept : List Edge) (e : Edge) where
  deps_past : (n : ℕ) (bare : List Crate) → e.source < n → with_deps kept n bare ≡ with_deps (kept ++ e ∷ []) n bare
  deps_past n [] past = refl
  deps_past n (c ∷ cs) past =
      ap (λ ds. record c { deps = ds } ∷ with_deps kept (n + 1) cs) (sym (deps_of-push_other kept e n (λ is. omega (arith, is, past))))
      ∙ ap (λ xs. record c { deps = deps_of (kept ++ e ∷ []) n } ∷ xs) (deps_past (n + 1) cs (omega (arith, past)))

  deps_set : (n i : ℕ) (bare : List Crate) (c b : Crate) → n + i ≡ e.source → slice_get bare i ≡ Some c → b ≡ dep_more (with_these c (deps_of kept e.source)) e.dep
      → set (with_deps kept n bare) i b ≡ with_deps (kept ++ e ∷ []) n bare
  unfolding with_these dep_more
  deps_set n i [] c b at is b_is = cc
  deps_set n zero (x ∷ xs) c b at is b_is =
      let same : c ≡ x = cc in
      let here : e.source ≡ n = omega (arith, at) in
      let deps : deps_of kept e.source ++ e.dep ∷ [] ≡ deps_of (kept ++ e ∷ []) n = sym (deps_of-push_same kept e) ∙ ap (deps_of (kept ++ e ∷ [])) here in
      let head : b ≡ with_these x (deps_of (kept ++ e ∷ []) n) =
      b_is ∙ ap (λ y. with_these y (deps_of kept e.source ++ e.dep ∷ [])) same ∙ ap (with_these x) deps in
      ap (λ y. y ∷ with_deps kept (n + 1) xs) head
      ∙ ap (λ ys. record x { deps = deps_of (kept ++ e ∷ []) n } ∷ ys) (deps_past (n + 1) xs (omega (arith, here)))
  deps_set n (suc i) (x ∷ xs) c b at is b_is =
      ap (λ ds. record x { deps = ds } ∷ set (with_deps kept (n + 1) xs) i b) (sym (deps_of-push_other kept e n (λ same. omega (arith, same, at))))
      ∙ ap (λ ys. record x { deps = deps_of (kept ++ e ∷ []) n } ∷ ys) (deps_set (n + 1) i xs c b (omega (arith, at)) is b_is)

module _ (before : List Edge) (bare : List Crate) (want : List Edge) (old new : List CrateBuilder) (e : Edge) (from : ℕ) (dep : Dependency (Idx CrateTag))
    (low : AreLowered before bare want old) (from_is : from ≡ e.source) (dep_is : dep_seen dep ≡ e.dep) where
  closes_in_graph : Reaches (edges old) (target_of dep) from → ClosesCycle (length bare) low.kept e
  closes_in_graph r =
      let r1 = subst (λ g. Reaches g (target_of dep) from) (edges_are bare low.kept old low.crates_are) r in
      let r2 = subst (λ d. Reaches (edges_graph (length bare) low.kept) d.target from) dep_is r1 in
      subst (λ n. Reaches (edges_graph (length bare) low.kept) e.dep.target n) from_is r2

  reaches_in_graph : ClosesCycle (length bare) low.kept e → Reaches (edges old) (target_of dep) from
  reaches_in_graph r =
      let r1 = subst (λ n. Reaches (edges_graph (length bare) low.kept) e.dep.target n) (sym from_is) r in
      let r2 = subst (λ d. Reaches (edges_graph (length bare) low.kept) d.target from) (sym dep_is) r1 in
      subst (λ g. Reaches g (target_of dep) from) (sym (edges_are bare low.kept old low.crates_are)) r2

  crates_with : e.source < length bare → HasDependency old new from dep → map crate_seen new ≡ with_deps (low.kept ++ e ∷ []) 0 bare
  crates_with within has =
      let long : from < length old = omega (arith, length_lowered bare low.kept old low.crates_are, from_is, within) in
      let krate = slice_get_some old from long in
      let c = slice_get_some bare e.source within in
      let bare_there : slice_get bare from ≡ Some c.0 = ap (slice_get bare) from_is ∙ c.1 in
      let seen : crate_seen krate.0 ≡ with_these c.0 (deps_of low.kept e.source) = seen_at bare low.kept old from krate.0 c.0 low.crates_are krate.1 bare_there ∙ ap (λ n. with_these c.0 (deps_of low.kept n)) from_is in
      let more : crate_seen (with_dependency krate.0 dep) ≡ dep_more (with_these c.0 (deps_of low.kept e.source)) e.dep =
      seen_more krate.0 dep ∙ ap (dep_more (crate_seen krate.0)) dep_is ∙ ap (λ x. dep_more x e.dep) seen in
      ap (map crate_seen) (has krate.0 krate.1) ∙ map-set crate_seen old from (with_dependency krate.0 dep) ∙ ap (λ cs. set cs from (crate_seen (with_dependency krate.0 dep))) low.crates_are
      ∙ deps_set low.kept e 0 from bare c.0 (crate_seen (with_dependency krate.0 dep)) (omega (arith, from_is)) bare_there more

  -- the edge closes no cycle and is kept
  pub lowered_kept : e.source < length bare → (Reaches (edges old) (target_of dep) from → ⊥) → HasDependency old new from dep → AreLowered before bare (want ++ e ∷ []) new
  lowered_kept within apart has = record {
    kept = low.kept ++ e ∷ [];
    are_kept = keeps_push e low.are_kept (λ closes. apart (reaches_in_graph closes));
    crates_are = crates_with within has;
  }

  -- the edge closes a cycle and is dropped
  pub lowered_dropped : Reaches (edges old) (target_of dep) from → new ≡ old → AreLowered before bare (want ++ e ∷ []) new
  lowered_dropped r same = record {
    kept = low.kept;
    are_kept = drops_push e low.are_kept (closes_in_graph r);
    crates_are = ap (map crate_seen) same ∙ low.crates_are;
  }

-- the crate of the edge's source has it just where it is kept
has_iff : (bare : List Crate) (kept : List Edge) (crates : List CrateBuilder) (e : Edge) → map crate_seen crates ≡ with_deps kept 0 bare → e.source < length bare → HasDep crates e ↔ Contains kept e
unfolding with_these
has_iff bare kept crates e are within =
    let c = slice_get_some bare e.source within in
    let long : e.source < length crates = omega (arith, within, length_lowered bare kept crates are) in
    let krate = slice_get_some crates e.source long in
    let deps_are : (k : CrateBuilder) → slice_get crates e.source ≡ Some k → map dep_seen k.basic.dependencies ≡ deps_of kept e.source =
    λ k there. ap (λ c. c.deps) (seen_at bare kept crates e.source k c.0 are there c.1) in (
      λ h. edge_of_dep kept e (subst (λ ds. Contains ds e.dep) (deps_are h.krate h.source) h.has),
      λ kept_is. record { krate = krate.0; source = krate.1; has = subst (λ ds. Contains ds e.dep) (sym (deps_are krate.0 krate.1)) (dep_of_edge kept e kept_is) },
    )

-- a wanted edge is a dependency just where its target does not reach its source
pub lacks_cycles_alone : (before : List Edge) (bare : List Crate) (want : List Edge) (crates : List CrateBuilder) → All (IsWithinRows (length bare)) want → IsAcyclic (edges_graph (length bare) before)
    → AreLowered before bare want crates → LacksCyclesAlone want crates
lacks_cycles_alone before bare want crates within start low = λ e c.
    let iff = kept_iff (length bare) before want low.kept e within start low.are_kept c in
    let has = has_iff bare low.kept crates e low.crates_are (All-contains (IsWithinRows (length bare)) want e within c).source in
    let same = edges_are bare low.kept crates low.crates_are in (
      λ h r. iff.0 (has.0 h) (subst (λ g. Reaches g e.dep.target e.source) same r),
      λ apart. has.1 (iff.1 (λ closes. apart (subst (λ g. Reaches g e.dep.target e.source) (sym same) closes))),
    )
