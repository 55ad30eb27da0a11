-- The crates of a front, and rows behind it: the front has edges, which settle nothing of what is kept behind it.
use Rattle.std.proofs.Common.{◌≡◌, ℕ, ◌+◌, ◌<◌, ◌≤◌, ltb, true, false, inl, inr, List, [], ◌∷◌, ◌++◌, map, length, get_or, length-append, refl, sym, ap, ◌∙◌, subst, arith}
use Rattle.std.specs.List.{All, Contains}
use Rattle.std.proofs.lemmas.Bool.{cases_lt, le-ltb, lt-ltb}
use Rattle.std.proofs.lemmas.List.{append-nil, get_or_default, get_or_past, length-map}
use Rattle.std.proofs.lemmas.List.Elements.{All-append, All-cons, All-head, All-map, All-nil, All-tail, All-weaker, Contains-get_or}
use Rattle.graph_base.specs.EdgeList as graph
use Rattle.graph_base.specs.Edges.{IsInRange}
use Rattle.graph_base.specs.Reach.{IsAcyclic}
use Rattle.graph_base.proofs.EdgeListLemmas.{found_if, length-graph_of, reaches_if, row-graph_of}
use Rattle.graph_base.proofs.ReachLemmas.{none_in}
use Rattle.crate_graph.specs.Graph.{IsWellMadeGraph, edges, dependency_row, target_of}
use Rattle.crate_graph_values.specs.declared.builder.CrateBuilder.{CrateBuilder}
use Rattle.pm_lower_crates.proofs.ColumnLemmas.{columns_apart}
use Rattle.pm_lower_crates.proofs.TargetLemmas.{none_of}
use Rattle.pm_lower_crates.specs.Keeping.{AreLowered, HaveEdges, IsFrontWith, StartBehind}
use Rattle.pm_lower_crates.specs.KeptEdges.{IsWithinRows, deps_of, ends, kept_edges, kept_from}
use Rattle.pm_lower_crates.specs.Lowering.{Crate, LacksCyclesAlone, crate_seen, dep_seen, with_deps}
use Rattle.pm_lower_crates.specs.WantedEdges.{Dep, Edge}
use Rattle.pm_lower_crates.proofs.FoldLemmas.{kept_all, kept_are_folded}
use Rattle.pm_lower_crates.proofs.KeptLemmas.{deps_of-append, deps_other, deps_same, edges_graph}
use Rattle.pm_lower_crates.proofs.LoweredLemmas.{edges_are, lacks_cycles_alone, length_lowered}

-- a list that has no edges
pub none_left : (es : List Edge) → length es ≡ 0 → es ≡ []
none_left [] none = refl
none_left (e ∷ es) none = absurd (omega (arith, none))

-- ---- crates with the dependencies of some edges

-- where the edges agree on the numbers of some crates, these have the same dependencies
with_same : (a b : List Edge) (n : ℕ) (cs : List Crate) → ((k : ℕ) → n ≤ k → k < n + length cs → deps_of a k ≡ deps_of b k) → with_deps a n cs ≡ with_deps b n cs
with_same a b n [] same = refl
with_same a b n (c ∷ cs) same =
    ap (λ ds. record c { deps = ds } ∷ with_deps a (n + 1) cs) (same n (omega arith) (omega arith))
    ∙ ap (λ xs. record c { deps = deps_of b n } ∷ xs) (with_same a b (n + 1) cs (λ k above below. same k (omega (arith, above)) (omega (arith, below))))

with_deps-append : (es : List Edge) (n : ℕ) (xs ys : List Crate) → with_deps es n (xs ++ ys) ≡ with_deps es n xs ++ with_deps es (n + length xs) ys
with_deps-append es n [] ys = ap (λ m. with_deps es m ys) (let e : n ≡ n + 0 = omega arith in e)
with_deps-append es n (x ∷ xs) ys =
    ap (λ rest. record x { deps = deps_of es n } ∷ rest)
    (with_deps-append es (n + 1) xs ys ∙ ap (λ m. with_deps es (n + 1) xs ++ with_deps es m ys) (let e : (n + 1) + length xs ≡ n + length (x ∷ xs) = omega arith in e))

-- crates without dependencies are as they were without edges
bare_same : (n : ℕ) (cs : List Crate) → All (λ (c : Crate). c.deps ≡ []) cs → with_deps [] n cs ≡ cs
bare_same n [] all = refl
bare_same n (c ∷ cs) all =
    ap (λ ds. record c { deps = ds } ∷ with_deps [] (n + 1) cs) (sym (All-head (λ (x : Crate). x.deps ≡ []) c cs all))
    ∙ ap (λ xs. c ∷ xs) (bare_same (n + 1) cs (All-tail (λ (x : Crate). x.deps ≡ []) c cs all))

-- edges from a number on give none below it
none_below : (size : ℕ) (es : List Edge) (k : ℕ) → StartBehind size es → k < size → deps_of es k ≡ []
none_below size [] k all below = refl
none_below size (e ∷ es) k all below =
    let from : size ≤ e.source = All-head (λ (x : Edge). size ≤ x.source) e es all in
    deps_of-append (e ∷ []) es k ∙ ap (λ ds. ds ++ deps_of es k) (deps_other e k (λ same. absurd (omega (arith, from, same, below))))
    ∙ none_below size es k (All-tail (λ (x : Edge). size ≤ x.source) e es all) below

-- ---- the edges that crates have

-- a dependency of a crate as an edge
abbrev edge_from : ℕ → Dep → Edge
edge_from n d = record { source = n; dep = d }

-- the edges of crates that are numbered from n on
abbrev pub edges_from : ℕ → List Crate → List Edge
edges_from n [] = []
edges_from n (c ∷ cs) = map (edge_from n) c.deps ++ edges_from (n + 1) cs

-- a crate without its dependencies
abbrev pub bare_crate : Crate → Crate
bare_crate c = record c { deps = [] }

own_deps : (n : ℕ) (ds : List Dep) → deps_of (map (edge_from n) ds) n ≡ ds
own_deps n [] = refl
own_deps n (d ∷ ds) =
    deps_of-append (edge_from n d ∷ []) (map (edge_from n) ds) n ∙ ap (λ xs. xs ++ deps_of (map (edge_from n) ds) n) (deps_same (edge_from n d)) ∙ ap (λ xs. d ∷ xs) (own_deps n ds)

other_deps : (n k : ℕ) (ds : List Dep) → (n ≡ k → ⊥) → deps_of (map (edge_from n) ds) k ≡ []
other_deps n k [] other = refl
other_deps n k (d ∷ ds) other =
    deps_of-append (edge_from n d ∷ []) (map (edge_from n) ds) k ∙ ap (λ xs. xs ++ deps_of (map (edge_from n) ds) k) (deps_other (edge_from n d) k other) ∙ other_deps n k ds other

deps_early : (n k : ℕ) (cs : List Crate) → k < n → deps_of (edges_from n cs) k ≡ []
deps_early n k [] early = refl
deps_early n k (c ∷ cs) early =
    deps_of-append (map (edge_from n) c.deps) (edges_from (n + 1) cs) k
    ∙ ap (λ xs. xs ++ deps_of (edges_from (n + 1) cs) k) (other_deps n k c.deps (λ same. absurd (omega (arith, same, early))))
    ∙ deps_early (n + 1) k cs (omega (arith, early))

deps_past : (n k : ℕ) (cs : List Crate) → n + length cs ≤ k → deps_of (edges_from n cs) k ≡ []
deps_past n k [] past = refl
deps_past n k (c ∷ cs) past =
    deps_of-append (map (edge_from n) c.deps) (edges_from (n + 1) cs) k
    ∙ ap (λ xs. xs ++ deps_of (edges_from (n + 1) cs) k) (other_deps n k c.deps (λ same. absurd (omega (arith, same, past))))
    ∙ deps_past (n + 1) k cs (omega (arith, past))

-- the crates have these edges
own_edges : (n : ℕ) (cs : List Crate) → with_deps (edges_from n cs) n (map bare_crate cs) ≡ cs
own_edges n [] = refl
own_edges n (c ∷ cs) =
    let all = map (edge_from n) c.deps ++ edges_from (n + 1) cs in
    let here : deps_of all n ≡ c.deps =
    deps_of-append (map (edge_from n) c.deps) (edges_from (n + 1) cs) n
    ∙ ap (λ xs. xs ++ deps_of (edges_from (n + 1) cs) n) (own_deps n c.deps) ∙ ap (λ xs. c.deps ++ xs) (deps_early (n + 1) n cs (omega arith)) ∙ append-nil c.deps in
    let later : with_deps all (n + 1) (map bare_crate cs) ≡ with_deps (edges_from (n + 1) cs) (n + 1) (map bare_crate cs) =
    with_same all (edges_from (n + 1) cs) (n + 1) (map bare_crate cs)
    (λ k above below. deps_of-append (map (edge_from n) c.deps) (edges_from (n + 1) cs) k
    ∙ ap (λ xs. xs ++ deps_of (edges_from (n + 1) cs) k) (other_deps n k c.deps (λ same. absurd (omega (arith, same, above))))) in
    ap (λ ds. record c { deps = ds } ∷ with_deps all (n + 1) (map bare_crate cs)) here
    ∙ ap (λ xs. c ∷ xs) (later ∙ own_edges (n + 1) cs)

-- ---- a front with rows behind it

module _ (front rows : List Crate) (more : List Edge) (behind : StartBehind (length front) more) where
  -- the edges of the front and others behind it give the front its own dependencies, and the rows those of the others
  front_and_rows : with_deps (edges_from 0 front ++ more) 0 (map bare_crate front ++ rows) ≡ front ++ with_deps more (length front) rows
  front_and_rows =
      let all = edges_from 0 front ++ more in
      let count : length (map bare_crate front) ≡ length front = length-map front bare_crate in
      with_deps-append all 0 (map bare_crate front) rows
      ∙ ap (λ cs. cs ++ with_deps all (0 + length (map bare_crate front)) rows)
      (with_same all (edges_from 0 front) 0 (map bare_crate front)
      (λ k above below. deps_of-append (edges_from 0 front) more k ∙ ap (λ ds. deps_of (edges_from 0 front) k ++ ds) (none_below (length front) more k behind (omega (arith, below, count)))
      ∙ append-nil (deps_of (edges_from 0 front) k))
      ∙ own_edges 0 front)
      ∙ ap (λ n. front ++ with_deps all n rows) (let e : 0 + length (map bare_crate front) ≡ length front = omega (arith, count) in e)
      ∙ ap (λ cs. front ++ cs)
      (with_same all more (length front) rows
      (λ k above below. deps_of-append (edges_from 0 front) more k ∙ ap (λ ds. ds ++ deps_of more k) (deps_past 0 k front (omega (arith, above)))))

-- the edges of the front are within it
edge_within : (size n : ℕ) (ds : List Dep) → n < size → All (λ (d : Dep). d.target < size) ds → All (IsWithinRows size) (map (edge_from n) ds)
edge_within size n [] source all = All-nil (IsWithinRows size)
edge_within size n (d ∷ ds) source all =
    All-cons (IsWithinRows size) (edge_from n d) (map (edge_from n) ds) (record { source = source; target = All-head (λ (x : Dep). x.target < size) d ds all })
    (edge_within size n ds source (All-tail (λ (x : Dep). x.target < size) d ds all))

edges_within : (size n : ℕ) (cs : List Crate) → n + length cs ≤ size → All (λ (c : Crate). All (λ (d : Dep). d.target < size) c.deps) cs → All (IsWithinRows size) (edges_from n cs)
edges_within size n [] fits all = All-nil (IsWithinRows size)
edges_within size n (c ∷ cs) fits all =
    let Closed : Crate → Type 0 = λ x. All (λ (d : Dep). d.target < size) x.deps in
    All-append (IsWithinRows size) (map (edge_from n) c.deps) (edges_from (n + 1) cs) (edge_within size n c.deps (omega (arith, fits)) (All-head Closed c cs all))
    (edges_within size (n + 1) cs (omega (arith, fits)) (All-tail Closed c cs all))

module _ (front rows : List Crate) (old : List CrateBuilder) (is : IsFrontWith front rows old) where
  -- the edges of the front
  abbrev pub its_edges : List Edge
  its_edges = edges_from 0 front

  -- all crates without their dependencies
  abbrev pub its_crates : List Crate
  its_crates = map bare_crate front ++ rows

  pub have_edges : HaveEdges its_edges old its_crates
  have_edges =
      let none : StartBehind (length front) [] = All-nil (λ (e : Edge). length front ≤ e.source) in
      is.crates_are ∙ ap (λ cs. front ++ cs) (sym (bare_same (length front) rows is.bare))
      ∙ sym (front_and_rows front rows [] none) ∙ ap (λ es. with_deps es 0 its_crates) (append-nil its_edges)

  all_crates : length its_crates ≡ length front + length rows
  all_crates = length-append (map bare_crate front) rows ∙ ap (λ n. n + length rows) (length-map front bare_crate)

  pub within_front : All (IsWithinRows (length front)) its_edges
  within_front = edges_within (length front) 0 front (omega arith) is.closed

  within_all : All (IsWithinRows (length its_crates)) its_edges
  within_all = edges_within (length its_crates) 0 front (omega (arith, all_crates))
      (All-weaker (λ (c : Crate). All (λ (d : Dep). d.target < length front) c.deps) (λ (c : Crate). All (λ (d : Dep). d.target < length its_crates) c.deps)
      (λ c closed. All-weaker (λ (d : Dep). d.target < length front) (λ (d : Dep). d.target < length its_crates) (λ d h. omega (arith, h, all_crates)) c.deps closed) front is.closed)

  -- what is kept behind the front
  pub kept_behind : (want : List Edge) (new : List CrateBuilder) → All (IsWithinRows (length old)) want → StartBehind (length front) want → AreLowered its_edges its_crates want new
      → map crate_seen new ≡ front ++ with_deps (kept_edges want) (length front) rows
  kept_behind want new within behind low =
      let size = length front in
      let long : length old ≡ length its_crates = length_lowered its_crates its_edges old have_edges in
      let kept : low.kept ≡ kept_from its_edges want =
      kept_are_folded (length its_crates) its_edges want low.kept within_all (subst (λ n. All (IsWithinRows n) want) long within) low.are_kept in
      let apart : kept_from its_edges want ≡ its_edges ++ kept_edges want =
      columns_apart ends (λ n. ltb n size) its_edges want (record {
        closed = All-map (λ (e : graph.Edge). ltb e.1 size ≡ true) ends its_edges
            (All-weaker (IsWithinRows size) (λ (e : Edge). ltb e.dep.target size ≡ true) (λ e ends. lt-ltb e.dep.target size ends.target) its_edges within_front);
        behind = All-map (λ (e : graph.Edge). ltb e.0 size ≡ false) ends want
            (All-weaker (λ (e : Edge). size ≤ e.source) (λ (e : Edge). ltb e.source size ≡ false) (λ e from. le-ltb e.source size from) want behind);
      }) in
      low.crates_are ∙ ap (λ es. with_deps es 0 its_crates) (kept ∙ apart)
      ∙ front_and_rows front rows (kept_edges want) (kept_all (λ (e : Edge). size ≤ e.source) [] want (All-nil (λ (e : Edge). size ≤ e.source)) behind)

-- ---- a graph of more nodes

-- edges between the first nodes close no cycle where there are more nodes
acyclic_more : (size count : ℕ) (es : List graph.Edge) → size ≤ count → All (graph.IsEdgeWithin size) es → IsAcyclic (graph.graph_of size es) → IsAcyclic (graph.graph_of count es)
acyclic_more size count es fits all acyclic a b e r =
    let back = reaches_if size es b a all (found_if count es b a r) in
    elim (cases_lt a count) [
      | inl there ↦
          let has : Contains (graph.targets_of es a) b = subst (λ z. Contains z b) (row-graph_of count es a there) e in
          elim (cases_lt a size) [
            | inl here ↦ acyclic a b (subst (λ z. Contains z b) (sym (row-graph_of size es a here)) has) back
            | inr past ↦ none_in b (subst (λ z. Contains z b)
                (none_of (graph.IsEdgeWithin size) a (λ x ends same. omega (arith, ends.source, same, past)) es all) has)
          ]
      | inr past ↦ none_in b (subst (λ z. Contains z b) (get_or_past (graph.graph_of count es) a [] (omega (arith, past, length-graph_of count es))) e)
    ]

-- ---- a graph as a front

-- what holds of each item by one map holds by another
all_through : {A B C : Type 0} (f : A → B) (g : A → C) (P : B → Type 0) (Q : C → Type 0) → ((x : A) → P (f x) → Q (g x)) → (xs : List A) → All P (map f xs) → All Q (map g xs)
all_through f g P Q so [] all = All-nil Q
all_through f g P Q so (x ∷ xs) all = All-cons Q (g x) (map g xs) (so x (All-head P (f x) (map f xs) all)) (all_through f g P Q so xs (All-tail P (f x) (map f xs) all))

rows_closed : (g : List (List ℕ)) → IsInRange g → All (λ (r : List ℕ). All (λ t. t < length g) r) g
rows_closed g in_range = λ i d within k e inner.
    in_range i (get_or (get_or g i d) k e) (subst (λ r. Contains r (get_or (get_or g i d) k e)) (get_or_default g i d [] within) (Contains-get_or (get_or g i d) k e inner))

-- the crates of a graph depend on those of the graph alone
pub crates_closed : (crates : List CrateBuilder) (limit : ℕ) → IsWellMadeGraph crates limit → All (λ (c : Crate). All (λ (d : Dep). d.target < length (map crate_seen crates)) c.deps) (map crate_seen crates)
crates_closed crates limit made =
    let size = length (map crate_seen crates) in
    let same : length (edges crates) ≡ size = length-map crates dependency_row ∙ sym (length-map crates crate_seen) in
    let all : All (λ (r : List ℕ). All (λ t. t < size) r) (map dependency_row crates) =
    subst (λ n. All (λ (r : List ℕ). All (λ t. t < n) r) (map dependency_row crates)) same (rows_closed (edges crates) made.in_range) in
    all_through dependency_row crate_seen (λ (r : List ℕ). All (λ t. t < size) r) (λ (c : Crate). All (λ (d : Dep). d.target < size) c.deps)
    (λ krate closed. all_through target_of dep_seen (λ t. t < size) (λ (d : Dep). d.target < size) (λ d h. h) krate.basic.dependencies closed) crates all

-- a graph with rows behind its crates
pub is_front : (old mid : List CrateBuilder) (limit : ℕ) (rows : List Crate) → IsWellMadeGraph old limit → map crate_seen mid ≡ map crate_seen old ++ rows → All (λ (c : Crate). c.deps ≡ []) rows
    → IsFrontWith (map crate_seen old) rows mid
is_front old mid limit rows made added bare = record { crates_are = added; closed = crates_closed old limit made; bare = bare }

-- its edges close no cycle
pub front_acyclic : (old mid : List CrateBuilder) (limit : ℕ) (rows : List Crate) (made : IsWellMadeGraph old limit) (is : IsFrontWith (map crate_seen old) rows mid)
    → IsAcyclic (edges_graph (length (its_crates (map crate_seen old) rows mid is)) (its_edges (map crate_seen old) rows mid is))
front_acyclic old mid limit rows made is =
    let front = map crate_seen old in
    let size = length front in
    let alone : edges old ≡ edges_graph (length (map bare_crate front)) (edges_from 0 front) = edges_are (map bare_crate front) (edges_from 0 front) old (sym (own_edges 0 front)) in
    let start : IsAcyclic (edges_graph size (edges_from 0 front)) =
    subst (λ n. IsAcyclic (edges_graph n (edges_from 0 front))) (length-map front bare_crate) (subst IsAcyclic alone made.acyclic) in
    let fits : size ≤ length (map bare_crate front ++ rows) = omega (arith, length-append (map bare_crate front) rows, length-map front bare_crate) in
    acyclic_more size (length (map bare_crate front ++ rows)) (map ends (edges_from 0 front)) fits
    (All-map (graph.IsEdgeWithin size) ends (edges_from 0 front) (within_front front rows mid is)) start

-- the wanted edges that are missing close a cycle
pub lacks_behind : (old mid new : List CrateBuilder) (limit : ℕ) (rows : List Crate) (want : List Edge) (made : IsWellMadeGraph old limit) (is : IsFrontWith (map crate_seen old) rows mid)
    → All (IsWithinRows (length mid)) want → AreLowered (its_edges (map crate_seen old) rows mid is) (its_crates (map crate_seen old) rows mid is) want new → LacksCyclesAlone want new
lacks_behind old mid new limit rows want made is within low =
    let front = map crate_seen old in
    let bare = map bare_crate front ++ rows in
    let long : length mid ≡ length bare = length_lowered bare (edges_from 0 front) mid (have_edges front rows mid is) in
    lacks_cycles_alone (edges_from 0 front) bare want new (subst (λ n. All (IsWithinRows n) want) long within) (front_acyclic old mid limit rows made is) low
