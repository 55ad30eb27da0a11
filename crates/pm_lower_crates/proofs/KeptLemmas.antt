-- What keeping edges in turn comes to.
use Rattle.std.proofs.Common.{◌≡◌, ◌↔◌, ℕ, ◌<◌, ◌⊎◌, inl, inr, Bool, true, false, cond, List, [], ◌∷◌, ◌++◌, map, refl, sym, ap, ◌∙◌, subst, arith, ◌==◌, filter, append_assoc}
use Rattle.std.specs.List.{All, Contains}
use Rattle.std.proofs.lemmas.Bool.{cases_lt, cases_eq, eq-eqb, ne_eqb}
use Rattle.std.proofs.lemmas.List.{map-append, length-map, get_or_past, append-nil, get_or-map}
use Rattle.std.proofs.lemmas.List.Elements.{Contains-append_left, Contains-append_right, Contains-append_cases, Contains-push, Contains-push_cases, All-head, All-tail, All-contains, filter-append}
use Rattle.graph_base.specs.EdgeList as graph
use Rattle.graph_base.specs.Edges.{HasEdge, with_edge}
use Rattle.graph_base.specs.Reach.{IsAcyclic}
use Rattle.graph_base.proofs.EdgeListLemmas.{graph_of-push, length-graph_of, row-graph_of, targets_of-append}
use Rattle.graph_base.proofs.ReachLemmas.{acyclic_with_edge, none_in, reaches_mapped}
use Rattle.pm_lower_crates.specs.KeptEdges.{ClosesCycle, IsWithinRows, Keeps, none, keeps, drops, deps_of, ends}
use Rattle.pm_lower_crates.specs.WantedEdges.{Dep, Edge}

-- the graph of some edges between the rows below a count
abbrev pub edges_graph : ℕ → List Edge → List (List ℕ)
edges_graph count edges = graph.graph_of count (map ends edges)

-- the dependencies of a row by some edges and some more
pub deps_of-append : (xs ys : List Edge) (a : ℕ) → deps_of (xs ++ ys) a ≡ deps_of xs a ++ deps_of ys a
deps_of-append xs ys a = ap (map (λ (e : Edge). e.dep)) (filter-append (λ (e : Edge). e.source == a) xs ys) ∙ map-append (λ (e : Edge). e.dep) (filter (λ (e : Edge). e.source == a) xs) (filter (λ (e : Edge). e.source == a) ys)

pub deps_same : (e : Edge) → deps_of (e ∷ []) e.source ≡ e.dep ∷ []
deps_same e = ap (λ b. map (λ (x : Edge). x.dep) (cond b (e ∷ []) [])) (eq-eqb e.source e.source refl)

pub deps_other : (e : Edge) (a : ℕ) → (e.source ≡ a → ⊥) → deps_of (e ∷ []) a ≡ []
deps_other e a other = ap (λ b. map (λ (x : Edge). x.dep) (cond b (e ∷ []) [])) (ne_eqb e.source a other)

pub deps_of-push_same : (edges : List Edge) (e : Edge) → deps_of (edges ++ e ∷ []) e.source ≡ deps_of edges e.source ++ e.dep ∷ []
deps_of-push_same edges e = deps_of-append edges (e ∷ []) e.source ∙ ap (λ ds. deps_of edges e.source ++ ds) (deps_same e)

pub deps_of-push_other : (edges : List Edge) (e : Edge) (a : ℕ) → (e.source ≡ a → ⊥) → deps_of (edges ++ e ∷ []) a ≡ deps_of edges a
deps_of-push_other edges e a other = deps_of-append edges (e ∷ []) a ∙ ap (λ ds. deps_of edges a ++ ds) (deps_other e a other) ∙ append-nil (deps_of edges a)

target_more : (b : Bool) (e : Edge) (xs : List graph.Edge) (ys : List Edge) → map (λ (x : graph.Edge). x.1) xs ≡ map (λ (d : Dep). d.target) (map (λ (x : Edge). x.dep) ys)
    → map (λ (x : graph.Edge). x.1) (cond b (ends e ∷ xs) xs) ≡ map (λ (d : Dep). d.target) (map (λ (x : Edge). x.dep) (cond b (e ∷ ys) ys))
target_more true e xs ys is = ap (λ ns. e.dep.target ∷ ns) is
target_more false e xs ys is = is

-- the targets of a row's edges are those of its dependencies
pub targets_are : (edges : List Edge) (a : ℕ) → graph.targets_of (map ends edges) a ≡ map (λ (d : Dep). d.target) (deps_of edges a)
targets_are [] a = refl
targets_are (e ∷ es) a = target_more (e.source == a) e (filter (λ (x : graph.Edge). x.0 == a) (map ends es)) (filter (λ (x : Edge). x.source == a) es) (targets_are es a)

-- one edge more
pub edges_graph-push : (count : ℕ) (edges : List Edge) (e : Edge) → e.source < count → edges_graph count (edges ++ e ∷ []) ≡ with_edge (edges_graph count edges) e.source e.dep.target
edges_graph-push count edges e source = ap (graph.graph_of count) (map-append ends edges (e ∷ [])) ∙ graph_of-push count (map ends edges) (ends e) source

pub acyclic_none : (count : ℕ) → IsAcyclic (edges_graph count [])
acyclic_none count a b e r = elim (cases_lt a count) [
  | inl below ↦ none_in b (subst (λ z. Contains z b) (row-graph_of count [] a below) e)
  | inr past ↦ none_in b (subst (λ z. Contains z b) (get_or_past (edges_graph count []) a [] (omega (arith, length-graph_of count []))) e)
]

-- kept edges close no cycle
pub acyclic_kept : (count : ℕ) {kept more new : List Edge} → All (IsWithinRows count) more → IsAcyclic (edges_graph count kept) → Keeps count kept more new → IsAcyclic (edges_graph count new)
acyclic_kept count all acyclic none = acyclic
acyclic_kept count {kept = kept} {more = e ∷ more} {new = new} all acyclic (keeps apart rest) =
    let source : e.source < count = (All-head (IsWithinRows count) e more all).source in
    let next = subst IsAcyclic (sym (edges_graph-push count kept e source))
    (acyclic_with_edge (edges_graph count kept) e.source e.dep.target (omega (arith, source, length-graph_of count (map ends kept))) acyclic apart) in
    acyclic_kept count (All-tail (IsWithinRows count) e more all) next rest
acyclic_kept count {kept = kept} {more = e ∷ more} {new = new} all acyclic (drops closes rest) = acyclic_kept count (All-tail (IsWithinRows count) e more all) acyclic rest

-- what was kept stays
pub kept_grows : {count : ℕ} {kept more new : List Edge} → Keeps count kept more new → (extra : List Edge) × (new ≡ kept ++ extra)
kept_grows {count = count} {kept = kept} none = ([], sym (append-nil kept))
kept_grows {count = count} {kept = kept} {more = e ∷ more} {new = new} (keeps apart rest) = let p = kept_grows rest in (e ∷ p.0, p.1 ∙ append_assoc kept (e ∷ []) p.0)
kept_grows {count = count} {kept = kept} {more = e ∷ more} {new = new} (drops closes rest) = kept_grows rest

edge_stays : (count : ℕ) (kept extra : List Edge) (x y : ℕ) → HasEdge (edges_graph count kept) x y → HasEdge (edges_graph count (kept ++ extra)) x y
edge_stays count kept extra x y e = elim (cases_lt x count) [
  | inl below ↦
      let parts = row-graph_of count (map ends (kept ++ extra)) x below ∙ ap (λ es. graph.targets_of es x) (map-append ends kept extra) ∙ targets_of-append (map ends kept) (map ends extra) x in
      subst (λ z. Contains z y) (sym parts)
      (Contains-append_left (graph.targets_of (map ends kept) x) (graph.targets_of (map ends extra) x) y (subst (λ z. Contains z y) (row-graph_of count (map ends kept) x below) e))
  | inr past ↦ absurd (none_in y (subst (λ z. Contains z y) (get_or_past (edges_graph count kept) x [] (omega (arith, length-graph_of count (map ends kept)))) e))
]

pub closes_later : {count : ℕ} {kept more new : List Edge} (e : Edge) → Keeps count kept more new → ClosesCycle count kept e → ClosesCycle count new e
closes_later {count = count} {kept = kept} e k closes =
    let p = kept_grows k in
    subst (λ z. ClosesCycle count z e) (sym p.1) (reaches_mapped (λ x. x) (edge_stays count kept p.0) closes)

-- each wanted edge is kept, or its target reaches its source over those that are
pub kept_or_closes : (count : ℕ) {kept more new : List Edge} (e : Edge) → Keeps count kept more new → Contains more e → Contains new e ⊎ ClosesCycle count new e
kept_or_closes count e none c = absurd (none_in e c)
kept_or_closes count {kept = kept} {more = x ∷ more} {new = new} e (keeps apart rest) c =
    elim (Contains-append_cases (x ∷ []) more e c) [
      | inl here ↦ elim (Contains-push_cases [] x e here) [
        | inl never ↦ absurd (none_in e never)
        | inr is ↦ let p = kept_grows rest in inl (subst (λ z. Contains z e) (sym p.1) (Contains-append_left (kept ++ x ∷ []) p.0 e (subst (λ y. Contains (kept ++ x ∷ []) y) is (Contains-push kept x))))
      ]
      | inr later ↦ kept_or_closes count e rest later
    ]
kept_or_closes count {kept = kept} {more = x ∷ more} {new = new} e (drops closes rest) c =
    elim (Contains-append_cases (x ∷ []) more e c) [
      | inl here ↦ elim (Contains-push_cases [] x e here) [
        | inl never ↦ absurd (none_in e never)
        | inr is ↦ inr (closes_later e rest (subst (ClosesCycle count kept) is closes))
      ]
      | inr later ↦ kept_or_closes count e rest later
    ]

contains_map : {A B : Type 0} (f : A → B) (xs : List A) (x : A) → Contains xs x → Contains (map f xs) (f x)
contains_map f xs x c = (c.0, omega (arith, c.1, length-map xs f), get_or-map f xs c.0 x (f x) c.1 ∙ ap f c.2)

-- the dependencies of a row are those of its edges
pub dep_of_edge : (edges : List Edge) (e : Edge) → Contains edges e → Contains (deps_of edges e.source) e.dep
dep_of_edge [] e c = absurd (none_in e c)
dep_of_edge (x ∷ xs) e c =
    let parts = deps_of-append (x ∷ []) xs e.source in
    elim (Contains-append_cases (x ∷ []) xs e c) [
      | inl here ↦ elim (Contains-push_cases [] x e here) [
        | inl never ↦ absurd (none_in e never)
        | inr is ↦ subst (λ z. Contains z e.dep) (sym parts) (Contains-append_left (deps_of (x ∷ []) e.source) (deps_of xs e.source) e.dep
            (subst (λ y. Contains (deps_of (x ∷ []) y.source) y.dep) is (subst (λ z. Contains z x.dep) (sym (deps_same x)) (Contains-push [] x.dep))))
      ]
      | inr later ↦ subst (λ z. Contains z e.dep) (sym parts) (Contains-append_right (deps_of (x ∷ []) e.source) (deps_of xs e.source) e.dep (dep_of_edge xs e later))
    ]

pub edge_of_dep : (edges : List Edge) (e : Edge) → Contains (deps_of edges e.source) e.dep → Contains edges e
edge_of_dep [] e c = absurd (none_in e.dep c)
edge_of_dep (x ∷ xs) e c =
    elim (Contains-append_cases (deps_of (x ∷ []) e.source) (deps_of xs e.source) e.dep (subst (λ z. Contains z e.dep) (deps_of-append (x ∷ []) xs e.source) c)) [
      | inl here ↦ elim (cases_eq x.source e.source) [
        | inl same ↦ elim (Contains-push_cases [] x.dep e.dep (subst (λ z. Contains z e.dep) (ap (deps_of (x ∷ [])) (sym same) ∙ deps_same x) here)) [
          | inl never ↦ absurd (none_in e.dep never)
          | inr is ↦ Contains-append_left (x ∷ []) xs e (subst (Contains (x ∷ [])) (ap (λ s. record { source = s; dep = x.dep }) same ∙ ap (λ d. record { source = e.source; dep = d }) is) (Contains-push [] x))
        ]
        | inr other ↦ absurd (none_in e.dep (subst (λ z. Contains z e.dep) (deps_other x e.source other) here))
      ]
      | inr later ↦ Contains-append_right (x ∷ []) xs e (edge_of_dep xs e later)
    ]

-- a wanted edge is kept just where its target does not reach its source over those kept, and those that were there before
pub kept_iff : (count : ℕ) (before want kept : List Edge) (e : Edge) → All (IsWithinRows count) want → IsAcyclic (edges_graph count before) → Keeps count before want kept → Contains want e
    → Contains kept e ↔ (ClosesCycle count kept e → ⊥)
kept_iff count before want kept e all start k c =
    let acyclic = acyclic_kept count all start k in
    let within = All-contains (IsWithinRows count) want e all c in
    let targets = row-graph_of count (map ends kept) e.source within.source ∙ targets_are kept e.source in (
      λ has closes. acyclic e.source e.dep.target (subst (λ z. Contains z e.dep.target) (sym targets) (contains_map (λ (d : Dep). d.target) (deps_of kept e.source) e.dep (dep_of_edge kept e has))) closes,
      λ apart. elim (kept_or_closes count e k c) [ inl has ↦ has | inr closes ↦ absurd (apart closes) ],
    )

-- which edges are kept is settled by those that are wanted
pub kept_once : {count : ℕ} {kept more a b : List Edge} → Keeps count kept more a → Keeps count kept more b → a ≡ b
kept_once none none = refl
kept_once (keeps p x) (keeps q y) = kept_once x y
kept_once (keeps p x) (drops q y) = absurd (p q)
kept_once (drops p x) (keeps q y) = absurd (q p)
kept_once (drops p x) (drops q y) = kept_once x y

-- one wanted edge more
pub keeps_push : {count : ℕ} {kept more new : List Edge} (e : Edge) → Keeps count kept more new → (ClosesCycle count new e → ⊥) → Keeps count kept (more ++ e ∷ []) (new ++ e ∷ [])
keeps_push e none apart = keeps apart none
keeps_push e (keeps p rest) apart = keeps p (keeps_push e rest apart)
keeps_push e (drops p rest) apart = drops p (keeps_push e rest apart)

pub drops_push : {count : ℕ} {kept more new : List Edge} (e : Edge) → Keeps count kept more new → ClosesCycle count new e → Keeps count kept (more ++ e ∷ []) new
drops_push e none closes = drops closes none
drops_push e (keeps p rest) closes = keeps p (drops_push e rest closes)
drops_push e (drops p rest) closes = drops p (drops_push e rest closes)
