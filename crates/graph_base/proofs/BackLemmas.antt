-- Edges that are added one by one, and ways along edges that lead back.
use Rattle.std.proofs.Common.{◌≡◌, ◌↔◌, ◌⊎◌, inl, inr, ℕ, ◌+◌, ◌<◌, ◌≤◌, List, [], ◌∷◌, ◌++◌, length, get_or, take, sym, subst, arith, get_or-set_same, get_or-set_other}
use Rattle.std.specs.Prelude.{replicate}
use Rattle.std.specs.List.{Contains}
use Rattle.std.proofs.lemmas.Bool.{cases_eq, cases_lt}
use Rattle.std.proofs.lemmas.List.{get_or-replicate, get_or_past, length-replicate, take_more}
use Rattle.std.proofs.lemmas.List.Elements.{Contains-append_left, Contains-push, Contains-push_cases}
use Rattle.graph_base.specs.Edges.{HasEdge, row, with_edge}
use Rattle.graph_base.specs.Reach.{Reaches, itself, further}
use Rattle.graph_base.proofs.KeptLemmas.{edge_within}
use Rattle.graph_base.proofs.ReachLemmas.{none_in, reaches_edge, edge_cases}
use Rattle.graph_base.specs.Reversed.{IsReversed}

-- nodes with no edges have none
pub no_edge : (count a b : ℕ) → HasEdge (replicate count []) a b → ⊥
no_edge count a b e = elim (cases_lt a count) [
  | inl below ↦ none_in b (subst (λ r. Contains r b) (get_or-replicate count a [] [] below) e)
  | inr past ↦
      none_in b (subst (λ r. Contains r b)
      (get_or_past (replicate count []) a [] (omega (arith, length-replicate {A = List ℕ} count []))) e)
]

-- the graph with one more edge has the old ones and the new one
pub edge_of : (g : List (List ℕ)) (from to x y : ℕ) → from < length g
    → HasEdge g x y ⊎ ((x ≡ from) × (y ≡ to)) → HasEdge (with_edge g from to) x y
edge_of g from to x y within (inl old) = elim (cases_eq x from) [
  | inl same ↦
      subst (λ z. HasEdge (with_edge g from to) z y) (sym same)
      (subst (λ r. Contains r y) (sym (get_or-set_same g from (row g from ++ to ∷ []) [] within))
      (Contains-append_left (row g from) (to ∷ []) y (subst (λ z. HasEdge g z y) same old)))
  | inr other ↦
      subst (λ r. Contains r y) (sym (get_or-set_other g from x (row g from ++ to ∷ []) [] other)) old
]
edge_of g from to x y within (inr (at, is)) =
    subst (λ z. HasEdge (with_edge g from to) z y) (sym at)
    (subst (λ z. HasEdge (with_edge g from to) from z) (sym is)
    (subst (λ r. Contains r to) (sym (get_or-set_same g from (row g from ++ to ∷ []) [] within))
    (Contains-push (row g from) to)))

-- a way along edges that lead back is a way from its end to its start
pub way_on : {back g : List (List ℕ)} {a b : ℕ} → ((x y : ℕ) → HasEdge back y x → HasEdge g x y)
    → Reaches back b a → Reaches g a b
way_on leads itself = itself
way_on {back = back} {g = g} leads (further {a = b} {b = x} {c = a} first rest) =
    reaches_edge g a x b (way_on leads rest) (leads x b first)

-- what reaches what in a graph and in the one whose edges lead back
pub reach_both_ways : (back g : List (List ℕ)) → IsReversed back g → (a b : ℕ) → Reaches back b a ↔ Reaches g a b
reach_both_ways back g reversed a b =
    (way_on (λ x y. (reversed.edges x y).0), way_on (λ x y. (reversed.edges y x).1))

-- what is among one target more
among_more : (targets : List ℕ) (place b : ℕ) → place < length targets
    → Contains (take (place + 1) targets) b → Contains (take place targets) b ⊎ (b ≡ get_or targets place 0)
among_more targets place b within c =
    elim (Contains-push_cases (take place targets) (get_or targets place 0) b
    (subst (λ l. Contains l b) (take_more targets place 0 within) c)) [
      | inl old ↦ inl old
      | inr new ↦ inr (sym new)
    ]

more_among : (targets : List ℕ) (place b : ℕ) → place < length targets
    → Contains (take place targets) b ⊎ (b ≡ get_or targets place 0) → Contains (take (place + 1) targets) b
more_among targets place b within (inl old) =
    subst (λ l. Contains l b) (sym (take_more targets place 0 within))
    (Contains-append_left (take place targets) (get_or targets place 0 ∷ []) b old)
more_among targets place b within (inr new) =
    subst (λ l. Contains l b) (sym (take_more targets place 0 within))
    (subst (λ z. Contains (take place targets ++ get_or targets place 0 ∷ []) z) (sym new)
    (Contains-push (take place targets) (get_or targets place 0)))

-- the edges of a graph, and one back from each of some targets of a node
abbrev pub LedBack : List (List ℕ) → ℕ → List ℕ → ℕ → ℕ → Type 0
LedBack old source targets a b = HasEdge old b a ⊎ ((a ≡ source) × Contains targets b)

-- an edge back from one target more
pub led_more : (old now new : List (List ℕ)) (source place : ℕ) (targets : List ℕ) → place < length targets
    → get_or targets place 0 < length now → new ≡ with_edge now (get_or targets place 0) source
    → ((a b : ℕ) → HasEdge now b a ↔ LedBack old source (take place targets) a b)
    → (a b : ℕ) → HasEdge new b a ↔ LedBack old source (take (place + 1) targets) a b
led_more old now new source place targets within below is before a b =
    subst (λ g. HasEdge g b a ↔ LedBack old source (take (place + 1) targets) a b) (sym is) (from, to)
  where
    target : ℕ
    target = get_or targets place 0

    widen : LedBack old source (take place targets) a b → LedBack old source (take (place + 1) targets) a b
    widen (inl was) = inl was
    widen (inr back) = inr (back.0, more_among targets place b within (inl back.1))

    from : HasEdge (with_edge now target source) b a → LedBack old source (take (place + 1) targets) a b
    from e = elim (edge_cases now target source b a below e) [
      | inl was ↦ widen ((before a b).0 was)
      | inr back ↦ inr (back.1, more_among targets place b within (inr back.0))
    ]

    to : LedBack old source (take (place + 1) targets) a b → HasEdge (with_edge now target source) b a
    to (inl was) = edge_of now target source b a below (inl ((before a b).1 (inl was)))
    to (inr back) = elim (among_more targets place b within back.1) [
      | inl early ↦ edge_of now target source b a below (inl ((before a b).1 (inr (back.0, early))))
      | inr last ↦ edge_of now target source b a below (inr (last, back.0))
    ]

-- the edges of one node more, led back
pub led_node : (g now new : List (List ℕ)) (source : ℕ)
    → ((a b : ℕ) → HasEdge new b a ↔ (HasEdge now b a ⊎ ((a ≡ source) × HasEdge g source b)))
    → ((a b : ℕ) → HasEdge now b a ↔ (HasEdge g a b × (a < source)))
    → (a b : ℕ) → HasEdge new b a ↔ (HasEdge g a b × (a < source + 1))
led_node g now new source led before a b = (from, to)
  where
    from : HasEdge new b a → HasEdge g a b × (a < source + 1)
    from e = elim ((led a b).0 e) [
      | inl was ↦ let old = (before a b).0 was in (old.0, omega (arith, old.1))
      | inr back ↦ (subst (λ z. HasEdge g z b) (sym back.0) back.1, omega (arith, back.0))
    ]

    to : HasEdge g a b × (a < source + 1) → HasEdge new b a
    to e = elim (cases_eq a source) [
      | inl same ↦ (led a b).1 (inr (same, subst (λ z. HasEdge g z b) same e.0))
      | inr other ↦ (led a b).1 (inl ((before a b).1 (e.0, omega (arith, e.1, other))))
    ]

-- all nodes' edges are led back
pub led_all : (g back : List (List ℕ)) (count : ℕ) → length g ≤ count → length back ≡ length g
    → ((a b : ℕ) → HasEdge back b a ↔ (HasEdge g a b × (a < count))) → IsReversed back g
led_all g back count all long led = record {
  nodes = long;
  edges = λ a b. (λ e. ((led a b).0 e).0, λ e. (led a b).1 (e, omega (arith, all, edge_within g a b e)));
}

-- no node's edges are led back yet
pub led_none : (g : List (List ℕ)) (count : ℕ) → (a b : ℕ) → HasEdge (replicate count []) b a ↔ (HasEdge g a b × (a < 0))
led_none g count a b = (λ e. absurd (no_edge count b a e), λ e. absurd (omega (arith, e.1)))
