-- The kept edges as a fold are those of the relation, and they close no cycle.
use Rattle.std.proofs.Common.{◌≡◌, ◌↔◌, ℕ, ◌<◌, ◌⊎◌, inl, inr, true, false, ◌&&◌, List, [], ◌∷◌, ◌++◌, refl, sym, ap, ◌∙◌, subst, arith}
use Rattle.std.specs.List.{All, Contains}
use Rattle.std.proofs.lemmas.Bool.{and_from, and_parts, both_ways, cases_Bool, eq-eqb, eqb-true, or_cases, or_left, or_right}
use Rattle.std.proofs.lemmas.List.Elements.{All-contains, All-head, All-tail, Contains-append_cases, Contains-append_left, Contains-append_right, Contains-push, Contains-push_cases}
use Rattle.graph_base.specs.EdgeList.{Edge, IsEdgeWithin, graph_of, reach_over, targets_of}
use Rattle.graph_base.specs.Edges.{HasEdge}
use Rattle.graph_base.specs.Reach.{IsAcyclic}
use Rattle.graph_base.proofs.EdgeListLemmas.{found_if, graph_of-push, length-graph_of, reaches_if, row-graph_of, targets_of-append, targets_of-same}
use Rattle.graph_base.proofs.ReachLemmas.{acyclic_with_edge, none_in}
use Rattle.pm_lower_crates.specs.KeptFrom.{PairClosesCycle, KeepsPairs, none, keeps, drops, keep_pair, pairs_kept_from}
use Rattle.pm_lower_crates.proofs.AmongLemmas.{kept_grows}
use Rattle.pm_lower_crates.proofs.KeepLemmas.{all_keep, all_kept, keep_if, kept_from-first, kept_from-none}

-- the first of some edges, or one of the others
pub first_or_later : (x : Edge) (xs : List Edge) (e : Edge) → Contains (x ∷ xs) e → (x ≡ e) ⊎ Contains xs e
first_or_later x xs e c = elim (Contains-append_cases (x ∷ []) xs e c) [
  | inl first ↦ elim (Contains-push_cases [] x e first) [ inl never ↦ absurd (none_in e never) | inr same ↦ inl same ]
  | inr later ↦ inr later
]

-- what is reached is reached over more edges
reach_itself : (es : List Edge) (a b : ℕ) → a ≡ b → reach_over es a b ≡ true
reach_itself [] a b same = eq-eqb a b same
reach_itself (e ∷ es) a b same = or_left (reach_over es a b) (reach_over es a e.0 && reach_over es e.1 b) (reach_itself es a b same)

pub reach_more : (es more : List Edge) (a b : ℕ) → reach_over es a b ≡ true → reach_over (es ++ more) a b ≡ true
reach_more [] more a b is = reach_itself more a b (eqb-true a b is)
reach_more (e ∷ es) more a b is = elim (or_cases (reach_over es a b) (reach_over es a e.0 && reach_over es e.1 b) is) [
  | inl past ↦ or_left (reach_over (es ++ more) a b) (reach_over (es ++ more) a e.0 && reach_over (es ++ more) e.1 b) (reach_more es more a b past)
  | inr over ↦
      let both = and_parts (reach_over es a e.0) (reach_over es e.1 b) over in
      or_right (reach_over (es ++ more) a b) (reach_over (es ++ more) a e.0 && reach_over (es ++ more) e.1 b)
      (and_from (reach_over (es ++ more) a e.0) (reach_over (es ++ more) e.1 b) (reach_more es more a e.0 both.0) (reach_more es more e.1 b both.1))
]

-- an edge is wanted: it is there then, or it closes a cycle over those that are
pub kept_or_closes : (front wanted : List Edge) (e : Edge) → Contains wanted e → Contains (pairs_kept_from front wanted) e ⊎ (reach_over (pairs_kept_from front wanted) e.1 e.0 ≡ true)
kept_or_closes front [] e c = absurd (none_in e c)
kept_or_closes front (x ∷ wanted) e c =
    let whole = kept_from-first front wanted x in
    elim (first_or_later x wanted e c) [
      | inl same ↦
          let grown = kept_grows (keep_pair front x) wanted in
          elim (cases_Bool (reach_over front x.1 x.0)) [
            | inl closes ↦
                let there : pairs_kept_from front (x ∷ wanted) ≡ front ++ grown.0 = whole ∙ grown.1 ∙ ap (λ z. z ++ grown.0) (keep_if true front x closes) in
                inr (subst (λ y. reach_over (pairs_kept_from front (x ∷ wanted)) y.1 y.0 ≡ true) same
                (subst (λ z. reach_over z x.1 x.0 ≡ true) (sym there) (reach_more front grown.0 x.1 x.0 closes)))
            | inr apart ↦
                let there : pairs_kept_from front (x ∷ wanted) ≡ (front ++ x ∷ []) ++ grown.0 = whole ∙ grown.1 ∙ ap (λ z. z ++ grown.0) (keep_if false front x apart) in
                inl (subst (λ y. Contains (pairs_kept_from front (x ∷ wanted)) y) same
                (subst (λ z. Contains z x) (sym there) (Contains-append_left (front ++ x ∷ []) grown.0 x (Contains-push front x))))
          ]
      | inr later ↦ elim (kept_or_closes (keep_pair front x) wanted e later) [
        | inl has ↦ inl (subst (λ z. Contains z e) (sym whole) has)
        | inr closes ↦ inr (subst (λ z. reach_over z e.1 e.0 ≡ true) (sym whole) closes)
      ]
    ]

-- an edge of the list is one of the graph
target_of_edge : (es : List Edge) (e : Edge) → Contains es e → Contains (targets_of es e.0) e.1
target_of_edge [] e c = absurd (none_in e c)
target_of_edge (x ∷ xs) e c =
    let parts = targets_of-append (x ∷ []) xs e.0 in
    elim (first_or_later x xs e c) [
      | inl same ↦ subst (λ z. Contains z e.1) (sym parts) (Contains-append_left (targets_of (x ∷ []) e.0) (targets_of xs e.0) e.1
          (subst (λ y. Contains (targets_of (x ∷ []) y.0) y.1) same (subst (λ z. Contains z x.1) (sym (targets_of-same x x.0 refl)) (Contains-push [] x.1))))
      | inr later ↦ subst (λ z. Contains z e.1) (sym parts) (Contains-append_right (targets_of (x ∷ []) e.0) (targets_of xs e.0) e.1 (target_of_edge xs e later))
    ]

module _ (count : ℕ) where
  pub edge_of_graph : (es : List Edge) (e : Edge) → e.0 < count → Contains es e → HasEdge (graph_of count es) e.0 e.1
  edge_of_graph es e source c = subst (λ z. Contains z e.1) (sym (row-graph_of count es e.0 source)) (target_of_edge es e c)

  -- what the fold keeps the relation keeps
  pub fold_keeps : (front wanted : List Edge) → All (IsEdgeWithin count) front → All (IsEdgeWithin count) wanted → KeepsPairs count front wanted (pairs_kept_from front wanted)
  fold_keeps front [] all later = subst (KeepsPairs count front []) (sym (kept_from-none front)) none
  fold_keeps front (e ∷ wanted) all later =
      let ends = All-head (IsEdgeWithin count) e wanted later in
      let rest = fold_keeps (keep_pair front e) wanted (all_keep (IsEdgeWithin count) front e all ends) (All-tail (IsEdgeWithin count) e wanted later) in
      let whole : KeepsPairs count (keep_pair front e) wanted (pairs_kept_from front (e ∷ wanted)) = subst (KeepsPairs count (keep_pair front e) wanted) (sym (kept_from-first front wanted e)) rest in
      elim (cases_Bool (reach_over front e.1 e.0)) [
        | inl closes ↦ drops (reaches_if count front e.1 e.0 all closes) (subst (λ z. KeepsPairs count z wanted (pairs_kept_from front (e ∷ wanted))) (keep_if true front e closes) whole)
        | inr apart ↦ keeps (λ r. both_ways (reach_over front e.1 e.0) apart (found_if count front e.1 e.0 r))
            (subst (λ z. KeepsPairs count z wanted (pairs_kept_from front (e ∷ wanted))) (keep_if false front e apart) whole)
      ]

  -- kept edges close no cycle
  pub acyclic_kept : {front wanted new : List Edge} → All (IsEdgeWithin count) wanted → IsAcyclic (graph_of count front) → KeepsPairs count front wanted new → IsAcyclic (graph_of count new)
  acyclic_kept all acyclic none = acyclic
  acyclic_kept {front} all acyclic (keeps {more = more} {e = e} apart rest) =
      let source : e.0 < count = (All-head (IsEdgeWithin count) e more all).source in
      let next = subst IsAcyclic (sym (graph_of-push count front e source))
      (acyclic_with_edge (graph_of count front) e.0 e.1 (omega (arith, source, length-graph_of count front)) acyclic apart) in
      acyclic_kept (All-tail (IsEdgeWithin count) e more all) next rest
  acyclic_kept all acyclic (drops {more = more} {e = e} closes rest) = acyclic_kept (All-tail (IsEdgeWithin count) e more all) acyclic rest

  pub acyclic_from : (front wanted : List Edge) → All (IsEdgeWithin count) front → All (IsEdgeWithin count) wanted → IsAcyclic (graph_of count front) → IsAcyclic (graph_of count (pairs_kept_from front wanted))
  acyclic_from front wanted all later acyclic = acyclic_kept later acyclic (fold_keeps front wanted all later)

  -- a wanted edge is there then just where its target does not reach its source
  pub kept_iff : (front wanted : List Edge) (e : Edge) → All (IsEdgeWithin count) front → All (IsEdgeWithin count) wanted → IsAcyclic (graph_of count front) → Contains wanted e
      → Contains (pairs_kept_from front wanted) e ↔ (PairClosesCycle count (pairs_kept_from front wanted) e → ⊥)
  kept_iff front wanted e all later acyclic c =
      let within = All-contains (IsEdgeWithin count) wanted e later c in
      let whole = all_kept (IsEdgeWithin count) front wanted all later in (
        λ has closes. acyclic_from front wanted all later acyclic e.0 e.1 (edge_of_graph (pairs_kept_from front wanted) e within.source has) closes,
        λ apart. elim (kept_or_closes front wanted e c) [
          | inl has ↦ has
          | inr closes ↦ absurd (apart (reaches_if count (pairs_kept_from front wanted) e.1 e.0 whole closes))
        ],
      )

-- which edges are there then is settled by the front and those that are wanted
pub kept_once : {count : ℕ} {kept more a b : List Edge} → KeepsPairs count kept more a → KeepsPairs count kept more b → a ≡ b
kept_once none none = refl
kept_once (keeps p x) (keeps q y) = kept_once x y
kept_once (keeps p x) (drops q y) = absurd (p q)
kept_once (drops p x) (keeps q y) = absurd (q p)
kept_once (drops p x) (drops q y) = kept_once x y
