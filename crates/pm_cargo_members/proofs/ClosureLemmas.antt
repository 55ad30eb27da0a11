-- The nodes to which one comes over edges: the computed list holds exactly these, and nodes that reach each other have the same.
use Rattle.std.proofs.Common.{◌≡◌, ℕ, zero, suc, ◌+◌, ◌<◌, ◌⊎◌, inl, inr, Bool, true, false, ◌&&◌, ◌||◌, List, [], ◌∷◌, map, length, refl, ap, subst, ◌∙◌, arith}
use Rattle.std.specs.List.{Contains, range_with_len}
use Rattle.std.specs.List.Sorted.{IsStrictlySortedBy}
use Rattle.std.specs.Ordering.{nat_cmp}
use Rattle.std.proofs.lemmas.Bool.{eq-eqb, eqb-true}
use Rattle.std.proofs.lemmas.List.Elements.{Contains-append_cases, Contains-append_left, Contains-append_right}
use Rattle.std.proofs.lemmas.List.Kept.{IsStrictlySortedBy-filter}
use Rattle.graph_base.specs.EdgeList.{Edge, reach_over}
use Rattle.graph_base.specs.Edges.{HasEdge, IsInRange, row}
use Rattle.graph_base.specs.Reach.{Reaches, itself, further}
use Rattle.graph_base.proofs.ReachLemmas.{none_in, reaches_edge, reaches_on}
use Rattle.pm_cargo_members.specs.Closure.{LeadsTo, closure, edges_from, leads_to}
use Rattle.pm_cargo_members.proofs.ListLemmas.{any_in, any_of, cons_cases, contains_here, contains_map, filter_in, filter_of, from_map, range_sorted, sorted_same}
use Rattle.graph_base.proofs.FinishLemmas.{range_at as range_has, range_below}

-- ---- the edges as a list

edge_in : (n a b : ℕ) (g : List (List ℕ)) → HasEdge g a b → Contains {X = Edge} (edges_from n g) (n + a, b)
edge_in n a b [] e = absurd (none_in b e)
edge_in n zero b (r ∷ rs) e =
    let same : n ≡ n + zero = omega arith in
    Contains-append_left (map (λ t. (n, t)) r) (edges_from (suc n) rs) (n + zero, b)
    (subst (λ m. Contains {X = Edge} (map (λ t. (n, t)) r) (m, b)) same (contains_map (λ t. (n, t)) r b e))
edge_in n (suc a) b (r ∷ rs) e =
    let same : suc n + a ≡ n + suc a = omega arith in
    Contains-append_right (map (λ t. (n, t)) r) (edges_from (suc n) rs) (n + suc a, b)
    (subst (λ m. Contains {X = Edge} (edges_from (suc n) rs) (m, b)) same (edge_in (suc n) a b rs e))

edge_out : (n : ℕ) (g : List (List ℕ)) (e : Edge) → Contains (edges_from n g) e → (a : ℕ) × (e.0 ≡ n + a) × HasEdge g a e.1
edge_out n [] e c = absurd (none_in e c)
edge_out n (r ∷ rs) e c =
    elim (Contains-append_cases (map (λ t. (n, t)) r) (edges_from (suc n) rs) e c) [
      | inl here ↦
          let t = from_map (λ t. (n, t)) r e here in
          let source : n ≡ e.0 = ap (λ (p : Edge). p.0) t.2 in
          (0, omega (arith, source), subst (Contains r) (ap (λ (p : Edge). p.1) t.2) t.1)
      | inr more ↦ let p = edge_out (suc n) rs e more in (suc p.0, omega (arith, p.1), p.2)
    ]

listed : (g : List (List ℕ)) (a b : ℕ) → HasEdge g a b → Contains {X = Edge} (edges_from 0 g) (a, b)
listed g a b e = let same : 0 + a ≡ a = omega arith in subst (λ m. Contains {X = Edge} (edges_from 0 g) (m, b)) same (edge_in 0 a b g e)

unlisted : (g : List (List ℕ)) (e : Edge) → Contains (edges_from 0 g) e → HasEdge g e.0 e.1
unlisted g e c = let p = edge_out 0 g e c in let same : p.0 ≡ e.0 = omega (arith, p.1) in subst (λ m. HasEdge g m e.1) same p.2

-- ---- what reaches what, over a list of edges

or_cases : (a b c : Bool) → (a || (b && c)) ≡ true → (a ≡ true) ⊎ ((b ≡ true) × (c ≡ true))
or_cases true b c is = inl refl
or_cases false true true is = inr (refl, refl)
or_cases false true false is = cc
or_cases false false c is = cc

or_right : (a b c : Bool) → b ≡ true → c ≡ true → (a || (b && c)) ≡ true
or_right true b c p q = refl
or_right false b c p q = ap (λ x. x && c) p ∙ q

or_left : (a b : Bool) → a ≡ true → (a || b) ≡ true
or_left a b p = ap (λ x. x || b) p

over_itself : (es : List Edge) (a : ℕ) → reach_over es a a ≡ true
over_itself [] a = eq-eqb a a refl
over_itself (e ∷ es) a = or_left (reach_over es a a) (reach_over es a e.0 && reach_over es e.1 a) (over_itself es a)

over_trans : (es : List Edge) (a b c : ℕ) → reach_over es a b ≡ true → reach_over es b c ≡ true → reach_over es a c ≡ true
over_trans [] a b c p q = eq-eqb a c (eqb-true a b p ∙ eqb-true b c q)
over_trans (e ∷ es) a b c p q =
    let direct = or_left (reach_over es a c) (reach_over es a e.0 && reach_over es e.1 c) in
    let over = or_right (reach_over es a c) (reach_over es a e.0) (reach_over es e.1 c) in
    elim (or_cases (reach_over es a b) (reach_over es a e.0) (reach_over es e.1 b) p) [
      | inl first ↦ elim (or_cases (reach_over es b c) (reach_over es b e.0) (reach_over es e.1 c) q) [
        | inl next ↦ direct (over_trans es a b c first next)
        | inr next ↦ over (over_trans es a b e.0 first next.0) next.1
      ]
      | inr first ↦ elim (or_cases (reach_over es b c) (reach_over es b e.0) (reach_over es e.1 c) q) [
        | inl next ↦ over first.0 (over_trans es e.1 b c first.1 next)
        | inr next ↦ over first.0 next.1
      ]
    ]

over_edge : (es : List Edge) (e : Edge) → Contains es e → reach_over es e.0 e.1 ≡ true
over_edge [] e c = absurd (none_in e c)
over_edge (x ∷ es) e c =
    elim (cons_cases x e es c) [
      | inl is ↦ subst (λ (y : Edge). reach_over (x ∷ es) y.0 y.1 ≡ true) is
          (or_right (reach_over es x.0 x.1) (reach_over es x.0 x.0) (reach_over es x.1 x.1) (over_itself es x.0) (over_itself es x.1))
      | inr more ↦ or_left (reach_over es e.0 e.1) (reach_over es e.0 x.0 && reach_over es x.1 e.1) (over_edge es e more)
    ]

over_from_reaches : {g : List (List ℕ)} {a b : ℕ} → Reaches g a b → reach_over (edges_from 0 g) a b ≡ true
over_from_reaches {g = g} (itself {a = a}) = over_itself (edges_from 0 g) a
over_from_reaches {g = g} (further {a = a} {b = b} {c = c} edge rest) =
    over_trans (edges_from 0 g) a b c (over_edge (edges_from 0 g) (a, b) (listed g a b edge)) (over_from_reaches rest)

reaches_from_over : (g : List (List ℕ)) (es : List Edge) → ((e : Edge) → Contains es e → HasEdge g e.0 e.1) → (a b : ℕ) → reach_over es a b ≡ true → Reaches g a b
reaches_from_over g [] all a b is = subst (Reaches g a) (eqb-true a b is) itself
reaches_from_over g (e ∷ es) all a b is =
    let rest : (x : Edge) → Contains es x → HasEdge g x.0 x.1 = λ x c. all x (suc c.0, omega (arith, c.1), c.2) in
    elim (or_cases (reach_over es a b) (reach_over es a e.0) (reach_over es e.1 b) is) [
      | inl direct ↦ reaches_from_over g es rest a b direct
      | inr over ↦ reaches_on (reaches_from_over g es rest a e.0 over.0) (further (all e (contains_here e es)) (reaches_from_over g es rest e.1 b over.1))
    ]

-- the test and the relation agree
pub leads_from_test : (g : List (List ℕ)) (a b : ℕ) → leads_to g a b ≡ true → LeadsTo g a b
leads_from_test g a b is =
    let c = any_in (λ c. reach_over (edges_from 0 g) c b) (row g a) is in
    (c.0, c.1, reaches_from_over g (edges_from 0 g) (unlisted g) c.0 b c.2)

pub test_from_leads : (g : List (List ℕ)) (a b : ℕ) → LeadsTo g a b → leads_to g a b ≡ true
test_from_leads g a b l = any_of (λ c. reach_over (edges_from 0 g) c b) (row g a) l.0 l.1 (over_from_reaches l.2)

-- ---- one or more edges, counted from either end

pub leads_from_last : {g : List (List ℕ)} {a n : ℕ} (b : ℕ) → Reaches g a n → HasEdge g n b → LeadsTo g a b
leads_from_last b itself edge = (b, edge, itself)
leads_from_last {g = g} b (further {b = x} {c = n} first rest) edge = (x, first, reaches_edge g x n b rest edge)

last_edge : {g : List (List ℕ)} {c b : ℕ} (a : ℕ) → HasEdge g a c → Reaches g c b → (n : ℕ) × Reaches g a n × HasEdge g n b
last_edge a first itself = (a, itself, first)
last_edge a first (further {a = c} next rest) = let r = last_edge c next rest in (r.0, further first r.1, r.2)

pub last_from_leads : (g : List (List ℕ)) (a b : ℕ) → LeadsTo g a b → (n : ℕ) × Reaches g a n × HasEdge g n b
last_from_leads g a b l = last_edge a l.1 l.2

leads_after : {g : List (List ℕ)} {k m : ℕ} (b : ℕ) → Reaches g k m → LeadsTo g m b → LeadsTo g k b
leads_after b itself l = l
leads_after b (further {b = x} first rest) l = let r = leads_after b rest l in (x, first, further r.1 r.2)

-- ---- the closure as a list

pub closure_sorted : (g : List (List ℕ)) (a : ℕ) → IsStrictlySortedBy nat_cmp (closure g a)
unfolding closure
closure_sorted g a = IsStrictlySortedBy-filter nat_cmp (leads_to g a) (range_with_len 0 (length g)) (range_sorted 0 (length g))

pub closure_in : (g : List (List ℕ)) (a b : ℕ) → Contains (closure g a) b → LeadsTo g a b
unfolding closure
closure_in g a b c = leads_from_test g a b (filter_in (leads_to g a) (range_with_len 0 (length g)) b c).1

pub closure_below : (g : List (List ℕ)) (a b : ℕ) → Contains (closure g a) b → b < length g
unfolding closure
closure_below g a b c = range_below (length g) b (filter_in (leads_to g a) (range_with_len 0 (length g)) b c).0

pub leads_below : (g : List (List ℕ)) (a b : ℕ) → IsInRange g → LeadsTo g a b → b < length g
leads_below g a b ranged l = let r = last_from_leads g a b l in ranged r.0 b r.2

pub closure_of : (g : List (List ℕ)) (a b : ℕ) → IsInRange g → LeadsTo g a b → Contains (closure g a) b
unfolding closure
closure_of g a b ranged l = filter_of (leads_to g a) (range_with_len 0 (length g)) b (range_has (length g) b (leads_below g a b ranged l)) (test_from_leads g a b l)

-- an ascending list of what one comes to is the closure
pub is_closure : (g : List (List ℕ)) (a : ℕ) (xs : List ℕ) → IsInRange g → IsStrictlySortedBy nat_cmp xs
    → ((b : ℕ) → Contains xs b → LeadsTo g a b) → ((b : ℕ) → LeadsTo g a b → Contains xs b) → xs ≡ closure g a
is_closure g a xs ranged sorted sound whole =
    sorted_same xs (closure g a) sorted (closure_sorted g a) (λ b c. closure_of g a b ranged (sound b c)) (λ b c. whole b (closure_in g a b c))

-- nodes that reach each other come to the same
pub same_closure : (g : List (List ℕ)) (m k : ℕ) → IsInRange g → Reaches g m k → Reaches g k m → closure g m ≡ closure g k
same_closure g m k ranged on back =
    is_closure g k (closure g m) ranged (closure_sorted g m)
    (λ b c. leads_after b back (closure_in g m b c))
    (λ b l. closure_of g m b ranged (leads_after b on l))
