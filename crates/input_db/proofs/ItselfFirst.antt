-- A crate before the others of a list: what such a list contains, and that it has each once.
use Rattle.std.proofs.Common.{◌≡◌, ◌↔◌, ℕ, zero, suc, ◌<◌, not, nat_eq, List, ◌∷◌}
use Rattle.std.proofs.Common.{get_or, inl, inr, length, refl, sym, subst, arith}
use Rattle.std.specs.List.{Contains}
use Rattle.std.proofs.lemmas.Bool.{cases_eq}
use Rattle.std.proofs.lemmas.Bool.Decides.{nat_tests}
use Rattle.std.proofs.lemmas.List.Elements.{filter_passes}
use Rattle.graph_base.proofs.FinishLemmas.{contains_cases, contains_other}
use Rattle.graph_base.specs.Edges.{IsAscending}
use Rattle.graph_base.specs.Reach.{Reaches, itself}
use Rattle.input_db.specs.Queries.{IsWithItselfFirst, others}
use Rattle.input_db.proofs.Filtered.{ascending_filtered, filtered_of}
use Rattle.crate_graph.proofs.SuborderLemmas.{contains_filter as among_filtered}

-- a list with the crate first contains that crate, and what the list of all contains besides
pub contains_same : (krate : ℕ) (ns crates : List ℕ) → crates ≡ krate ∷ others krate ns → (P : ℕ → Type 0)
    → ((b : ℕ) → Contains ns b → P b) → ((b : ℕ) → (b ≡ krate → ⊥) → P b → Contains ns b) → P krate
    → (b : ℕ) → Contains crates b ↔ P b
contains_same krate ns crates is P sound complete at_itself b =
    subst (λ (l : List ℕ). Contains l b ↔ P b) (sym is) (from, to)
  where
    from : Contains (krate ∷ others krate ns) b → P b
    from h = elim (contains_cases krate (others krate ns) b h) [
      | inl same ↦ subst P same at_itself
      | inr other ↦ sound b (filtered_of (λ n. not (nat_eq n krate)) ns b other).0
    ]

    to : P b → Contains (krate ∷ others krate ns) b
    to p = elim (cases_eq b krate) [
      | inl same ↦ (zero, omega arith, sym same)
      | inr differs ↦
          contains_other krate (others krate ns) b
          (among_filtered (λ n. not (nat_eq n krate)) ns b (grind (arith, nat_tests)) (complete b differs p))
    ]

-- the same of the nodes that a search reached
pub reaches_same : (g found : List (List ℕ)) (krate start : ℕ) (ns nodes crates : List ℕ)
    → found ≡ g → start ≡ krate → ns ≡ nodes → crates ≡ krate ∷ others krate ns
    → ((b : ℕ) → Contains nodes b ↔ Reaches found start b)
    → (b : ℕ) → Contains crates b ↔ Reaches g krate b
reaches_same g found krate start ns nodes crates same_graph same_start same_nodes is exact =
    let same : (b : ℕ) → Contains ns b ↔ Reaches g krate b =
    subst (λ (h : List (List ℕ)). (b : ℕ) → Contains ns b ↔ Reaches h krate b) same_graph
    (subst (λ (n : ℕ). (b : ℕ) → Contains ns b ↔ Reaches found n b) same_start
    (subst (λ (l : List ℕ). (b : ℕ) → Contains l b ↔ Reaches found start b) (sym same_nodes) exact)) in
    contains_same krate ns crates is (Reaches g krate) (λ b. (same b).0) (λ b differs. (same b).1) itself

-- the list with the crate first has each once
pub first_once : (krate : ℕ) (ns crates : List ℕ) → crates ≡ krate ∷ others krate ns → IsAscending ns
    → IsWithItselfFirst krate crates
first_once krate ns crates is ascending = subst (IsWithItselfFirst krate) (sym is) first
  where
    apart : (i j : ℕ) → i < j → j < length (others krate ns)
        → get_or (others krate ns) i 0 < get_or (others krate ns) j 0
    apart i j lt within = ascending_filtered (λ n. not (nat_eq n krate)) ns ascending i j lt within

    other : (j : ℕ) → j < length (others krate ns) → krate ≡ get_or (others krate ns) j 0 → ⊥
    other j within same =
        let passes = filter_passes (λ n. not (nat_eq n krate)) ns j 0 within in
        grind (arith, nat_tests)

    once : (i j : ℕ) → i < j → j < length (krate ∷ others krate ns)
        → get_or (krate ∷ others krate ns) i 0 ≡ get_or (krate ∷ others krate ns) j 0 → ⊥
    once i zero lt within same = absurd (omega arith)
    once zero (suc j) lt within same = other j (omega arith) same
    once (suc i) (suc j) lt within same = absurd (omega (arith, apart i j (omega arith) (omega arith)))

    first : IsWithItselfFirst krate (krate ∷ others krate ns)
    first = record { some = omega arith; first = refl; once = once }
