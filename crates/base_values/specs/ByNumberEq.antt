-- When two maps from numbers are equal: they have equal values at the same numbers.
use Rattle.std.specs.Prelude.{Bool, nat_eq, ◌&&◌}
use Rattle.std.specs.Ordering.{nat_cmp}
use Rattle.std.specs.FinMap.{FinMap, entries}
use Rattle.std.specs.Cmp.{IsEquivalence, IsPartialEquivalence, and_equiv, and_per, nat_eq_equiv, on_equiv, on_per, partial_equiv_from_equiv}
use Rattle.std.specs.Cmp.Lexicographic.{lists_equiv, lists_per, pointwise}

-- the same numbers with equal values, in ascending order
abbrev pub same_map : {X : Type 0} → (X → X → Bool) → FinMap nat_cmp X → FinMap nat_cmp X → Bool
same_map eq m n = pointwise (λ p q. nat_eq p.0 q.0 && eq p.1 q.1) (entries m) (entries n)

-- the laws of this equality, as its traits ask for them
pub same_map_per : {X : Type 0} {eq : X → X → Bool} → IsPartialEquivalence eq
    → IsPartialEquivalence (same_map eq)
same_map_per laws =
    on_per entries
    (lists_per (and_per (on_per (λ p. p.0) (partial_equiv_from_equiv nat_eq_equiv)) (on_per (λ p. p.1) laws)))

-- it is an equivalence where that of the values is
pub same_map_equiv : {X : Type 0} {eq : X → X → Bool} → IsEquivalence eq → IsEquivalence (same_map eq)
same_map_equiv laws =
    on_equiv entries (lists_equiv (and_equiv (on_equiv (λ p. p.0) nat_eq_equiv) (on_equiv (λ p. p.1) laws)))
