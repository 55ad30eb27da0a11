-- What a filtered list contains.
use Rattle.std.proofs.Common.{◌≡◌, ◌∙◌, ℕ, ◌+◌, Bool, true, false, cond, List, [], ◌∷◌, ap, arith, filter, inl, inr, refl, subst, sym}
use Rattle.std.specs.List.{Contains}
use Rattle.std.proofs.lemmas.List.Kept.{AllPairs-from_increasing, IsStrictlyIncreasing-filter}
use Rattle.graph_base.specs.Edges.{IsAscending}
use Rattle.graph_base.proofs.FinishLemmas.{contains_cases, contains_first, contains_other}
use Rattle.graph_base.proofs.ReachLemmas.{none_in}

-- what a list contains that may have one more in front
of_split : (test : ℕ → Bool) (n : ℕ) (rest ns : List ℕ) (b : ℕ) (passes : Bool) → test n ≡ passes
    → (Contains rest b → Contains ns b × (test b ≡ true))
    → Contains (cond passes (n ∷ rest) rest) b → Contains (n ∷ ns) b × (test b ≡ true)
of_split test n rest ns b true is more h = elim (contains_cases n rest b h) [
  | inl same ↦ (subst (λ z. Contains (n ∷ ns) z) same (contains_first n ns), ap test (sym same) ∙ is)
  | inr other ↦ let old = more other in (contains_other n ns b old.0, old.1)
]
of_split test n rest ns b false is more h = let old = more h in (contains_other n ns b old.0, old.1)

-- what is left is of the list, and passes
pub filtered_of : (test : ℕ → Bool) (ns : List ℕ) (b : ℕ) → Contains (filter test ns) b → Contains ns b × (test b ≡ true)
filtered_of test [] b h = absurd (none_in b h)
filtered_of test (n ∷ ns) b h = of_split test n (filter test ns) ns b (test n) refl (filtered_of test ns b) h

keeps_split : (passes : Bool) (n : ℕ) (rest : List ℕ) (b : ℕ) → Contains rest b → Contains (cond passes (n ∷ rest) rest) b
keeps_split true n rest b h = contains_other n rest b h
keeps_split false n rest b h = h

-- what is left of ascending numbers is ascending
pub ascending_filtered : (test : ℕ → Bool) (ns : List ℕ) → IsAscending ns → IsAscending (filter test ns)
ascending_filtered test ns ascending = λ i j lt within.
    AllPairs-from_increasing (filter test ns)
    (IsStrictlyIncreasing-filter test ns (λ k next. ascending k (k + 1) (omega arith) next)) i j 0 lt within
