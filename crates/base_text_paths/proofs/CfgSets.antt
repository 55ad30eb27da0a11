-- That a sorted list of atoms is the finite set of its atoms.
use Rattle.std.proofs.Common.{◌≡◌, List, [], ◌∷◌, ◌||◌, Bool, true, false, refl, sym, ap, ◌∙◌, inl, inr, ⊎_elim}
use Rattle.std.specs.Cmp.{IsTotalOrder, eq_by_cmp_equiv}
use Rattle.std.specs.Ordering.{nat_cmp, eq_by_cmp}
use Rattle.std.specs.Cmp.Lexicographic.{slice_cmp}
use Rattle.std.specs.FinMap.{IsAntisymmetric, slice_cmp-IsAntisymmetric, nat_cmp-IsAntisymmetric}
use Rattle.base_text_outside.specs.declared.cfg.CfgAtom.{CfgAtom}
use Rattle.base_text_outside.specs.declared.cfg.CfgAtom.TheVariants.{Flag, KeyValue}
use Rattle.base_text_paths.specs.CfgOrder.{atom_cmp, with_atom, with_atoms, without_atoms}
use Rattle.base_text_outside.specs.contracts.cfg.CfgAtomPartialEq.TheImpl as atom_eq
use Rattle.base_values.proofs.SortedLists.{settled_is, has-dedup, has-fold, has-insert_key, searched, tied}
use Rattle.base_text_paths.proofs.PartedLists.{without-alike}
use Rattle.std.specs.List.{dedup, Contains, list_any}
use Rattle.std.specs.Prelude.{ℕ, Result, Ok, Err, is_ok, IsTrue, length, ◌↔◌, ◌⊎◌}
use Rattle.std.proofs.lemmas.Bool.{false≢true}
use Rattle.std.proofs.lemmas.Map.Views.{Contains-from_any, list_any-from_Contains}
use Rattle.std.specs.List.Sorted.{IsSorted, IsPermutation, IsStrictlySortedBy, IsSearchInRange, IsBinarySearchResult}
use Rattle.std.proofs.lemmas.List.Kept.{IsStrictlySortedBy-dedup}
use Rattle.std.proofs.lemmas.List.Sorted.{list_any-IsPermutation}
use Rattle.base_text_outside.specs.contracts.cfg.CfgAtomOrd.TheImpl.Laws as atom_laws
use Rattle.base_values.proofs.Basics.{both_equal, or_second}

pub atom_cmp-total : IsTotalOrder atom_cmp
atom_cmp-total = atom_laws.total-law

texts_tie : IsAntisymmetric (slice_cmp nat_cmp)
texts_tie = slice_cmp-IsAntisymmetric nat_cmp-IsAntisymmetric

-- atoms that tie are the same
pub atom_cmp-IsAntisymmetric : IsAntisymmetric atom_cmp
atom_cmp-IsAntisymmetric (Flag x) (Flag y) tie = ap Flag (texts_tie x y tie)
atom_cmp-IsAntisymmetric (Flag x) (KeyValue k v) tie = cc
atom_cmp-IsAntisymmetric (KeyValue k v) (Flag y) tie = cc
atom_cmp-IsAntisymmetric (KeyValue k v) (KeyValue l w) tie =
    let parts = both_equal (slice_cmp nat_cmp k l) (slice_cmp nat_cmp v w) tie in
    λ i. KeyValue (texts_tie k l parts.0 i) (texts_tie v w parts.1 i)

-- atoms are equal where they tie
pub atom_ties : (x y : CfgAtom) → (atom_eq.ghosts).eq x y ≡ eq_by_cmp atom_cmp x y
atom_ties x y = atom_laws.matches_eq-law x y

-- a list that was sorted and rid of repeats
pub settled : (sorted given : List CfgAtom) → IsPermutation given sorted → IsSorted atom_cmp sorted
    → (IsStrictlySortedBy atom_cmp (dedup (atom_eq.ghosts).eq sorted)) × (dedup (atom_eq.ghosts).eq sorted ≡ with_atoms [] given)
unfolding IsStrictlySortedBy
settled sorted given moved rises =
    let kept = IsStrictlySortedBy-dedup atom_cmp-total atom_ties sorted rises in (
      kept,
      settled_is atom_cmp-total atom_cmp-IsAntisymmetric _ [] given kept tt (λ q.
          has-dedup atom_cmp-total (atom_eq.ghosts).eq atom_ties q sorted ∙ sym (list_any-IsPermutation (eq_by_cmp atom_cmp q) given sorted moved)),
    )

-- a list in order is what its own atoms make
pub with_atoms-again : (atoms : List CfgAtom) → IsStrictlySortedBy atom_cmp atoms → with_atoms [] atoms ≡ atoms
unfolding IsStrictlySortedBy
with_atoms-again atoms sorted = sym (settled_is atom_cmp-total atom_cmp-IsAntisymmetric atoms [] atoms sorted tt (λ q. refl))

-- what a binary search for an atom among atoms in order says of them
pub searched_contains : (atom : CfgAtom) (atoms : List CfgAtom) (found : Result ℕ ℕ) → IsStrictlySortedBy atom_cmp atoms → IsSearchInRange found (length atoms)
    → IsBinarySearchResult (λ y. atom_cmp y atom) atoms found → (answer : Bool) → answer ≡ is_ok found → IsTrue answer ↔ Contains atoms atom
searched_contains atom atoms (Ok place) sorted within position answer is =
    let there = searched atom_cmp-total atom atoms (Ok place) sorted within position in
    (λ _. Contains-from_any (λ x y e. atom_cmp-IsAntisymmetric x y (tied (atom_cmp x y) e)) atom atoms there, λ _. is)
searched_contains atom atoms (Err place) sorted within position answer is =
    let absent = searched atom_cmp-total atom atoms (Err place) sorted within position in
    (λ yes. absurd (false≢true (sym is ∙ yes)), λ there. absurd (false≢true (sym absent.0 ∙ list_any-from_Contains (eq_by_cmp_equiv atom_cmp-total) atom atoms there)))

-- it is all one whether the atoms to take out stand in order
pub without_atoms-ordered : (atoms others : List CfgAtom) → without_atoms atoms (with_atoms [] others) ≡ without_atoms atoms others
without_atoms-ordered atoms others = without-alike atom_cmp-total atom_cmp-IsAntisymmetric atoms _ others (λ q. has-fold atom_cmp-total q [] others)

-- an equal atom among others is one that ties
pub found_ties : (atom : CfgAtom) (others : List CfgAtom) → list_any (λ other. (atom_eq.ghosts).eq other atom) others ≡ list_any (eq_by_cmp atom_cmp atom) others
found_ties atom [] = refl
found_ties atom (x ∷ others) = λ i. (atom_ties x atom ∙ (eq_by_cmp_equiv atom_cmp-total).symm x atom) i || found_ties atom others i

contains_found : (atom : CfgAtom) (atoms : List CfgAtom) → list_any (eq_by_cmp atom_cmp atom) atoms ≡ true → Contains atoms atom
contains_found atom atoms = Contains-from_any (λ x y e. atom_cmp-IsAntisymmetric x y (tied (atom_cmp x y) e)) atom atoms

one_of : (a b : Bool) → (a || b) ≡ true → (a ≡ true) ⊎ (b ≡ true)
one_of true b e = inl refl
one_of false b e = inr e

-- what is among atoms once one more was put in
pub contains-with_atom : (atoms : List CfgAtom) (atom x : CfgAtom) → Contains (with_atom atoms atom) x ↔ ((x ≡ atom) ⊎ Contains atoms x)
contains-with_atom atoms atom x =
    let put = has-insert_key atom_cmp-total x atom atoms in (
      λ there. ⊎_elim
          (λ tie. inl (atom_cmp-IsAntisymmetric x atom (tied (atom_cmp x atom) tie)))
          (λ among. inr (contains_found x atoms among))
          (one_of (eq_by_cmp atom_cmp x atom) _ (sym put ∙ list_any-from_Contains (eq_by_cmp_equiv atom_cmp-total) x (with_atom atoms atom) there)),
      λ either. contains_found x (with_atom atoms atom) (put ∙ ⊎_elim
          (λ same. ap (λ b. b || list_any (eq_by_cmp atom_cmp x) atoms) (ap (λ y. eq_by_cmp atom_cmp x y) (sym same) ∙ (eq_by_cmp_equiv atom_cmp-total).refl x))
          (λ among. or_second _ _ (list_any-from_Contains (eq_by_cmp_equiv atom_cmp-total) x atoms among))
          either),
    )
