-- The numbers of the roots of one kind, as they are put into a set one after the other.
use Rattle.std.proofs.Common.{◌≡◌, ℕ, suc, ◌+◌, ◌<◌, ◌≤◌, Bool, true, false, List, [], ◌∷◌, ◌++◌, Greater}
use Rattle.std.proofs.Common.{cond, length, take, get_or, refl, sym, ap, ◌∙◌, arith, append-nil}
use Rattle.std.proofs.lemmas.List.{length-take-le, take_more}
use Rattle.std.specs.Bool.{beq}
use Rattle.std.specs.BTreeSet.{insert_key}
use Rattle.std.specs.Cmp.{nat_cmp_is}
use Rattle.std.specs.List.{AllByRecursion}
use Rattle.std.specs.Ordering.{nat_cmp}
use Rattle.input_db.specs.Change.{numbers_from, numbers_of}
use Rattle.input_db_files.specs.declared.source_root.SourceRoot.{SourceRoot}

-- a number above all others goes last
insert_key-last : (ks : List ℕ) (n : ℕ) → AllByRecursion (λ k. k < n) ks
    → insert_key nat_cmp ks n ≡ ks ++ n ∷ []
insert_key-last [] n h = refl
insert_key-last (k ∷ ks) n h =
    let above : nat_cmp n k ≡ Greater = sym (nat_cmp_is n k Greater h.0) in
    rw (above, insert_key-last ks n h.1)

one_before : (c : Bool) (n : ℕ) (whole front back : List ℕ) → whole ≡ front ++ back
    → cond c (n ∷ whole) whole ≡ cond c (n ∷ front) front ++ back
one_before true n whole front back e = ap (λ (ks : List ℕ). n ∷ ks) e
one_before false n whole front back e = e

pub shift : (n k : ℕ) → suc n + k ≡ n + suc k
shift n k = omega arith

pub at_start : (n : ℕ) → n ≡ n + 0
at_start n = omega arith

-- one more root
numbers-append : (b : Bool) (n : ℕ) (roots : List SourceRoot) (root : SourceRoot)
    → numbers_from b n (roots ++ root ∷ [])
    ≡ numbers_from b n roots ++ cond (beq root.is_library b) ((n + length roots) ∷ []) []
numbers-append b n [] root = ap (λ (k : ℕ). cond (beq root.is_library b) (k ∷ []) []) (at_start n)
numbers-append b n (r ∷ roots) root =
    one_before (beq r.is_library b) n _ _ _
    (numbers-append b (suc n) roots root
    ∙ ap (λ (k : ℕ). numbers_from b (suc n) roots ++ cond (beq root.is_library b) (k ∷ []) [])
    (shift n (length roots)))

one_below : (c : Bool) (n top : ℕ) (ks : List ℕ) → n < top → AllByRecursion (λ k. k < top) ks
    → AllByRecursion (λ k. k < top) (cond c (n ∷ ks) ks)
one_below true n top ks lt h = (lt, h)
one_below false n top ks lt h = h

within : (n k top : ℕ) → n + suc k ≡ top → n < top
within n k top e = omega arith

-- they are below the number of the next
numbers-below : (b : Bool) (n top : ℕ) (roots : List SourceRoot) → n + length roots ≡ top
    → AllByRecursion (λ k. k < top) (numbers_from b n roots)
numbers-below b n top [] e = tt
numbers-below b n top (r ∷ roots) e =
    one_below (beq r.is_library b) n top _ (within n (length roots) top e)
    (numbers-below b (suc n) top roots (shift n (length roots) ∙ e))

put_last : (c : Bool) (ks : List ℕ) (n : ℕ) → AllByRecursion (λ k. k < n) ks
    → ks ++ cond c (n ∷ []) [] ≡ cond c (insert_key nat_cmp ks n) ks
put_last true ks n h = sym (insert_key-last ks n h)
put_last false ks n h = append-nil ks

counted : (k n : ℕ) → k ≡ n → 0 + k ≡ n
counted k n e = omega arith

in_reach : (n top : ℕ) → n < top → n ≤ top
in_reach n top h = omega arith

-- the numbers after one root more
pub numbers_more : (b : Bool) (roots : List SourceRoot) (i : ℕ) (root : SourceRoot) → i < length roots
    → root ≡ get_or roots i root
    → numbers_of b (take (i + 1) roots)
    ≡ cond (beq root.is_library b) (insert_key nat_cmp (numbers_of b (take i roots)) i)
    (numbers_of b (take i roots))
numbers_more b roots i root lt is =
    let count : 0 + length (take i roots) ≡ i =
    counted (length (take i roots)) i (length-take-le i roots (in_reach i (length roots) lt)) in
    ap (λ (rs : List SourceRoot). numbers_of b rs)
    (take_more roots i root lt ∙ ap (λ (r : SourceRoot). take i roots ++ r ∷ []) (sym is))
    ∙ numbers-append b 0 (take i roots) root
    ∙ ap (λ (k : ℕ). numbers_of b (take i roots) ++ cond (beq root.is_library b) (k ∷ []) []) count
    ∙ put_last (beq root.is_library b) (numbers_of b (take i roots)) i
    (numbers-below b 0 i (take i roots) count)
