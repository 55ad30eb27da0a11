-- A function of the lines that are left, one line further.
use Rattle.std.proofs.Common.{◌≡◌, ℕ, List, ◌∷◌, sym, ap, ◌∙◌, ◌<◌, ◌+◌, length, get_or, drop}
use Rattle.std.proofs.lemmas.List.{at_drop_more}

-- the next line comes off the front of those that are left
pub one_further : {A : Type 0} (left : List (List ℕ) → A) (all : List (List ℕ)) (n m : ℕ) (line : List ℕ) → n < length all → line ≡ get_or all n line → m ≡ n + 1 → left (drop n all) ≡ left (line ∷ drop m all)
one_further left all n m line l is count =
    at_drop_more left all n line l
    ∙ ap (λ x. left (x ∷ drop (n + 1) all)) (sym is)
    ∙ ap (λ k. left (line ∷ drop k all)) (sym count)
