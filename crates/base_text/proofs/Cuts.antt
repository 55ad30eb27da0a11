-- What one more byte does to the lines of some bytes.
use Rattle.std.proofs.Common.{◌≡◌, ℕ, Bool, true, false, cond, List, [], ◌∷◌, ◌++◌, ◌==◌, refl, sym, ap, subst, ◌∙◌, append_assoc, append-nil}
use Rattle.std.specs.List.{slice_split, onto_first}
use Rattle.std.proofs.lemmas.Grind.{common_steps}
use Rattle.std.proofs.Common.{arith}
use Rattle.base_text.specs.Lines.{newline, pieces, front, final, whole_lines, partial_line}
use Rattle.base_text.specs.Reader.{IsFrontOf}

front-snoc : (ps : List (List ℕ)) (p : List ℕ) → front (ps ++ p ∷ []) ≡ ps
front-snoc [] p = refl
front-snoc (q ∷ []) p = refl
front-snoc (q ∷ r ∷ ps) p = ap (λ l. q ∷ l) (front-snoc (r ∷ ps) p)

final-snoc : (ps : List (List ℕ)) (p : List ℕ) → final (ps ++ p ∷ []) ≡ p
final-snoc [] p = refl
final-snoc (q ∷ []) p = refl
final-snoc (q ∷ r ∷ ps) p = final-snoc (r ∷ ps) p

-- a list that is not empty is its front and its last
front-final : (p : List ℕ) (ps : List (List ℕ)) → front (p ∷ ps) ++ final (p ∷ ps) ∷ [] ≡ p ∷ ps
front-final p [] = refl
front-final p (q ∷ ps) = ap (λ l. p ∷ l) (front-final q ps)

-- the first piece, and the pieces behind it
pub record Parts (ps : List (List ℕ)) : Type 0 where
  pub first : List ℕ
  pub others : List (List ℕ)
  pub is : ps ≡ first ∷ others

pub parts_of : (p : ℕ → Bool) (bs : List ℕ) → Parts (slice_split p bs)
parts_of p [] = record { first = []; others = []; is = refl }
parts_of p (b ∷ bs) =
    let r = parts_of p bs in
    elim (p b) as (λ v. Parts (cond v ([] ∷ slice_split p bs) (onto_first b (slice_split p bs)))) [
      | true ↦ record { first = []; others = slice_split p bs; is = refl }
      | false ↦ record { first = b ∷ r.first; others = r.others; is = ap (onto_first b) r.is }
    ]

front-final-pieces : (bs : List ℕ) → front (pieces bs) ++ final (pieces bs) ∷ [] ≡ pieces bs
front-final-pieces bs =
    let r = parts_of (λ b. b == newline) bs in
    rw r.is (front-final r.first r.others)

-- a cut behind the last byte
split-cut : (p : ℕ → Bool) (bs : List ℕ) (b : ℕ) → p b ≡ true → slice_split p (bs ++ b ∷ []) ≡ slice_split p bs ++ [] ∷ []
split-cut p [] b h = rw h refl
split-cut p (x ∷ bs) b h =
    rw (split-cut p bs b h)
    (elim (p x) as (λ v. cond v ([] ∷ (slice_split p bs ++ [] ∷ [])) (onto_first x (slice_split p bs ++ [] ∷ [])) ≡ cond v ([] ∷ slice_split p bs) (onto_first x (slice_split p bs)) ++ [] ∷ []) [
      | true ↦ refl
      | false ↦ let r = parts_of p bs in rw r.is refl
    ])

-- the last piece with one more byte
onto_last : ℕ → List (List ℕ) → List (List ℕ)
onto_last b ps = front ps ++ (final ps ++ b ∷ []) ∷ []

onto_last-first : (x b : ℕ) (p : List ℕ) (ps : List (List ℕ)) → onto_first x (onto_last b (p ∷ ps)) ≡ onto_last b (onto_first x (p ∷ ps))
unfolding onto_last
onto_last-first x b p [] = refl
onto_last-first x b p (q ∷ ps) = refl

onto_last-empty : (b : ℕ) (p : List ℕ) (ps : List (List ℕ)) → [] ∷ onto_last b (p ∷ ps) ≡ onto_last b ([] ∷ p ∷ ps)
unfolding onto_last
onto_last-empty b p ps = refl

split-more : (p : ℕ → Bool) (bs : List ℕ) (b : ℕ) → p b ≡ false → slice_split p (bs ++ b ∷ []) ≡ onto_last b (slice_split p bs)
unfolding onto_last
split-more p [] b h = rw h refl
split-more p (x ∷ bs) b h =
    let r = parts_of p bs in
    rw (split-more p bs b h)
    (elim (p x) as (λ v. cond v ([] ∷ onto_last b (slice_split p bs)) (onto_first x (onto_last b (slice_split p bs))) ≡ onto_last b (cond v ([] ∷ slice_split p bs) (onto_first x (slice_split p bs)))) [
      | true ↦ rw r.is (onto_last-empty b r.first r.others)
      | false ↦ rw r.is (onto_last-first x b r.first r.others)
    ])

-- before the first byte
pub partial_line-nil : partial_line [] ≡ []
unfolding partial_line
partial_line-nil = refl

-- a newline ends the line
pub whole_lines-newline : (bs : List ℕ) → whole_lines (bs ++ newline ∷ []) ≡ whole_lines bs ++ partial_line bs ∷ []
unfolding whole_lines partial_line
whole_lines-newline bs = rw (split-cut (λ b. b == newline) bs newline refl, front-snoc) (sym (front-final-pieces bs))

pub partial_line-newline : (bs : List ℕ) → partial_line (bs ++ newline ∷ []) ≡ []
unfolding partial_line
partial_line-newline bs = rw (split-cut (λ b. b == newline) bs newline refl, final-snoc) refl

-- another byte joins the piece
pub whole_lines-other : (bs : List ℕ) (b : ℕ) → (b == newline) ≡ false → whole_lines (bs ++ b ∷ []) ≡ whole_lines bs
unfolding whole_lines onto_last
whole_lines-other bs b h = rw (split-more (λ c. c == newline) bs b h, front-snoc) refl

pub partial_line-other : (bs : List ℕ) (b : ℕ) → (b == newline) ≡ false → partial_line (bs ++ b ∷ []) ≡ partial_line bs ++ b ∷ []
unfolding partial_line onto_last
partial_line-other bs b h = rw (split-more (λ c. c == newline) bs b h, final-snoc) refl

-- more bytes add lines behind those that are whole
one_more : (bs : List ℕ) (b : ℕ) → IsFrontOf (whole_lines bs) (whole_lines (bs ++ b ∷ []))
one_more bs b =
    elim (b == newline) as (λ v. (b == newline) ≡ v → IsFrontOf (whole_lines bs) (whole_lines (bs ++ b ∷ []))) [
      | true ↦ λ h. let same : b ≡ newline = grind (arith, common_steps) in subst (λ c. IsFrontOf (whole_lines bs) (whole_lines (bs ++ c ∷ []))) (sym same) (record { rest = partial_line bs ∷ []; is = whole_lines-newline bs })
      | false ↦ λ h. record { rest = []; is = whole_lines-other bs b h ∙ sym (append-nil (whole_lines bs)) }
    ] refl

pub whole_lines-append : (bs rest : List ℕ) → IsFrontOf (whole_lines bs) (whole_lines (bs ++ rest))
whole_lines-append bs [] = record { rest = []; is = ap whole_lines (append-nil bs) ∙ sym (append-nil (whole_lines bs)) }
whole_lines-append bs (b ∷ rest) =
    let first = one_more bs b in
    let then = whole_lines-append (bs ++ b ∷ []) rest in
    record { rest = first.rest ++ then.rest; is = ap whole_lines (sym (append_assoc bs (b ∷ []) rest)) ∙ then.is ∙ ap (λ l. l ++ then.rest) first.is ∙ append_assoc (whole_lines bs) first.rest then.rest }
