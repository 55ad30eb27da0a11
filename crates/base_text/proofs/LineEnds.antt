-- What bytes with and without a newline behind some bytes do to their lines.
use Rattle.std.proofs.Common.{◌≡◌, ℕ, true, false, List, [], ◌∷◌, ◌++◌, ◌==◌, ◌||◌, refl, sym, ap, ◌∙◌, append_assoc, append-nil}
use Rattle.std.proofs.lemmas.List.Folds.{list_any-append}
use Rattle.base_text.specs.Lines.{newline, has_newline, whole_lines, partial_line, lines_of, last_line}
use Rattle.base_text.proofs.Cuts.{whole_lines-newline, partial_line-newline, whole_lines-other, partial_line-other}

first_uncut : (b : ℕ) (part : List ℕ) → has_newline (b ∷ part) ≡ false → (b == newline) ≡ false
first_uncut b part h = elim (b == newline) as (λ v. (v || has_newline part) ≡ false → v ≡ false) [ true ↦ λ e. e | false ↦ λ e. refl ] h

rest_uncut : (b : ℕ) (part : List ℕ) → has_newline (b ∷ part) ≡ false → has_newline part ≡ false
rest_uncut b part h = elim (b == newline) as (λ v. (v || has_newline part) ≡ false → has_newline part ≡ false) [ true ↦ λ e. absurd (cc) | false ↦ λ e. e ] h

-- bytes without a newline, and more of them
pub uncut-append : (line part : List ℕ) → has_newline line ≡ false → has_newline part ≡ false → has_newline (line ++ part) ≡ false
uncut-append line part first second = list_any-append (λ b. b == newline) line part ∙ ap (λ v. v || has_newline part) first ∙ second

-- bytes without newline end no line
pub whole_lines-uncut : (front part : List ℕ) → has_newline part ≡ false → whole_lines (front ++ part) ≡ whole_lines front
whole_lines-uncut front [] h = ap whole_lines (append-nil front)
whole_lines-uncut front (b ∷ part) h =
    ap whole_lines (sym (append_assoc front (b ∷ []) part)) ∙ whole_lines-uncut (front ++ b ∷ []) part (rest_uncut b part h) ∙ whole_lines-other front b (first_uncut b part h)

pub partial_line-uncut : (front part : List ℕ) → has_newline part ≡ false → partial_line (front ++ part) ≡ partial_line front ++ part
partial_line-uncut front [] h = ap partial_line (append-nil front) ∙ sym (append-nil (partial_line front))
partial_line-uncut front (b ∷ part) h =
    ap partial_line (sym (append_assoc front (b ∷ []) part)) ∙ partial_line-uncut (front ++ b ∷ []) part (rest_uncut b part h) ∙ ap (λ l. l ++ part) (partial_line-other front b (first_uncut b part h)) ∙ append_assoc (partial_line front) (b ∷ []) part

-- no bytes have no line
pub lines_of-nil : lines_of [] ≡ []
unfolding lines_of whole_lines partial_line
lines_of-nil = refl

-- what ends in a newline has whole lines alone
pub lines_of-whole : (front : List ℕ) → partial_line front ≡ [] → lines_of front ≡ whole_lines front
unfolding lines_of
lines_of-whole front h = ap (λ l. whole_lines front ++ last_line l) h ∙ append-nil (whole_lines front)

module _ (front line : List ℕ) (cut : partial_line front ≡ []) (uncut : has_newline line ≡ false) where
  at_line : partial_line (front ++ line) ≡ line
  at_line = partial_line-uncut front line uncut ∙ ap (λ l. l ++ line) cut

  -- one more line with its newline
  pub partial_line-line : partial_line (front ++ (line ++ newline ∷ [])) ≡ []
  partial_line-line = ap partial_line (sym (append_assoc front line (newline ∷ []))) ∙ partial_line-newline (front ++ line)

  pub lines_of-line : lines_of (front ++ (line ++ newline ∷ [])) ≡ lines_of front ++ line ∷ []
  lines_of-line =
      lines_of-whole _ partial_line-line ∙ ap whole_lines (sym (append_assoc front line (newline ∷ []))) ∙ whole_lines-newline (front ++ line)
      ∙ ap (λ ls. ls ++ partial_line (front ++ line) ∷ []) (whole_lines-uncut front line uncut ∙ sym (lines_of-whole front cut)) ∙ ap (λ l. lines_of front ++ l ∷ []) at_line

  -- and what no newline ends, which is a last line where it is not empty
  pub lines_of-end : lines_of (front ++ line) ≡ lines_of front ++ last_line line
  unfolding lines_of
  lines_of-end =
      ap (λ ls. ls ++ last_line (partial_line (front ++ line))) (whole_lines-uncut front line uncut ∙ sym (lines_of-whole front cut))
      ∙ ap (λ l. lines_of front ++ last_line l) at_line
