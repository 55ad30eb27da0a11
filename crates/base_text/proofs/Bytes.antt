-- Parts of bytes that were read, and what a test for emptiness means.
use Rattle.std.proofs.Common.{◌≡◌, ℕ, ◌+◌, ◌-◌, ◌≤◌, true, false, [], List, ◌∷◌, ◌++◌, ◌==◌, length, take, drop, get_or, refl, sym, ap, ◌∙◌, take-append-drop, drop-cons, add-one, arith}
use Rattle.std.proofs.lemmas.List.{drop-take, drop-drop}
use Rattle.std.proofs.lemmas.Bool.Decides.{nat_tests}
use Rattle.std.specs.List.{slice_range}
use Rattle.base_text.specs.Lines.{newline}
use Rattle.base_text.specs.Pieces.{IsFirstNewline}

-- a part of a list behind one of its places
pub range_after : (bytes : List ℕ) (start end n : ℕ) → start + n ≤ end → drop n (slice_range bytes start end) ≡ slice_range bytes (start + n) end
range_after bytes start end n h =
    let cut : end - start ≡ n + (end - (start + n)) = omega arith in
    ap (λ m. drop n (take m (drop start bytes))) cut ∙ drop-take n (end - (start + n)) (drop start bytes) ∙ ap (take (end - (start + n))) (drop-drop n start bytes)

-- bytes are cut at their first newline
pub IsFirstNewline-cut : (bytes : List ℕ) (at : ℕ) → IsFirstNewline bytes at → bytes ≡ take at bytes ++ newline ∷ drop (at + 1) bytes
IsFirstNewline-cut bytes at first =
    sym (take-append-drop at bytes) ∙ ap (λ l. take at bytes ++ l)
    (drop-cons bytes at 0 first.within ∙ ap (λ n. get_or bytes at 0 ∷ drop n bytes) (sym (add-one at)) ∙ ap (λ b. b ∷ drop (at + 1) bytes) first.here)

-- what a test for emptiness means
pub empty_from : (p : List ℕ) → true ≡ (length p == 0) → p ≡ []
empty_from [] h = refl
empty_from (b ∷ bs) h = absurd (grind (arith, nat_tests))

pub some_from : (p : List ℕ) → false ≡ (length p == 0) → p ≡ [] → ⊥
some_from p h e = let none : length p ≡ 0 = ap length e in grind (arith, nat_tests)
