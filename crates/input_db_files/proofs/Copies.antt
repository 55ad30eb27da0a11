-- Sets of numbers that are copied one by one.
use Rattle.std.proofs.Common.{◌≡◌, ℕ, List, [], ◌∷◌, refl, ap, ◌∙◌}
use Rattle.std.specs.List.{AllZip}

-- numbers that are copies of others one by one are the same
pub same_from_copies : (old new : List ℕ) → AllZip (λ x y. y ≡ x) old new → new ≡ old
same_from_copies [] [] h = refl
same_from_copies [] (y ∷ new) h = absurd h
same_from_copies (x ∷ old) [] h = absurd h
same_from_copies (x ∷ old) (y ∷ new) h =
    ap (λ (k : ℕ). k ∷ new) h.0 ∙ ap (λ (ks : List ℕ). x ∷ ks) (same_from_copies old new h.1)
