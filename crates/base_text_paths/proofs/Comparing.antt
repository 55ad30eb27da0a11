-- Clean texts compare as their components do, by their bytes where they are equal and by their pieces where they are ordered.
use Rattle.std.proofs.Common.{◌≡◌, ℕ, List, [], ◌∷◌, refl, sym, ap, ◌∙◌, true≢false}
use Rattle.std.proofs.lemmas.Bool.Decides.{same_from_decides}
use Rattle.std.proofs.lemmas.Slice.Eq.{bytes_eq-Decides}
use Rattle.std.specs.Cmp.Lexicographic.{pointwise_decides, bytes_decides, slice_cmp}
use Rattle.std.specs.List.{slice_split}
use Rattle.std.specs.Ordering.{nat_cmp}
use Rattle.std.specs.Prelude.{bytes_eq}
use Rattle.base_text_paths.specs.PathOrder.{path_cmp, path_eq}
use Rattle.base_text_paths.specs.Paths.{components, is_slash, path_text, with_slashes, IsClean}
use Rattle.base_text_paths.proofs.Names.{components_are_names, split_slashed, AreNames}

-- clean texts are equal exactly where their components are
pub clean_eq : (x y : List ℕ) → IsClean x → IsClean y → bytes_eq x y ≡ path_eq x y
clean_eq x y p q =
    let parts = pointwise_decides bytes_decides (components x) (components y) in
    same_from_decides (bytes_eq x y) (path_eq x y) (bytes_eq-Decides x y)
    (λ e. p ∙ ap path_text (parts.0 e) ∙ sym q, λ e. parts.1 (ap components e))

-- the same of texts that are known by another name
pub texts_eq : (a b x y : List ℕ) → a ≡ x → b ≡ y → IsClean a → IsClean b → bytes_eq a b ≡ path_eq x y
texts_eq a b x y e f p q = clean_eq a b p q ∙ ap (λ s. path_eq s b) e ∙ ap (path_eq x) f

-- the pieces of a path's text are an empty one and its components, or two empty ones
pieces : List (List ℕ) → List (List ℕ)
pieces [] = [] ∷ []
pieces (part ∷ parts) = part ∷ parts

split_path_text : (parts : List (List ℕ)) → AreNames parts → slice_split is_slash (path_text parts) ≡ [] ∷ pieces parts
unfolding path_text with_slashes pieces
split_path_text [] h = refl
split_path_text (part ∷ parts) h = ap (λ rest. [] ∷ rest) (split_slashed part parts h.0.unbroken h.1)

-- the empty piece comes before every name
pieces_in_order : (xs ys : List (List ℕ)) → AreNames xs → AreNames ys → slice_cmp (slice_cmp nat_cmp) (pieces xs) (pieces ys) ≡ slice_cmp (slice_cmp nat_cmp) xs ys
unfolding pieces
pieces_in_order [] [] h k = refl
pieces_in_order [] ([] ∷ ys) h k = absurd (true≢false (sym k.0.counts))
pieces_in_order [] ((b ∷ bs) ∷ ys) h k = refl
pieces_in_order ([] ∷ xs) [] h k = absurd (true≢false (sym h.0.counts))
pieces_in_order ((b ∷ bs) ∷ xs) [] h k = refl
pieces_in_order (x ∷ xs) (y ∷ ys) h k = refl

-- so the pieces of clean texts are ordered as their components
pub pieces_cmp : (x y : List ℕ) → IsClean x → IsClean y → slice_cmp (slice_cmp nat_cmp) (slice_split is_slash x) (slice_split is_slash y) ≡ path_cmp x y
pieces_cmp x y p q =
    let mine : slice_split is_slash x ≡ [] ∷ pieces (components x) = ap (slice_split is_slash) p ∙ split_path_text _ (components_are_names x) in
    let theirs : slice_split is_slash y ≡ [] ∷ pieces (components y) = ap (slice_split is_slash) q ∙ split_path_text _ (components_are_names y) in
    rw (mine, theirs) (pieces_in_order _ _ (components_are_names x) (components_are_names y))
