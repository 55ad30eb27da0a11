-- texts that are joined as they stand, and as what shows them
use Rattle.std.proofs.Common.{◌≡◌, ◌==◌, ℕ, List, [], ◌∷◌, ◌++◌, codes, false, length, map, refl, rules, sym, ap}
use Rattle.std.specs.List.{flat_map, join_by}
use Rattle.std.proofs.lemmas.List.{append_assoc}
use Rattle.cargo_meta.specs.Command.{feature_words, joined_text}

-- what a function makes of each, end to end, is what it makes of what another shows
flat_map-map : {X Y A : Type 0} (f : X → Y) (g : Y → List A) (xs : List X) → flat_map g (map f xs) ≡ flat_map (λ x. g (f x)) xs
flat_map-map f g [] = refl
flat_map-map f g (x ∷ xs) = ap (λ rest. g (f x) ++ rest) (flat_map-map f g xs)

pub join_by-map : {X A : Type 0} (f : X → List A) (between : List A) (xs : List X) → join_by f between xs ≡ join_by (λ text. text) between (map f xs)
join_by-map f between [] = refl
join_by-map f between (x ∷ xs) = ap (λ rest. f x ++ rest) (sym (flat_map-map f (λ text. between ++ text) xs))

-- where some features are named, their word stands before them
pub feature_words-some : (names : List (List ℕ)) → (length names == 0) ≡ false
    → feature_words names ≡ codes "--features" ∷ joined_text (codes ",") names ∷ []
feature_words-some [] h = search (rules, h)
feature_words-some (name ∷ names) h = refl

-- two words put behind others, one after another
pub pushed-both : (old middle new : List (List ℕ)) (first second word : List ℕ)
    → middle ≡ old ++ first ∷ [] → word ≡ second → new ≡ middle ++ word ∷ [] → new ≡ old ++ first ∷ second ∷ []
pushed-both old middle new first second word one same two = rw (two, one, same) (append_assoc old (first ∷ []) (second ∷ []))
