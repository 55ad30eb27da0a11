-- A row of names begins with another row, and ends there or goes on with a slash, exactly where its names begin with the other's.
use Rattle.std.proofs.Common.{◌≡◌, ℕ, true, false, List, [], ◌∷◌, ◌++◌, length, get_or, take, drop, Some, None, refl, sym, ap, ◌∙◌, append_assoc, append-nil, arith, true≢false}
use Rattle.std.proofs.lemmas.Bool.{cond-false, cond-true, eq-eqb, false_from_ne_true}
use Rattle.std.proofs.lemmas.Grind.{flat_map-append}
use Rattle.std.proofs.lemmas.List.{append_cancel_left, take-append-drop}
use Rattle.std.proofs.lemmas.List.Elements.{All-drop, All-from_recursion, recursion_from_All}
use Rattle.std.proofs.Math.Seq.{take-append_seam}
use Rattle.std.specs.Cmp.Lexicographic.{pointwise_decides, bytes_decides}
use Rattle.std.specs.List.{join_with_byte, filter}
use Rattle.base_text_paths.specs.Paths.{components, is_component, is_prefix, with_slashes, text_below}
use Rattle.base_text_paths.specs.Rows.{IsRow, IsSlashed}
use Rattle.base_text_paths.proofs.Names.{components_are_names, row_of_names, split_slashed, filter_names, AreNames, IsName, IsUnbroken}

-- names of which each ends at a slash or at the end are distinguished
same_names : (name next rest more : List ℕ) → IsUnbroken name → IsUnbroken next → get_or rest 0 47 ≡ 47 → get_or more 0 47 ≡ 47 → name ++ rest ≡ next ++ more → (name ≡ next) × (rest ≡ more)
same_names [] [] rest more u v a b e = (refl, e)
same_names [] (c ∷ next) rest more u v a b e =
    let slash : c ≡ 47 = ap (λ s. get_or s 0 47) (sym e) ∙ a in
    absurd (true≢false (sym (eq-eqb c 47 slash) ∙ v.0))
same_names (c ∷ name) [] rest more u v a b e =
    let slash : c ≡ 47 = ap (λ s. get_or s 0 47) e ∙ b in
    absurd (true≢false (sym (eq-eqb c 47 slash) ∙ u.0))
same_names (c ∷ name) (d ∷ next) rest more u v a b e =
    let first : c ≡ d = cc in
    let others : name ++ rest ≡ next ++ more = cc in
    let tails = same_names name next rest more u.1 v.1 a b others in
    (cc, tails.1)

-- a row is empty or begins with a slash, whatever follows it does so too
head_of_row : (parts : List (List ℕ)) (rest : List ℕ) → get_or rest 0 47 ≡ 47 → get_or (with_slashes parts ++ rest) 0 47 ≡ 47
unfolding with_slashes
head_of_row [] rest a = a
head_of_row (part ∷ parts) rest a = refl

-- a row that goes on behind another goes on with the names behind the other's
rest_of_row : (front whole : List (List ℕ)) (rest : List ℕ) → AreNames front → AreNames whole → get_or rest 0 47 ≡ 47 → with_slashes whole ≡ with_slashes front ++ rest → (whole ≡ front ++ drop (length front) whole) × (rest ≡ with_slashes (drop (length front) whole))
unfolding with_slashes
rest_of_row [] whole rest h k a e = (refl, sym e)
rest_of_row (name ∷ front) [] rest h k a e = absurd (omega (arith, ap length e))
rest_of_row (name ∷ front) (next ∷ whole) rest h k a e =
    let inside : next ++ with_slashes whole ≡ name ++ (with_slashes front ++ rest) =
    append_cancel_left (47 ∷ []) _ _ (e ∙ append_assoc (47 ∷ name) (with_slashes front) rest) in
    let whole_head : get_or (with_slashes whole) 0 47 ≡ 47 = ap (λ s. get_or s 0 47) (sym (append-nil (with_slashes whole))) ∙ head_of_row whole [] refl in
    let tails = same_names next name (with_slashes whole) (with_slashes front ++ rest) k.0.unbroken h.0.unbroken whole_head (head_of_row front rest a) inside in
    let more = rest_of_row front whole rest h.1 k.1 a tails.1 in
    (ap (λ n. n ∷ whole) tails.0 ∙ ap (λ names. name ∷ names) more.0, more.1)

-- the test of a prefix, as the equation that it stands for
pub is_prefix_from : (front whole : List (List ℕ)) → whole ≡ front ++ drop (length front) whole → is_prefix front whole ≡ true
unfolding is_prefix
is_prefix_from front whole e =
    (pointwise_decides bytes_decides front (take (length front) whole)).1
    (sym (ap (take (length front)) e ∙ take-append_seam front (drop (length front) whole)))

-- a prefix with what follows it is the whole
pub is_prefix_parts : (front whole : List (List ℕ)) → is_prefix front whole ≡ true → whole ≡ front ++ drop (length front) whole
unfolding is_prefix
is_prefix_parts front whole e =
    sym (ap (λ names. names ++ drop (length front) whole) ((pointwise_decides bytes_decides front (take (length front) whole)).0 e)
    ∙ take-append-drop (length front) whole)

-- a row whose names begin with those of another is that row and more
row_of_prefix : (front whole : List (List ℕ)) → is_prefix front whole ≡ true → with_slashes whole ≡ with_slashes front ++ with_slashes (drop (length front) whole)
unfolding with_slashes
row_of_prefix front whole e =
    ap with_slashes (is_prefix_parts front whole e) ∙ flat_map-append (λ part. 47 ∷ part) front (drop (length front) whole)

-- where the row begins with the other and goes on with a slash, or not at all
pub prefix_found : (front whole rest : List ℕ) → IsSlashed front → IsSlashed whole → whole ≡ front ++ rest → get_or rest 0 47 ≡ 47 → (is_prefix (components front) (components whole) ≡ true) × IsRow rest (drop (length (components front)) (components whole))
prefix_found front whole rest f w e a =
    let found = rest_of_row (components front) (components whole) rest (components_are_names front) (components_are_names whole) a (sym w ∙ e ∙ ap (λ s. s ++ rest) f) in
    (is_prefix_from (components front) (components whole) found.0, row_of_names rest _ found.1 (recursion_from_All IsName _ (All-drop IsName _ _ (All-from_recursion IsName _ (components_are_names whole)))))

-- where it goes on with something else
pub prefix_broken : (front whole rest : List ℕ) → IsSlashed front → IsSlashed whole → whole ≡ front ++ rest → (get_or rest 0 47 ≡ 47 → ⊥) → is_prefix (components front) (components whole) ≡ false
prefix_broken front whole rest f w e other =
    false_from_ne_true _ (λ is. other (
    let more : List ℕ = with_slashes (drop (length (components front)) (components whole)) in
    let same : front ++ rest ≡ front ++ more = sym e ∙ w ∙ row_of_prefix (components front) (components whole) is ∙ ap (λ s. s ++ more) (sym f) in
    ap (λ s. get_or s 0 47) (append_cancel_left front rest more same ∙ sym (append-nil more)) ∙ head_of_row _ [] refl))

-- where it does not begin with the other
pub prefix_missing : (front whole : List ℕ) → IsSlashed front → IsSlashed whole → ((rest : List ℕ) → whole ≡ front ++ rest → ⊥) → is_prefix (components front) (components whole) ≡ false
prefix_missing front whole f w lacks =
    false_from_ne_true _ (λ is.
    let more : List ℕ = with_slashes (drop (length (components front)) (components whole)) in
    lacks more (w ∙ row_of_prefix (components front) (components whole) is ∙ ap (λ s. s ++ more) (sym f)))

-- the names of a row with a slash between each two
slashed-join : (part : List ℕ) (parts : List (List ℕ)) → part ++ with_slashes parts ≡ join_with_byte 47 (part ∷ parts)
unfolding with_slashes
slashed-join part [] = append-nil part
slashed-join part (next ∷ parts) = ap (λ rest. part ++ (47 ∷ rest)) (slashed-join next parts)

-- a row without its first slash
pub below_first : (row names : List ℕ) → IsSlashed row → row ≡ 47 ∷ names → (names ≡ join_with_byte 47 (components row)) × (components names ≡ components row)
unfolding with_slashes components
below_first row names clean e = by (components row) clean (components_are_names row)
  where
    by : (parts : List (List ℕ)) → row ≡ with_slashes parts → AreNames parts → (names ≡ join_with_byte 47 parts) × (components names ≡ parts)
    by [] none h = absurd (omega (arith, ap length none, ap length e))
    by (part ∷ parts) is h =
        let text : names ≡ part ++ with_slashes parts = append_cancel_left (47 ∷ []) _ _ (sym e ∙ is) in
        (text ∙ slashed-join part parts, ap components text ∙ ap (filter is_component) (split_slashed part parts h.0.unbroken h.1) ∙ filter_names (part ∷ parts) h)

-- a row that does not begin with a slash is empty
pub below_none : (row : List ℕ) → IsSlashed row → ((names : List ℕ) → row ≡ 47 ∷ names → ⊥) → row ≡ join_with_byte 47 (components row)
unfolding with_slashes
below_none row clean lacks = by (components row) clean
  where
    by : (parts : List (List ℕ)) → row ≡ with_slashes parts → row ≡ join_with_byte 47 parts
    by [] none = none
    by (part ∷ parts) is = absurd (lacks (part ++ with_slashes parts) is)

-- what is left below a front, where there is one
pub text_below-none : (front whole : List (List ℕ)) → is_prefix front whole ≡ false → text_below front whole ≡ None
unfolding text_below
text_below-none front whole e = cond-false _ _ _ e

pub text_below-some : (front whole : List (List ℕ)) (text : List ℕ) → is_prefix front whole ≡ true → text ≡ join_with_byte 47 (drop (length front) whole) → text_below front whole ≡ Some text
unfolding text_below
text_below-some front whole text is e = cond-true _ _ _ is ∙ ap Some (sym e)
