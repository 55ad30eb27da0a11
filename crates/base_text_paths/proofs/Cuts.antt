-- A text has one cut at its last slash, and the cut of a clean text takes its last component off.
use Rattle.std.proofs.Common.{◌≡◌, ℕ, ◌-◌, ◌+◌, ◌<◌, ◌≤◌, ◌≢◌, ◌==◌, false, List, [], ◌∷◌, ◌++◌, length, get_or, take, drop, Option, Some, None, MatchOption, Bor, refl, sym, ap, ◌∙◌, arith, length-append, true≢false}
use Rattle.std.proofs.lemmas.Bool.{ne_eqb, eq-eqb}
use Rattle.std.proofs.lemmas.List.{take-append-drop, take_all, take_more}
use Rattle.std.proofs.Math.Seq.{take-append_seam}
use Rattle.std.proofs.lemmas.List.Elements.{All-from_get_or, All-from_recursion, All-take, recursion_from_All}
use Rattle.std.proofs.lemmas.Str.Pattern.{NoCharPasses-char, drop_at_char}
use Rattle.std.specs.Str.Pattern.{RFindsChar}
use Rattle.base_text_paths.specs.Paths.{components, with_slashes, without_last}
use Rattle.base_text_paths.specs.Rows.{IsCutAtLast, IsRow, IsSlashed, Lacks}
use Rattle.base_text_paths.proofs.Names.{components_are_names, row_of_names, slashed-push, AreNames, IsName}

-- a text in which a search finds no `at` lacks it
pub Lacks-from_reads : (at : ℕ) (text : List ℕ) → ((k : ℕ) → k < length text → get_or text k 0 ≢ at) → Lacks at text
Lacks-from_reads at text h =
    recursion_from_All (λ b. (b == at) ≡ false) text (All-from_get_or (λ b. (b == at) ≡ false) text 0 (λ k l. ne_eqb _ at (h k l)))

-- what a search from the end gives is the cut at the last `at`
pub cut_at_last : (at : ℕ) (text : List ℕ) (r : Option (Bor (List ℕ) × Bor (List ℕ))) → at < 128 → MatchOption r (RFindsChar at text None) (λ x. (i : ℕ) × (j : ℕ) × RFindsChar at text (Some (i, j)) × (x.0.now ≡ take i text) × (x.1.now ≡ drop j text) × (i ≤ j) × (length x.0.now ≡ i) × (length x.1.now + j ≡ length text)) → MatchOption r (Lacks at text) (λ x. IsCutAtLast at text x.0.now x.1.now)
cut_at_last at text None small h = Lacks-from_reads at text (λ k l. NoCharPasses-char at text k h small l)
cut_at_last at text (Some x) small h =
    let whole : text ≡ take h.0 text ++ at ∷ drop h.1 text = sym (take-append-drop h.0 text) ∙ ap (λ rest. take h.0 text ++ rest) (drop_at_char at text h.0 h.1 h.2.1 small) in
    let no_more : Lacks at (drop h.1 text) = Lacks-from_reads at (drop h.1 text) (λ k l. NoCharPasses-char at (drop h.1 text) k h.2.0 small l) in
    record { parts = whole ∙ (rw (h.3, h.4) refl); last = rw h.4 no_more }

-- behind an `at` there is one
pub Lacks-not_at : (at : ℕ) (xs ys : List ℕ) → Lacks at (xs ++ at ∷ ys) → ⊥
Lacks-not_at at [] ys h = true≢false (sym (eq-eqb at at refl) ∙ h.0)
Lacks-not_at at (x ∷ xs) ys h = Lacks-not_at at xs ys h.1

-- two cuts of one text at its last `at` are one
pub same_cut : (at : ℕ) (xs ys front back : List ℕ) → xs ++ at ∷ ys ≡ front ++ at ∷ back → Lacks at ys → Lacks at back → (front ≡ xs) × (back ≡ ys)
same_cut at [] ys [] back e h k = (refl, cc)
same_cut at [] ys (y ∷ front) back e h k =
    let inside : ys ≡ front ++ at ∷ back = cc in
    absurd (Lacks-not_at at front back (rw inside at h))
same_cut at (x ∷ xs) ys [] back e h k =
    let inside : back ≡ xs ++ at ∷ ys = cc in
    absurd (Lacks-not_at at xs ys (rw inside at k))
same_cut at (x ∷ xs) ys (y ∷ front) back e h k =
    let first : y ≡ x = cc in
    let rest : xs ++ at ∷ ys ≡ front ++ at ∷ back = cc in
    let tails = same_cut at xs ys front back rest h k in
    (cc, tails.1)

-- a list that is not empty is the others and its last
pub ends : (part : List ℕ) (parts : List (List ℕ)) → part ∷ parts ≡ without_last (part ∷ parts) ++ get_or (part ∷ parts) (length parts) [] ∷ []
ends part parts =
    let all : take (length parts + 1) (part ∷ parts) ≡ part ∷ parts = take_all _ _ (omega arith) in
    let others : length parts ≡ length (part ∷ parts) - 1 = omega arith in
    sym all
    ∙ take_more (part ∷ parts) (length parts) [] (omega arith)
    ∙ ap (λ n. take n (part ∷ parts) ++ get_or (part ∷ parts) (length parts) [] ∷ []) others

-- the last of names is one
pub last_name : (part : List ℕ) (parts : List (List ℕ)) → AreNames (part ∷ parts) → IsName (get_or (part ∷ parts) (length parts) [])
last_name part [] h = h.0
last_name part (next ∷ parts) h = last_name next parts h.1

-- a row of names is cut at its last slash into the row without the last name, and that name
pub slashed_cut : (part : List ℕ) (parts : List (List ℕ)) (front back : List ℕ) → AreNames (part ∷ parts) → IsCutAtLast 47 (with_slashes (part ∷ parts)) front back → (front ≡ with_slashes (without_last (part ∷ parts))) × (back ≡ get_or (part ∷ parts) (length parts) [])
slashed_cut part parts front back h cut =
    same_cut 47 _ _ front back (sym (ap with_slashes (ends part parts) ∙ slashed-push _ _) ∙ cut.parts) (last_name part parts h).unbroken cut.last

-- the row without its last name is names
pub names_without_last : (text : List ℕ) → AreNames (without_last (components text))
names_without_last text =
    recursion_from_All IsName _ (All-take IsName _ _ (All-from_recursion IsName _ (components_are_names text)))

-- what the cut leaves before it, as the text is cut short there
pub short_at_cut : (text short front back : List ℕ) → IsSlashed text → IsCutAtLast 47 text front back → short ≡ take (length front) text → IsRow short (without_last (components text))
unfolding with_slashes
short_at_cut text short front back clean cut e = row_of_names _ _ (by (components text) clean (components_are_names text)) (names_without_last text)
  where
    by : (parts : List (List ℕ)) → text ≡ with_slashes parts → AreNames parts → short ≡ with_slashes (without_last parts)
    by [] none h = absurd (omega (arith, ap length none, ap length cut.parts, length-append front (47 ∷ back)))
    by (part ∷ parts) is h =
        e ∙ ap (take (length front)) cut.parts ∙ take-append_seam front (47 ∷ back)
        ∙ (slashed_cut part parts front back h (record { parts = sym is ∙ cut.parts; last = cut.last })).0

-- a row of names with no slash is empty, and so is the row without its last
pub none_at_cut : (text : List ℕ) → IsSlashed text → Lacks 47 text → IsRow text (without_last (components text))
unfolding with_slashes
none_at_cut text clean lacks = row_of_names _ _ (by (components text) clean) (names_without_last text)
  where
    by : (parts : List (List ℕ)) → text ≡ with_slashes parts → text ≡ with_slashes (without_last parts)
    by [] none = none
    by (part ∷ parts) is = absurd (Lacks-not_at 47 [] (part ++ with_slashes parts) (rw is at lacks))
