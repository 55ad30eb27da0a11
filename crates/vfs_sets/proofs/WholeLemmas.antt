-- Of clean texts one begins another by whole components exactly where its components come first.
use Rattle.std.proofs.Common.{◌≡◌, ℕ, ◌+◌, ◌-◌, ◌≤◌, ◌⊎◌, Bool, true, false, ◌&&◌, ◌||◌, ◌==◌, List, [], ◌∷◌, ◌++◌, inl, inr}
use Rattle.std.proofs.Common.{ap, arith, drop, get_or, length, nat_eq, refl, subst, sym, take, ◌∙◌}
use Rattle.std.proofs.lemmas.Bool.{and_from, and_left, and_parts, both_ways, cases_eq, eq-eqb, false_from_ne_true, ne_eqb, or_from, or_left, or_right}
use Rattle.std.proofs.lemmas.List.{length-append, length-take, take-append-drop}
use Rattle.std.proofs.Math.Seq.{take-append_seam}
use Rattle.std.specs.Cmp.Lexicographic.{bytes_decides, pointwise}
use Rattle.std.specs.List.{ends_with, starts_with}
use Rattle.std.specs.Prelude.{codes}
use Rattle.base_text_paths.specs.Paths.{IsClean, components, is_prefix, path_text, with_slashes}
use Rattle.base_text_paths.specs.Rows.{IsCutAtLast, IsSlashed}
use Rattle.base_text_paths.proofs.Names.{row_slashed}
use Rattle.base_text_paths.proofs.Parents.{root_at_cut, root_components, root_text, row_of_clean}
use Rattle.base_text_paths.proofs.Prefixes.{is_prefix_from, is_prefix_parts, prefix_broken, prefix_found, prefix_missing}
use Rattle.vfs_core.specs.RealPath.{is_text_prefix}
use Rattle.vfs_sets.specs.Placement.{begins_text}
use Rattle.vfs_sets.proofs.ComponentLemmas.{begins_with_slash}

-- a clean text begins with a slash
clean-absolute : (text : List ℕ) → IsClean text → get_or text 0 0 ≡ 47
unfolding path_text with_slashes
clean-absolute text clean = by (components text) clean
  where
    by : (parts : List (List ℕ)) → text ≡ path_text parts → get_or text 0 0 ≡ 47
    by [] e = ap (λ s. get_or s 0 0) e
    by (part ∷ parts) e = ap (λ s. get_or s 0 0) e

-- what a text begins with, as an equation
front-is : (root text : List ℕ) → starts_with nat_eq text root ≡ true → root ≡ take (length root) text
front-is root text h = (bytes_decides root (take (length root) text)).0 h

-- the root `/` begins each clean text, and its components come first there
slash_begins : (text : List ℕ) → get_or text 0 0 ≡ 47 → begins_text (47 ∷ []) text ≡ true
slash_begins text absolute =
    let slash : List ℕ = 47 ∷ [] in
    and_from (starts_with nat_eq text slash) _ (begins_with_slash text ∙ eq-eqb (get_or text 0 0) 47 absolute)
    (or_left (length slash == length text || ends_with nat_eq slash (codes "/")) (starts_with nat_eq (drop (length slash) text) (codes "/"))
    (or_right (length slash == length text) (ends_with nat_eq slash (codes "/")) refl))

slash_is_first : (text : List ℕ) → is_text_prefix (47 ∷ []) text ≡ true
slash_is_first text =
    ap (λ parts. is_prefix parts (components text)) (root_components (47 ∷ []) refl) ∙ is_prefix_from [] (components text) refl

of_slash : (root text : List ℕ) → root ≡ 47 ∷ [] → IsClean text → begins_text root text ≡ is_text_prefix root text
of_slash root text is clean =
    subst (λ (r : List ℕ). begins_text r text ≡ is_text_prefix r text) (sym is)
    (slash_begins text (clean-absolute text clean) ∙ sym (slash_is_first text))

-- no other clean text begins `/`
one_slash : (root : List ℕ) → get_or root 0 0 ≡ 47 → length root ≤ 1 → root ≡ 47 ∷ []
one_slash [] absolute short = absurd (omega (arith, absolute))
one_slash (b ∷ []) absolute short = ap (λ c. c ∷ []) absolute
one_slash (b ∷ c ∷ rest) absolute short = absurd (omega (arith, short))

none_before : (front rest : List (List ℕ)) → [] ≡ front ++ rest → front ≡ []
none_before [] rest e = refl
none_before (part ∷ front) rest e = absurd (omega (arith, ap length e))

in_slash : (root text : List ℕ) → text ≡ 47 ∷ [] → IsClean root → (root ≡ 47 ∷ [] → ⊥) → begins_text root text ≡ is_text_prefix root text
in_slash root text is clean other =
    let no_text : begins_text root text ≡ false = false_from_ne_true _ (λ begins.
    let front = front-is root text (and_parts (starts_with nat_eq text root) _ begins).0 in
    let short : length root ≤ 1 = omega (arith, ap length front, length-take (length root) text, ap length is) in
    other (one_slash root (clean-absolute root clean) short)) in
    let no_parts : is_text_prefix root text ≡ false = false_from_ne_true _ (λ first.
    let all = sym (root_components text is) ∙ is_prefix_parts (components root) (components text) first in
    other (root_text root clean (none_before (components root) _ all))) in
    no_text ∙ sym no_parts

-- a clean text but `/` ends in no slash
ends-otherwise : (root : List ℕ) → IsClean root → (root ≡ 47 ∷ [] → ⊥) → ends_with nat_eq root (codes "/") ≡ false
ends-otherwise root clean other = false_from_ne_true _ (λ ends.
    let last : codes "/" ≡ drop (length root - 1) root = (bytes_decides (codes "/") (drop (length root - 1) root)).0 ends in
    let cut : IsCutAtLast 47 root (take (length root - 1) root) [] = record {
      parts = sym (take-append-drop (length root - 1) root) ∙ ap (λ s. take (length root - 1) root ++ s) (sym last);
      last = tt;
    } in
    other (root_text root clean (root_at_cut root (take (length root - 1) root) [] clean cut refl)))

-- what follows a front is nothing or begins with a slash, or else with something else
goes_on : (root text rest : List ℕ) → length text ≡ length root + length rest → get_or rest 0 47 ≡ 47
    → ((length root == length text) || starts_with nat_eq rest (codes "/")) ≡ true
goes_on root text [] size slash = or_left (length root == length text) _ (eq-eqb (length root) (length text) (omega (arith, size)))
goes_on root text (b ∷ rest) size slash =
    or_right (length root == length text) _ (begins_with_slash (b ∷ rest) ∙ eq-eqb b 47 slash)

goes_on-otherwise : (root text rest : List ℕ) → length text ≡ length root + length rest → (get_or rest 0 47 ≡ 47 → ⊥)
    → ((length root == length text) || starts_with nat_eq rest (codes "/")) ≡ false
goes_on-otherwise root text [] size other = absurd (other refl)
goes_on-otherwise root text (b ∷ rest) size other =
    or_from (length root == length text) _ (ne_eqb (length root) (length text) (λ e. omega (arith, size, e)))
    (begins_with_slash (b ∷ rest) ∙ ne_eqb b 47 other)

-- a root that ends in no slash begins a text where that ends with it or goes on with a slash
no_end : (is_whole ends follows : Bool) → ends ≡ false → (is_whole || ends || follows) ≡ (is_whole || follows)
no_end true ends follows none = refl
no_end false ends follows none = ap (λ b. b || follows) none

-- other clean texts are rows of names: the same by whether one begins the other by its bytes, and by what follows it there
of_front : (root text rest : List ℕ) → IsSlashed root → IsSlashed text → text ≡ root ++ rest
    → begins_text root text ≡ ((length root == length text) || starts_with nat_eq rest (codes "/"))
    → (get_or rest 0 47 ≡ 47) ⊎ (get_or rest 0 47 ≡ 47 → ⊥) → begins_text root text ≡ is_text_prefix root text
of_front root text rest row whole is begins (inl slash) =
    begins ∙ goes_on root text rest (ap length is ∙ length-append root rest) slash ∙ sym (prefix_found root text rest row whole is slash).0
of_front root text rest row whole is begins (inr other) =
    begins ∙ goes_on-otherwise root text rest (ap length is ∙ length-append root rest) other ∙ sym (prefix_broken root text rest row whole is other)

of_rows : (root text : List ℕ) → IsSlashed root → IsSlashed text → ends_with nat_eq root (codes "/") ≡ false
    → (is_front : Bool) → starts_with nat_eq text root ≡ is_front → begins_text root text ≡ is_text_prefix root text
of_rows root text row whole end true h =
    let rest = drop (length root) text in
    let is : text ≡ root ++ rest =
    sym (ap (λ s. s ++ rest) (front-is root text h) ∙ take-append-drop (length root) text) in
    let begins : begins_text root text ≡ ((length root == length text) || starts_with nat_eq rest (codes "/")) =
    ap (λ (b : Bool). b && (length root == length text || ends_with nat_eq root (codes "/") || starts_with nat_eq rest (codes "/"))) h
    ∙ no_end (length root == length text) (ends_with nat_eq root (codes "/")) (starts_with nat_eq rest (codes "/")) end in
    of_front root text rest row whole is begins (cases_eq (get_or rest 0 47) 47)
of_rows root text row whole end false h =
    and_left (starts_with nat_eq text root) _ h
    ∙ sym (prefix_missing root text row whole (λ rest is.
    both_ways (starts_with nat_eq text root) h
    ((bytes_decides root (take (length root) text)).1 (sym (ap (take (length root)) is ∙ take-append_seam root rest)))))

-- the same by whether either is `/`
of_others : (root text : List ℕ) → IsClean root → IsClean text → (root ≡ 47 ∷ [] → ⊥) → (is_slash_text : Bool)
    → pointwise nat_eq text (47 ∷ []) ≡ is_slash_text → begins_text root text ≡ is_text_prefix root text
of_others root text clean whole other true h = in_slash root text ((bytes_decides text (47 ∷ [])).0 h) clean other
of_others root text clean whole other false h =
    of_rows root text (row_slashed root _ (row_of_clean root clean other))
    (row_slashed text _ (row_of_clean text whole (λ e. both_ways _ h ((bytes_decides text (47 ∷ [])).1 e))))
    (ends-otherwise root clean other) (starts_with nat_eq text root) refl

of_clean : (root text : List ℕ) → IsClean root → IsClean text → (is_slash_root : Bool) → pointwise nat_eq root (47 ∷ []) ≡ is_slash_root
    → begins_text root text ≡ is_text_prefix root text
of_clean root text clean whole true h = of_slash root text ((bytes_decides root (47 ∷ [])).0 h) whole
of_clean root text clean whole false h =
    of_others root text clean whole (λ e. both_ways _ h ((bytes_decides root (47 ∷ [])).1 e)) (pointwise nat_eq text (47 ∷ [])) refl

pub begins_by_components : (root text : List ℕ) → IsClean root → IsClean text → begins_text root text ≡ is_text_prefix root text
begins_by_components root text clean whole = of_clean root text clean whole (pointwise nat_eq root (47 ∷ [])) refl
