-- The components of a text are names, and the text of names gives them back.
use Rattle.std.proofs.Common.{◌≡◌, ℕ, ◌<◌, length, get_or, arith, Bool, true, false, cond, List, [], ◌∷◌, ◌++◌, refl, sym, ap, subst, ◌∙◌, append-nil}
use Rattle.std.proofs.lemmas.Grind.{flat_map-append}
use Rattle.std.proofs.lemmas.List.Splits.{slice_split_none, slice_split_at}
use Rattle.std.proofs.lemmas.List.Elements.{All-from_recursion, filter-append}
use Rattle.std.specs.List.{AllByRecursion, filter, slice_split, onto_first}
use Rattle.std.proofs.lemmas.Bool.{cond-true, cond-false}
use Rattle.base_text_paths.specs.Paths.{is_slash, is_component, components, with_slashes, path_text, IsClean}
use Rattle.base_text_paths.specs.Rows.{IsRow, IsSlashed, Lacks}

-- no byte is a slash
abbrev pub IsUnbroken : List ℕ → Type 0
IsUnbroken part = Lacks 47 part

-- a component that no slash breaks
pub record IsName (part : List ℕ) : Type 0 where
  pub counts : is_component part ≡ true
  pub unbroken : IsUnbroken part

-- each is a name
abbrev pub AreNames : List (List ℕ) → Type 0
AreNames parts = AllByRecursion IsName parts

-- a byte that is no slash goes onto the first part
onto_unbroken : (b : ℕ) (parts : List (List ℕ)) → is_slash b ≡ false → AllByRecursion IsUnbroken parts → AllByRecursion IsUnbroken (onto_first b parts)
onto_unbroken b [] other h = ((other, tt), tt)
onto_unbroken b (part ∷ parts) other h = ((other, h.0), h.1)

-- no part that a slash cuts holds a slash
split_unbroken : (text : List ℕ) → AllByRecursion IsUnbroken (slice_split is_slash text)
split_unbroken [] = (tt, tt)
split_unbroken (b ∷ bs) =
    let rest = split_unbroken bs in
    let P : Bool → Type 0 = λ t. is_slash b ≡ t → AllByRecursion IsUnbroken (cond t ([] ∷ slice_split is_slash bs) (onto_first b (slice_split is_slash bs))) in
    (elim (is_slash b) as (λ t. P t) [ true ↦ λ e. (tt, rest) | false ↦ λ e. onto_unbroken b (slice_split is_slash bs) e rest ]) refl

-- a part that a slash cuts off holds none
pub part_unbroken : (text part : List ℕ) (n : ℕ) → (n < length (slice_split is_slash text)) × (part ≡ get_or (slice_split is_slash text) n part) → IsUnbroken part
part_unbroken text part n h =
    subst (λ (p : List ℕ). IsUnbroken p) (sym h.1) (All-from_recursion IsUnbroken _ (split_unbroken text) n part h.0)

-- of unbroken parts, those that count are names
filter_unbroken : (parts : List (List ℕ)) → AllByRecursion IsUnbroken parts → AreNames (filter is_component parts)
filter_unbroken [] h = tt
filter_unbroken (part ∷ parts) h =
    let rest = filter_unbroken parts h.1 in
    let P : Bool → Type 0 = λ t. is_component part ≡ t → AreNames (cond t (part ∷ filter is_component parts) (filter is_component parts)) in
    (elim (is_component part) as (λ t. P t) [ true ↦ λ e. (record { counts = e; unbroken = h.0 }, rest) | false ↦ λ e. rest ]) refl

pub components_are_names : (text : List ℕ) → AreNames (components text)
unfolding components
components_are_names text = filter_unbroken (slice_split is_slash text) (split_unbroken text)

-- every name counts
pub filter_names : (parts : List (List ℕ)) → AreNames parts → filter is_component parts ≡ parts
filter_names [] h = refl
filter_names (part ∷ parts) h = cond-true _ _ _ h.0.counts ∙ ap (λ rest. part ∷ rest) (filter_names parts h.1)

-- a slash before each name cuts them apart again
pub split_slashed : (part : List ℕ) (parts : List (List ℕ)) → IsUnbroken part → AreNames parts → slice_split is_slash (part ++ with_slashes parts) ≡ part ∷ parts
unfolding with_slashes
split_slashed part [] u h = rw append-nil (slice_split_none is_slash part (All-from_recursion _ part u))
split_slashed part (next ∷ parts) u h =
    slice_split_at is_slash part 47 (next ++ with_slashes parts) (All-from_recursion _ part u) refl
    ∙ ap (λ rest. part ∷ rest) (split_slashed next parts h.0.unbroken h.1)

pub components-slashed : (parts : List (List ℕ)) → AreNames parts → components (with_slashes parts) ≡ parts
unfolding components with_slashes
components-slashed [] h = refl
components-slashed (part ∷ parts) h = ap (filter is_component) (split_slashed part parts h.0.unbroken h.1) ∙ filter_names (part ∷ parts) h

pub components-path_text : (parts : List (List ℕ)) → AreNames parts → components (path_text parts) ≡ parts
unfolding components path_text
components-path_text [] h = refl
components-path_text (part ∷ parts) h = components-slashed (part ∷ parts) h

-- the text of names is clean
pub clean_text : (text : List ℕ) (parts : List (List ℕ)) → text ≡ path_text parts → AreNames parts → IsClean text
clean_text text parts e h = e ∙ ap path_text (sym (components-path_text parts h) ∙ ap components (sym e))

-- one more name behind a slash
pub slashed-push : (names : List (List ℕ)) (name : List ℕ) → with_slashes (names ++ name ∷ []) ≡ with_slashes names ++ 47 ∷ name
unfolding with_slashes
slashed-push names name =
    flat_map-append (λ part. 47 ∷ part) names (name ∷ []) ∙ ap (λ rest. with_slashes names ++ rest) (append-nil (47 ∷ name))

-- one more part that counts is one more name behind a slash
pub slashed_more : (parts : List (List ℕ)) (part : List ℕ) → is_component part ≡ true → with_slashes (filter is_component (parts ++ part ∷ [])) ≡ with_slashes (filter is_component parts) ++ 47 ∷ part
slashed_more parts part e =
    ap with_slashes (filter-append is_component parts (part ∷ []) ∙ ap (λ rest. filter is_component parts ++ rest) (cond-true _ _ _ e))
    ∙ slashed-push (filter is_component parts) part

-- a part that does not count changes nothing
pub slashed_skips : (parts : List (List ℕ)) (part : List ℕ) → is_component part ≡ false → with_slashes (filter is_component (parts ++ part ∷ [])) ≡ with_slashes (filter is_component parts)
slashed_skips parts part e =
    ap with_slashes (filter-append is_component parts (part ∷ []) ∙ ap (λ rest. filter is_component parts ++ rest) (cond-false _ _ _ e) ∙ append-nil _)

-- a text of names behind slashes is their row
pub row_of_names : (text : List ℕ) (parts : List (List ℕ)) → text ≡ with_slashes parts → AreNames parts → IsRow text parts
row_of_names text parts e h = record { text_is = e; components_are = ap components e ∙ components-slashed parts h }

-- the components of a row are names
pub row_names : (text : List ℕ) (parts : List (List ℕ)) → IsRow text parts → AreNames parts
row_names text parts h = subst (λ (names : List (List ℕ)). AreNames names) h.components_are (components_are_names text)

-- a row is slashed
pub row_slashed : (text : List ℕ) (parts : List (List ℕ)) → IsRow text parts → IsSlashed text
row_slashed text parts h = h.text_is ∙ ap with_slashes (sym h.components_are)

-- a row begun from nothing
pub row_from_none : (none text : List ℕ) (parts : List (List ℕ)) → none ≡ [] → IsRow text (components none ++ parts) → IsRow text parts
unfolding components
row_from_none none text parts e h = rw e at h

-- a row with the row of a text behind it
pub row_append : (old new : List ℕ) (parts : List (List ℕ)) → IsSlashed old → AreNames parts → new ≡ old ++ with_slashes parts → IsRow new (components old ++ parts)
unfolding with_slashes
row_append old new parts clean h e =
    row_of_names new (components old ++ parts)
    (e ∙ ap (λ s. s ++ with_slashes parts) clean ∙ sym (flat_map-append (λ part. 47 ∷ part) (components old) parts))
    (names_append (components old) (components_are_names old))
  where
    names_append : (first : List (List ℕ)) → AreNames first → AreNames (first ++ parts)
    names_append [] k = h
    names_append (part ∷ first) k = (k.0, names_append first k.1)

-- where there is a text of names, it is the text of a path
pub path_text-slashed : (text : List ℕ) → 0 < length text → IsSlashed text → text ≡ path_text (components text)
unfolding with_slashes path_text
path_text-slashed text some e = by (components text) e
  where
    by : (parts : List (List ℕ)) → text ≡ with_slashes parts → text ≡ path_text parts
    by [] none = absurd (omega (arith, ap length none))
    by (part ∷ parts) h = h

-- a slash behind no names is the path `/`
pub path_text-root : (text root : List ℕ) → length text ≡ 0 → root ≡ text ++ 47 ∷ [] → root ≡ path_text (components text)
unfolding components path_text
path_text-root [] root none e = e
path_text-root (b ∷ bs) root none e = absurd (omega arith)

-- an empty text is the row of nothing
pub empty_slashed : (text : List ℕ) → text ≡ [] → IsSlashed text
unfolding components with_slashes
empty_slashed text e = rw e refl
