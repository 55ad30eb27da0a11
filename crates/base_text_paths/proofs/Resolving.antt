-- The components taken so far while a path is resolved, as the row of names that holds them grows and shrinks.
use Rattle.std.proofs.Common.{◌≡◌, ℕ, Bool, true, false, cond, List, [], ◌∷◌, ◌++◌, length, ◌-◌, refl, sym, ap, subst, ◌∙◌, append_assoc, append-nil}
use Rattle.std.proofs.lemmas.Bool.{cond-true, cond-false}
use Rattle.std.proofs.lemmas.List.Elements.{All-from_recursion, recursion_from_All, All-take, All-push, filter-append}
use Rattle.std.proofs.lemmas.List.Sums.{fold-append}
use Rattle.std.specs.List.{filter, fold, AllByRecursion}
use Rattle.std.specs.Prelude.{codes, bytes_eq}
use Rattle.base_text_paths.specs.Paths.{components, is_component, resolve, resolved_components, with_slashes, without_last}
use Rattle.base_text_paths.specs.Rows.{IsRow, IsSlashed}
use Rattle.base_text_paths.proofs.Names.{AreNames, IsName, components_are_names, row_of_names, slashed-push}

-- the text holds what is taken of the parts so far, after what it held at the start
pub record HasTaken (text : List ℕ) (start parts : List (List ℕ)) : Type 0 where
  pub built : text ≡ with_slashes (fold resolve start (filter is_component parts))
  pub names : AreNames (fold resolve start (filter is_component parts))

-- at the start nothing is taken
pub HasTaken-none : (text : List ℕ) → IsSlashed text → HasTaken text (components text) []
HasTaken-none text clean = record { built = clean; names = components_are_names text }

-- a part that counts is resolved after the others
fold-counts : (start parts : List (List ℕ)) (part : List ℕ) → is_component part ≡ true → fold resolve start (filter is_component (parts ++ part ∷ [])) ≡ resolve (fold resolve start (filter is_component parts)) part
fold-counts start parts part e =
    ap (fold resolve start) (filter-append is_component parts (part ∷ []) ∙ ap (λ rest. filter is_component parts ++ rest) (cond-true _ _ _ e))
    ∙ fold-append resolve start (filter is_component parts) (part ∷ [])

-- `..` drops the last name
pub HasTaken-up : (text short : List ℕ) (start parts : List (List ℕ)) (part : List ℕ) → HasTaken text start parts → part ≡ codes ".." → IsRow short (without_last (components text)) → HasTaken short start (parts ++ part ∷ [])
unfolding resolve
HasTaken-up text short start parts part h up e =
    let taken : List (List ℕ) = fold resolve start (filter is_component parts) in
    let now : fold resolve start (filter is_component (parts ++ part ∷ [])) ≡ without_last taken =
    ap (λ p. fold resolve start (filter is_component (parts ++ p ∷ []))) up ∙ fold-counts start parts (codes "..") refl in
    record {
      built = e.text_is ∙ ap (λ names. with_slashes (without_last names)) (row_of_names text taken h.built h.names).components_are ∙ ap with_slashes (sym now);
      names = rw now (recursion_from_All IsName _ (All-take IsName (length taken - 1) taken (All-from_recursion IsName taken h.names)));
    }

-- a name follows one more slash
pub HasTaken-name : (text slash more : List ℕ) (start parts : List (List ℕ)) (part : List ℕ) → HasTaken text start parts → bytes_eq part (codes "..") ≡ false → IsName part → slash ≡ text ++ 47 ∷ [] → more ≡ slash ++ part → HasTaken more start (parts ++ part ∷ [])
unfolding resolve
HasTaken-name text slash more start parts part h other name one two =
    let taken : List (List ℕ) = fold resolve start (filter is_component parts) in
    let now : fold resolve start (filter is_component (parts ++ part ∷ [])) ≡ taken ++ part ∷ [] =
    fold-counts start parts part name.counts ∙ cond-false _ _ _ other in
    record {
      built = two ∙ ap (λ s. s ++ part) (one ∙ ap (λ s. s ++ 47 ∷ []) h.built) ∙ append_assoc _ (47 ∷ []) part ∙ sym (slashed-push taken part) ∙ ap with_slashes (sym now);
      names = rw now (recursion_from_All IsName _ (All-push IsName taken part (All-from_recursion IsName taken h.names) name));
    }

-- a part that does not count is passed over
pub HasTaken-skip : (text : List ℕ) (start parts : List (List ℕ)) (part : List ℕ) → HasTaken text start parts → is_component part ≡ false → HasTaken text start (parts ++ part ∷ [])
HasTaken-skip text start parts part h e =
    let same : filter is_component (parts ++ part ∷ []) ≡ filter is_component parts =
    filter-append is_component parts (part ∷ []) ∙ ap (λ rest. filter is_component parts ++ rest) (cond-false _ _ _ e) ∙ append-nil _ in
    record { built = rw same h.built; names = rw same h.names }

-- a path resolved from nothing
pub row_resolved : (none text path : List ℕ) → none ≡ [] → IsRow text (fold resolve (components none) (components path)) → IsRow text (resolved_components (components path))
unfolding components resolved_components
row_resolved none text path e h = rw e at h

-- no component is `..`
HasNoUp : List (List ℕ) → Type 0
HasNoUp parts = AllByRecursion (λ part. bytes_eq part (codes "..") ≡ false) parts

-- a resolved part leaves no `..` behind
resolve_no_up : (taken : List (List ℕ)) (part : List ℕ) → HasNoUp taken → HasNoUp (resolve taken part)
unfolding resolve HasNoUp
resolve_no_up taken part h =
    let NotUp : List ℕ → Type 0 = λ p. bytes_eq p (codes "..") ≡ false in
    let all = All-from_recursion NotUp taken h in
    let P : Bool → Type 0 = λ t. bytes_eq part (codes "..") ≡ t → HasNoUp (cond t (without_last taken) (taken ++ part ∷ [])) in
    (elim (bytes_eq part (codes "..")) as (λ t. P t) [
      | true ↦ λ e. recursion_from_All NotUp _ (All-take NotUp (length taken - 1) taken all)
      | false ↦ λ e. recursion_from_All NotUp _ (All-push NotUp taken part all e)
    ]) refl

fold_no_up : (taken parts : List (List ℕ)) → HasNoUp taken → HasNoUp (fold resolve taken parts)
fold_no_up taken [] h = h
fold_no_up taken (part ∷ parts) h = fold_no_up (resolve taken part) parts (resolve_no_up taken part h)

-- without a `..` every component is taken
fold_all_taken : (taken parts : List (List ℕ)) → HasNoUp parts → fold resolve taken parts ≡ taken ++ parts
unfolding resolve HasNoUp
fold_all_taken taken [] h = sym (append-nil taken)
fold_all_taken taken (part ∷ parts) h =
    ap (λ next. fold resolve next parts) (cond-false _ _ _ h.0)
    ∙ fold_all_taken (taken ++ part ∷ []) parts h.1
    ∙ append_assoc taken (part ∷ []) parts

-- what is resolved stays as it is
pub resolved_again : (parts : List (List ℕ)) → resolved_components (resolved_components parts) ≡ resolved_components parts
unfolding resolved_components HasNoUp
resolved_again parts = fold_all_taken [] (fold resolve [] parts) (fold_no_up [] parts tt)

-- the components of a normal path are resolved
pub normal_again : (text : List ℕ) (parts : List (List ℕ)) → components text ≡ resolved_components parts → resolved_components (components text) ≡ components text
normal_again text parts e = ap resolved_components e ∙ resolved_again parts ∙ sym e

-- a resolved path is resolved without its last component
pub resolved_above : (text above : List ℕ) → resolved_components (components text) ≡ components text → components above ≡ without_last (components text) → resolved_components (components above) ≡ components above
unfolding resolved_components HasNoUp
resolved_above text above done e =
    let NotUp : List ℕ → Type 0 = λ p. bytes_eq p (codes "..") ≡ false in
    let whole : HasNoUp (components text) = subst (λ (parts : List (List ℕ)). HasNoUp parts) done (fold_no_up [] (components text) tt) in
    let front : HasNoUp (without_last (components text)) =
    recursion_from_All NotUp _ (All-take NotUp (length (components text) - 1) _ (All-from_recursion NotUp _ whole)) in
    ap resolved_components e ∙ fold_all_taken [] (without_last (components text)) front ∙ sym e
