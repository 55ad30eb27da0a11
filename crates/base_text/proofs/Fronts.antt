-- Lists that begin with a front, in the order of lists, and the component right behind the front.
use Rattle.std.proofs.Common.{◌≡◌, ℕ, ◌<◌, Bool, true, false, cond, not, ◌&&◌, ◌||◌, nat_eq, List, [], ◌∷◌, ◌++◌, length, drop, Ordering, refl, sym, ap, ◌∙◌, Some, None, arith, append-nil, length-append}
use Rattle.std.proofs.lemmas.Bool.{true≢false, false≢true, cond-true, cond-false, lt-ltb, ltb-true}
use Rattle.std.specs.Prelude.{is_some, nat_lt as ltb}
use Rattle.std.specs.Cmp.{IsTotalOrder, tied_itself}
use Rattle.std.specs.Cmp.Lexicographic.{slice_cmp}
use Rattle.std.specs.FinMap.{IsAntisymmetric}
use Rattle.std.specs.List.{filter, find, join_with_byte, slice_get, slice_split}
use Rattle.std.specs.Ordering.{is_gt, ordering_reverse, ordering_then}
use Rattle.std.specs.declared.cmp.Ordering.TheVariants.{Less, Equal, Greater}
use Rattle.base_text_paths.specs.Paths.{components, components_with_tail, is_absolute, is_component, is_prefix, is_slash, text_below}
use Rattle.base_text_paths.specs.Rows.{Lacks}
use Rattle.std.proofs.lemmas.List.Splits.{slice_split_none}
use Rattle.std.proofs.lemmas.List.Elements.{All-from_recursion}
use Rattle.base_text_paths.proofs.Prefixes.{is_prefix_from, is_prefix_parts}
use Rattle.base_text.specs.MemoryTree.{first_component}
use Rattle.base_text.specs.Tree.{entry_name, is_above}

module _ {K : Type 0} {R : K → K → Ordering} (o : IsTotalOrder R) where
  -- lists behind one front are ordered as what is behind it
  pub slice_cmp-behind : (front xs ys : List K) → slice_cmp R (front ++ xs) (front ++ ys) ≡ slice_cmp R xs ys
  slice_cmp-behind [] xs ys = refl
  slice_cmp-behind (a ∷ front) xs ys = ap (λ r. ordering_then r (slice_cmp R (front ++ xs) (front ++ ys))) (tied_itself o a) ∙ slice_cmp-behind front xs ys

  -- a front is not above what a list behind it is not above
  pub front_not_above : (front rest xs : List K) → is_gt (slice_cmp R (front ++ rest) xs) ≡ false → is_gt (slice_cmp R front xs) ≡ false
  front_not_above [] rest [] low = refl
  front_not_above [] rest (b ∷ xs) low = refl
  front_not_above (a ∷ front) rest [] low = absurd (true≢false low)
  front_not_above (a ∷ front) rest (b ∷ xs) low =
      (elim (R a b) as (λ r. is_gt (ordering_then r (slice_cmp R (front ++ rest) xs)) ≡ false → is_gt (ordering_then r (slice_cmp R front xs)) ≡ false) [
        | Less ↦ λ h. refl
        | Equal ↦ λ h. front_not_above front rest xs h
        | Greater ↦ λ h. h
      ]) low

  -- a list that stands from a front up to one that begins with it begins with it
  pub begins_between : IsAntisymmetric R → (front xs rest : List K) → is_gt (slice_cmp R front xs) ≡ false → is_gt (slice_cmp R xs (front ++ rest)) ≡ false → xs ≡ front ++ drop (length front) xs
  begins_between same [] xs rest low high = refl
  begins_between same (a ∷ front) [] rest low high = absurd (true≢false low)
  begins_between same (a ∷ front) (b ∷ xs) rest low high =
      (elim (R a b) as (λ r. R a b ≡ r → is_gt (ordering_then r (slice_cmp R front xs)) ≡ false → is_gt (ordering_then (ordering_reverse r) (slice_cmp R xs (front ++ rest))) ≡ false → b ∷ xs ≡ a ∷ (front ++ drop (length front) xs)) [
        | Less ↦ λ e h k. absurd (true≢false k)
        | Equal ↦ λ e h k i. sym (same a b e) i ∷ begins_between same front xs rest h k i
        | Greater ↦ λ e h k. absurd (true≢false h)
      ]) refl low (sym (ap (λ r. is_gt (ordering_then r (slice_cmp R xs (front ++ rest)))) (o.antisymm b a)) ∙ high)

-- what is behind a front
drop-front : {K : Type 0} (front rest : List K) → drop (length front) (front ++ rest) ≡ rest
drop-front [] rest = refl
drop-front (a ∷ front) rest = drop-front front rest

get-behind : {K : Type 0} (front rest : List K) → slice_get (front ++ rest) (length front) ≡ slice_get rest 0
get-behind [] rest = refl
get-behind (a ∷ front) rest = get-behind front rest

pub is_prefix-behind : (front rest : List (List ℕ)) → is_prefix front (front ++ rest) ≡ true
is_prefix-behind front rest = is_prefix_from front (front ++ rest) (ap (λ xs. front ++ xs) (sym (drop-front front rest)))

-- a front is above what has something behind it
pub is_above-behind : (front rest : List (List ℕ)) (name : List ℕ) → is_above front (front ++ name ∷ rest) ≡ true
unfolding is_above
is_above-behind front rest name =
    ap (λ b. b && ltb (length front) (length (front ++ name ∷ rest))) (is_prefix-behind front (name ∷ rest))
    ∙ lt-ltb _ _ (omega (arith, length-append front (name ∷ rest)))

pub entry_name-behind : (front rest : List (List ℕ)) (name : List ℕ) → entry_name front (front ++ name ∷ rest) ≡ Some name
unfolding entry_name
entry_name-behind front rest name = cond-true _ _ _ (is_above-behind front rest name) ∙ get-behind front (name ∷ rest)

-- and it is above nothing else
pub parts_below : (front whole : List (List ℕ)) → is_above front whole ≡ true → (name : List ℕ) × (rest : List (List ℕ)) × (whole ≡ front ++ name ∷ rest)
unfolding is_above
parts_below front whole e = by (is_prefix front whole) refl e
  where
    with_rest : (rest : List (List ℕ)) → whole ≡ front ++ rest → length front < length whole → (name : List ℕ) × (more : List (List ℕ)) × (whole ≡ front ++ name ∷ more)
    with_rest [] is more = absurd (omega (arith, ap length (is ∙ append-nil front), more))
    with_rest (name ∷ rest) is more = (name, rest, is)

    by : (b : Bool) → is_prefix front whole ≡ b → (b && ltb (length front) (length whole)) ≡ true → (name : List ℕ) × (rest : List (List ℕ)) × (whole ≡ front ++ name ∷ rest)
    by true is less = with_rest (drop (length front) whole) (is_prefix_parts front whole is) (ltb-true _ _ less)
    by false is less = absurd (false≢true less)

-- the name behind a front, with what is behind it
pub entry_name_parts : (front whole : List (List ℕ)) (name : List ℕ) → entry_name front whole ≡ Some name → (rest : List (List ℕ)) × (whole ≡ front ++ name ∷ rest)
unfolding entry_name
entry_name_parts front whole name e = by (is_above front whole) refl e
  where
    by : (b : Bool) → is_above front whole ≡ b → cond b (slice_get whole (length front)) None ≡ Some name → (rest : List (List ℕ)) × (whole ≡ front ++ name ∷ rest)
    by true is found =
        let parts = parts_below front whole is in
        let at : Some parts.0 ≡ Some name = sym (ap (λ xs. slice_get xs (length front)) parts.2 ∙ get-behind front (parts.0 ∷ parts.1)) ∙ found in
        let same : parts.0 ≡ name = cc in
        (parts.1, parts.2 ∙ ap (λ n. front ++ n ∷ parts.1) same)
    by false is found = cc

pub entry_name-none : (front whole : List (List ℕ)) → is_above front whole ≡ false → entry_name front whole ≡ None
unfolding entry_name
entry_name-none front whole is = cond-false _ _ _ is

-- there is a name exactly where the front is above the whole
pub is_some-entry_name : (front whole : List (List ℕ)) → is_above front whole ≡ is_some (entry_name front whole)
is_some-entry_name front whole = by (is_above front whole) refl
  where
    by : (b : Bool) → is_above front whole ≡ b → b ≡ is_some (entry_name front whole)
    by true is =
        let parts = parts_below front whole is in
        sym (ap (λ xs. is_some (entry_name front xs)) parts.2 ∙ ap is_some (entry_name-behind front parts.1 parts.0))
    by false is = sym (ap is_some (entry_name-none front whole is))

-- the first item that passes is the first of those that pass
find-filter : {A : Type 0} (p : A → Bool) (xs : List A) → find p xs ≡ slice_get (filter p xs) 0
find-filter p [] = refl
find-filter p (x ∷ xs) =
    elim (p x) as (λ b. cond b (Some x) (find p xs) ≡ slice_get (cond b (x ∷ filter p xs) (filter p xs)) 0) [
      | true ↦ refl
      | false ↦ find-filter p xs
    ]

-- where the front does not begin the whole, there is no name
pub entry_name-apart : (front whole : List (List ℕ)) → text_below front whole ≡ None → entry_name front whole ≡ None
unfolding text_below is_above
entry_name-apart front whole e = by (is_prefix front whole) refl e
  where
    by : (b : Bool) → is_prefix front whole ≡ b → cond b (Some (join_with_byte 47 (drop (length front) whole))) None ≡ None → entry_name front whole ≡ None
    by true is none = cc
    by false is none = entry_name-none front whole (ap (λ b. b && ltb (length front) (length whole)) is)

-- and else it is the first component of what is below
pub entry_name-first : (front whole : List (List ℕ)) (text rest : List ℕ) → text_below front whole ≡ Some text → components rest ≡ drop (length front) whole → first_component rest ≡ entry_name front whole
unfolding text_below components
entry_name-first front whole text rest e is = by (is_prefix front whole) refl e
  where
    at : (more : List (List ℕ)) → whole ≡ front ++ more → slice_get more 0 ≡ entry_name front whole
    at [] same = sym (no (is_above front whole) refl)
      where
        no : (b : Bool) → is_above front whole ≡ b → entry_name front whole ≡ None
        no false none = entry_name-none front whole none
        no true some =
            let parts = parts_below front whole some in
            absurd (omega (arith, ap length (sym parts.2 ∙ same ∙ append-nil front), length-append front (parts.0 ∷ parts.1)))
    at (name ∷ more) same = sym (ap (entry_name front) same ∙ entry_name-behind front more name)

    by : (b : Bool) → is_prefix front whole ≡ b → cond b (Some (join_with_byte 47 (drop (length front) whole))) None ≡ Some text → first_component rest ≡ entry_name front whole
    by true prefix below = find-filter is_component (slice_split is_slash rest) ∙ ap (λ parts. slice_get parts 0) is ∙ at (drop (length front) whole) (is_prefix_parts front whole prefix)
    by false prefix below = cc

-- a name with a zero byte at its end is a component of its own
one_component : (name : List ℕ) → Lacks 47 name → components (name ++ 0 ∷ []) ≡ (name ++ 0 ∷ []) ∷ []
unfolding components
one_component name whole =
    ap (filter is_component) (slice_split_none is_slash (name ++ 0 ∷ []) (All-from_recursion _ (name ++ 0 ∷ []) (lacks name whole)))
    ∙ cond-true _ _ _ (counts name)
  where
    lacks : (text : List ℕ) → Lacks 47 text → Lacks 47 (text ++ 0 ∷ [])
    lacks [] h = (refl, tt)
    lacks (b ∷ text) h = (h.0, lacks text h.1)

    counts : (text : List ℕ) → is_component (text ++ 0 ∷ []) ≡ true
    counts [] = refl
    counts (b ∷ []) = elim (nat_eq b 46) as (λ t. not (false || (t && false)) ≡ true) [ true ↦ refl | false ↦ refl ]
    counts (b ∷ c ∷ text) = elim (nat_eq b 46) as (λ t. not (false || (t && false)) ≡ true) [ true ↦ refl | false ↦ refl ]

-- so it follows a directory as its last component
pub components_behind : (directory name tail : List ℕ) → Lacks 47 name → tail ≡ name ++ 0 ∷ [] → components_with_tail directory tail ≡ components directory ++ (name ++ 0 ∷ []) ∷ []
unfolding components_with_tail
components_behind directory name tail whole e =
    ap (components_with_tail directory) e ∙ cond-false _ _ _ (relative name whole) ∙ ap (λ parts. components directory ++ parts) (one_component name whole)
  where
    relative : (text : List ℕ) → Lacks 47 text → is_absolute (text ++ 0 ∷ []) ≡ false
    relative [] h = refl
    relative (b ∷ text) h = h.0
