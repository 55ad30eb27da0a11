-- a map with `String` keys beside its entries with keys as bytes
use Rattle.std.proofs.Common.{◌≡◌, ℕ, List, [], ◌∷◌, ◌++◌, String, string_bytes, string_cmp, Ordering, Less, Equal, Greater, refl, sym, ap, ◌∙◌, subst, append_assoc, Bool, ◌&&◌, nat_eq, string_eq}
use Rattle.std.specs.declared.alloc.Global.{Global}
use Rattle.std.specs.BTreeMap.{insert_entry, is_at}
use Rattle.std.specs.Cmp.Lexicographic.{slice_cmp, nat_list_cmp_total, pointwise}
use Rattle.std.specs.List.{AllByRecursion}
use Rattle.std.specs.List.Sorted.{IsStrictlySortedBy}
use Rattle.std.specs.Map.{keys_of, lookup}
use Rattle.std.specs.Ordering.{nat_cmp, match_ordering, ordering_reverse}
use Rattle.base_values.specs.ByText.{HasAscendingKeys, IsAboveKeys, text_cmp, text_entries, value_at, with_value}

module _ {V : Type 0} where
  text_entries-match : (o : Ordering) (a b c : List (String Global × V))
      → text_entries (match_ordering o a b c) ≡ match_ordering o (text_entries a) (text_entries b) (text_entries c)
  text_entries-match Less a b c = refl
  text_entries-match Equal a b c = refl
  text_entries-match Greater a b c = refl

  pub text_entries-insert_entry : (es : List (String Global × V)) (k : String Global) (v : V)
      → text_entries (insert_entry string_cmp es k v) ≡ with_value (string_bytes k) v (text_entries es)
  text_entries-insert_entry [] k v = refl
  text_entries-insert_entry (e ∷ es) k v = text_entries-match (string_cmp k e.0) _ _ _ ∙ rw (text_entries-insert_entry es k v)

  pub value_at-text_entries : (key : List ℕ) (es : List (String Global × V))
      → lookup (is_at (λ k. slice_cmp nat_cmp key (string_bytes k))) es ≡ value_at key (text_entries es)
  value_at-text_entries key [] = refl
  value_at-text_entries key (e ∷ es) = rw (value_at-text_entries key es)

  -- a key above all others goes last
  pub with_value-last : (es : List (List ℕ × V)) (k : List ℕ) (v : V) → IsAboveKeys k es → with_value k v es ≡ es ++ (k, v) ∷ []
  with_value-last [] k v h = refl
  with_value-last (e ∷ es) k v h =
      let above : text_cmp k e.0 ≡ Greater = nat_list_cmp_total.antisymm k e.0 ∙ ap ordering_reverse h.0 in
      rw (above, with_value-last es k v h.1)

  below_all : (k : String Global) (es : List (String Global × V)) → AllByRecursion (λ y. string_cmp k y ≡ Less) (keys_of es)
      → AllByRecursion (λ y. text_cmp (string_bytes k) y ≡ Less) (keys_of (text_entries es))
  below_all k [] h = tt
  below_all k (e ∷ es) h = (h.0, below_all k es h.1)

  pub text_entries-ascending : (es : List (String Global × V)) → IsStrictlySortedBy string_cmp (keys_of es) → HasAscendingKeys (text_entries es)
  unfolding IsStrictlySortedBy
  text_entries-ascending [] h = tt
  text_entries-ascending (e ∷ es) h = (below_all e.0 es h.0, text_entries-ascending es h.1)

  below_middle : (first : List ℕ) (es : List (List ℕ × V)) (e : List ℕ × V) (more : List (List ℕ × V))
      → AllByRecursion (λ y. text_cmp first y ≡ Less) (keys_of (es ++ e ∷ more)) → text_cmp first e.0 ≡ Less
  below_middle first [] e more h = h.0
  below_middle first (x ∷ es) e more h = below_middle first es e more h.1

  -- among ascending keys each is above those before it
  pub IsAboveKeys-middle : (done : List (List ℕ × V)) (e : List ℕ × V) (more : List (List ℕ × V)) → HasAscendingKeys (done ++ e ∷ more) → IsAboveKeys e.0 done
  unfolding IsStrictlySortedBy
  IsAboveKeys-middle [] e more h = tt
  IsAboveKeys-middle (x ∷ done) e more h = (below_middle x.0 done e more h.0, IsAboveKeys-middle done e more h.1)

  -- one more entry of a copy that is made in order
  pub copied_one_more : (all copy new : List (List ℕ × V)) (left rest : List (String Global × V)) (e : String Global × V) (k : List ℕ) (v : V)
      → HasAscendingKeys all → copy ++ text_entries left ≡ all → left ≡ e ∷ rest → k ≡ string_bytes e.0 → v ≡ e.1
      → (IsAboveKeys k copy → new ≡ copy ++ (k, v) ∷ []) → new ++ text_entries rest ≡ all
  copied_one_more all copy new left rest e k v ascending so_far step same_key same_value last =
      let whole : copy ++ (k, v) ∷ text_entries rest ≡ all = rw (same_key, same_value) (ap (λ l. copy ++ text_entries l) (sym step) ∙ so_far) in
      let P : List (List ℕ × V) → Type 0 = λ es. HasAscendingKeys es in
      let added = last (IsAboveKeys-middle copy (k, v) (text_entries rest) (subst P (sym whole) ascending)) in
      rw added (append_assoc copy ((k, v) ∷ []) (text_entries rest) ∙ whole)

  module _ (E : V → V → Bool) where
    pub pointwise-text_entries : (xs ys : List (String Global × V))
        → pointwise (λ p q. string_eq p.0 q.0 && E p.1 q.1) xs ys ≡ pointwise (λ p q. pointwise nat_eq p.0 q.0 && E p.1 q.1) (text_entries xs) (text_entries ys)
    pointwise-text_entries [] [] = refl
    pointwise-text_entries [] (y ∷ ys) = refl
    pointwise-text_entries (x ∷ xs) [] = refl
    pointwise-text_entries (x ∷ xs) (y ∷ ys) = rw (pointwise-text_entries xs ys)
