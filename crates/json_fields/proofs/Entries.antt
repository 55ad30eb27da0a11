-- a map of values that are each read again is read again, and is read and written in the order of its keys
use Rattle.std.proofs.Common.{◌≡◌, ℕ, List, [], ◌∷◌, ◌++◌, Ok, Err, Less, Greater, String, string_bytes, string_cmp, refl, sym, ap, ◌∙◌, subst, append_assoc}
use Rattle.std.specs.declared.alloc.Global.{Global}
use Rattle.std.specs.Cmp.Lexicographic.{slice_cmp, nat_list_cmp_total}
use Rattle.std.specs.List.{AllByRecursion}
use Rattle.std.specs.List.Sorted.{IsStrictlySortedBy}
use Rattle.std.specs.Map.{keys_of}
use Rattle.std.specs.Ordering.{nat_cmp, ordering_reverse}
use Rattle.std.proofs.lemmas.List.{map-append}
use Rattle.serde_json.specs.Data.{Data, member}
use Rattle.serde_json.specs.View.{view, members_view}
use Rattle.serde_json.specs.declared.value.Value.{Value}
use Rattle.base_values.specs.ByText.{IsAboveKeys, text_cmp, text_entries}
use Rattle.base_values.proofs.TextMaps.{text_entries-ascending}
use Rattle.json_fields.specs.Fields.{members_from, under}
use Rattle.json_fields.specs.Outcome.{Reading, below_key}
use Rattle.json_fields.specs.Written.{entries_data, set_member}

-- among ascending keys each is above those before it
pub above_before : (front : List (List ℕ)) (k : List ℕ) (more : List (List ℕ)) → IsStrictlySortedBy text_cmp (front ++ k ∷ more) → AllByRecursion (λ y. text_cmp y k ≡ Less) front
unfolding IsStrictlySortedBy
above_before [] k more h = tt
above_before (x ∷ front) k more h = (first front h.0, above_before front k more h.1)
  where
    first : (ys : List (List ℕ)) → AllByRecursion (λ y. text_cmp x y ≡ Less) (ys ++ k ∷ more) → text_cmp x k ≡ Less
    first [] a = a.0
    first (y ∷ ys) a = first ys a.1

module _ {T : Type 0} where
  pub under-id : (r : Reading (List T)) → r ≡ under (λ xs. [] ++ xs) r
  under-id (Ok xs) = refl
  under-id (Err p) = refl

  pub under-more : (front : List T) (x : T) (r : Reading (List T)) → under (λ xs. front ++ xs) (under (λ xs. x ∷ xs) r) ≡ under (λ xs. (front ++ x ∷ []) ++ xs) r
  under-more front x (Ok xs) = ap Ok (sym (append_assoc front (x ∷ []) xs))
  under-more front x (Err p) = refl

module _ {T : Type 0} (writes : T → Data) where
  -- a key above all others is written last
  pub set_member-last : (es : List (List ℕ × T)) (k : List ℕ) (x : T) → IsAboveKeys k es → set_member k (writes x) (entries_data writes es) ≡ entries_data writes (es ++ (k, x) ∷ [])
  unfolding set_member
  set_member-last [] k x h = refl
  set_member-last (e ∷ es) k x h =
      let above : slice_cmp nat_cmp k e.0 ≡ Greater = nat_list_cmp_total.antisymm k e.0 ∙ ap ordering_reverse h.0 in
      rw above (ap (member e.0 (writes e.1)) (set_member-last es k x h.1))

module _ {T : Type 0} (reads : Data → Reading T) where
  -- the map found so far, of the members all of which those that are left are the last
  pub record IsReadSoFar (all left : List (String Global × Value)) (found : List (List ℕ × T)) : Type 0 where
    pub so_far : members_from reads (members_view all) ≡ under (λ es. found ++ es) (members_from reads (members_view left))
    pub ascending : IsStrictlySortedBy text_cmp (keys_of found ++ keys_of (text_entries left))

  pub IsReadSoFar-none : (all : List (String Global × Value)) → IsStrictlySortedBy string_cmp (keys_of all) → IsReadSoFar all all []
  IsReadSoFar-none all ordered = record {
    so_far = under-id (members_from reads (members_view all));
    ascending = text_entries-ascending all ordered;
  }

  -- one more member, whose key is above those before it
  pub IsReadSoFar-more : (all left rest : List (String Global × Value)) (found new : List (List ℕ × T)) (e : String Global × Value) (x : T)
      → IsReadSoFar all left found → left ≡ e ∷ rest → below_key (string_bytes e.0) (reads (view e.1)) ≡ Ok x
      → (IsAboveKeys (string_bytes e.0) found → new ≡ found ++ (string_bytes e.0, x) ∷ []) → IsReadSoFar all rest new
  IsReadSoFar-more all left rest found new e x before step reads_to last =
      let k = string_bytes e.0 in
      let P : List (String Global × Value) → Type 0 = λ l. IsReadSoFar all l found in
      let was : IsReadSoFar all (e ∷ rest) found = subst P step before in
      let later = keys_of (text_entries rest) in
      let added : new ≡ found ++ (k, x) ∷ [] = last (above_before (keys_of found) k later was.ascending) in
      let Q : List (List ℕ × T) → Type 0 = λ es. IsReadSoFar all rest es in
      let keys : keys_of (found ++ (k, x) ∷ []) ++ later ≡ keys_of found ++ k ∷ later =
      ap (λ ks. ks ++ later) (map-append (λ p. p.0) found ((k, x) ∷ [])) ∙ append_assoc (keys_of found) (k ∷ []) later in
      let R : List (List ℕ) → Type 0 = λ ks. IsStrictlySortedBy text_cmp ks in
      subst Q (sym added) (record {
        so_far = was.so_far ∙ rw reads_to (under-more found (k, x) (members_from reads (members_view rest)));
        ascending = subst R (sym keys) was.ascending;
      })
