-- A list of entries, as std's trees hold it, read as the finite map of its keys.
use Rattle.std.proofs.Common.{◌≡◌, List, [], ◌∷◌, cond, Option, Some, None, Ordering, refl, sym, ap, subst, ◌∙◌}
use Rattle.std.specs.Prelude.{IsSome, OnSome}
use Rattle.std.specs.Option.{option_copied_mut}
use Rattle.std.specs.Borrow.{MutBor}
use Rattle.std.specs.Ordering.{eq_by_cmp}
use Rattle.std.specs.Cmp.{IsTotalOrder, eq_by_cmp_equiv}
use Rattle.std.specs.Map.{lookup}
use Rattle.std.specs.BTreeMap.{is_at}
use Rattle.std.specs.FinMap.{get, insert, find, from_entries, get-from_entries, get-insert, same_map, IsAntisymmetric}

module _ {K X : Type 0} (R : K → K → Ordering) where
  find-lookup : (q : K) (es : List (K × X)) → find R q es ≡ lookup (is_at (R q)) es
  find-lookup q [] = refl
  find-lookup q (e ∷ es) = ap (cond (eq_by_cmp R q e.0) (Some e.1)) (find-lookup q es)

  module _ (o : IsTotalOrder R) where
    -- the map finds what a look-up in the entries finds
    pub get-view : (es : List (K × X)) (q : K) → get (from_entries {R = R} es) q ≡ lookup (is_at (R q)) es
    get-view es q = get-from_entries o es q ∙ find-lookup q es

    -- entries in which every look-up finds v at k and else what it found before are the map with v put at k
    pub insert_view : IsAntisymmetric R → (old new : List (K × X)) (k : K) (v : X) → ((q : K) → lookup (is_at (R q)) new ≡ cond (is_at (R k) q) (Some v) (lookup (is_at (R q)) old))
        → from_entries {R = R} new ≡ insert (from_entries old) k v
    insert_view same old new k v each = same_map o same _ _ (λ q.
        get-view new q ∙ each q ∙ ap (λ b. cond b (Some v) (lookup (is_at (R q)) old)) ((eq_by_cmp_equiv o).symm k q)
        ∙ ap (cond (eq_by_cmp R q k) (Some v)) (sym (get-view old q)) ∙ sym (get-insert o (from_entries old) k v q))

-- what holds where a look-up finds something holds where it lends something
pub lent_where_found : {X : Type 0} (r : Option (MutBor X)) (found : Option X) (P : Type 0) → option_copied_mut r ≡ found → (IsSome found → P) → OnSome r P
lent_where_found None found P same holds = tt
lent_where_found (Some r) found P same holds = holds (subst IsSome same refl)
