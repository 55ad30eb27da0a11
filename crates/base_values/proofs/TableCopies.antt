-- A table that is copied entry by entry keeps its order.
use Rattle.std.proofs.Common.{◌≡◌, Bool, List, [], ◌∷◌, ◌++◌, sym, ◌∙◌, ap, append_assoc, subst}
use Rattle.std.specs.Cmp.{IsEquivalence}
use Rattle.std.specs.List.{IsDistinct}
use Rattle.std.specs.Map.{keys_of}
use Rattle.indexmap.proofs.MapLemmas.{absent_before, absent_from_lookup, insert_entry-absent}
use Rattle.indexmap.specs.IndexMap.{insert_entry}

-- after one entry more
pub copied_more : {K V : Type 0} (eq : K → K → Bool) → IsEquivalence eq
    → (all done left next made : List (K × V)) (key copy : K) (value copied : V)
    → IsDistinct eq (keys_of all) → done ++ left ≡ all → left ≡ (key, value) ∷ next → copy ≡ key → copied ≡ value
    → made ≡ insert_entry eq done copy copied → made ++ next ≡ all
copied_more {K} {V} eq laws all done left next made key copy value copied distinct so_far step same_key same_value is =
    let whole : done ++ (key, value) ∷ next ≡ all = ap (λ (l : List (K × V)). done ++ l) (sym step) ∙ so_far in
    let P : List (K × V) → Type 0 = λ es. IsDistinct eq (keys_of es) in
    let absent = absent_before laws done next (key, value) (subst P (sym whole) distinct) in
    let added : made ≡ done ++ (key, value) ∷ [] =
    is ∙ ap (λ (k : K). insert_entry eq done k copied) same_key ∙ ap (λ (v : V). insert_entry eq done key v) same_value
    ∙ insert_entry-absent eq key value done (absent_from_lookup (eq key) done absent) in
    ap (λ (m : List (K × V)). m ++ next) added ∙ append_assoc done ((key, value) ∷ []) next ∙ whole
