-- The keys of a map after an insertion: a new key comes last.
use Rattle.std.proofs.Common.{◌≡◌, Bool, true, false, ◌||◌, List, [], ◌∷◌, ◌++◌, refl, sym, ◌∙◌, ap, if◌then◌else◌}
use Rattle.std.specs.List.{list_any}
use Rattle.std.specs.Map.{keys_of}
use Rattle.indexmap.specs.IndexMap.{insert_entry}
use Rattle.vfs_core.specs.Distinct.{with_item}

-- one more item: the same with both tests known
with_item-cons : {A : Type 0} → (item first : A) (rest : List A) (is_first is_later : Bool)
    → (if is_first || is_later then first ∷ rest else (first ∷ rest) ++ item ∷ [])
    ≡ (if is_first then first ∷ rest else first ∷ (if is_later then rest else rest ++ item ∷ []))
with_item-cons item first rest true is_later = refl
with_item-cons item first rest false true = refl
with_item-cons item first rest false false = refl

-- the keys after an insertion: the same with the first test known
keys-split : {K V : Type 0} → (eq : K → K → Bool) (key : K) (value : V) (first : K × V) (rest : List (K × V)) (is_first : Bool)
    → keys_of (insert_entry eq rest key value) ≡ with_item eq key (keys_of rest)
    → keys_of (if is_first then (first.0, value) ∷ rest else first ∷ insert_entry eq rest key value)
    ≡ (if is_first then first.0 ∷ keys_of rest else first.0 ∷ with_item eq key (keys_of rest))
keys-split eq key value first rest true more = refl
keys-split eq key value first rest false more = ap (λ keys. first.0 ∷ keys) more

-- a new key comes last, and no other moves
pub keys_of_insert_entry : {K V : Type 0} → (eq : K → K → Bool) (entries : List (K × V)) (key : K) (value : V)
    → keys_of (insert_entry eq entries key value) ≡ with_item eq key (keys_of entries)
keys_of_insert_entry eq [] key value = refl
keys_of_insert_entry eq (entry ∷ entries) key value =
    keys-split eq key value entry entries (eq key entry.0) (keys_of_insert_entry eq entries key value)
    ∙ sym (with_item-cons key entry.0 (keys_of entries) (eq key entry.0) (list_any (eq key) (keys_of entries)))
