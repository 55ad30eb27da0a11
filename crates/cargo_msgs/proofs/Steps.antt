-- a list that is read item by item
use Rattle.std.proofs.Common.{◌≡◌, ℕ, suc, List, [], ◌∷◌, ◌+◌, ◌++◌, Ok, Err, arith, drop, refl, ap, ◌∙◌, append_assoc}
use Rattle.serde_json.specs.Data.{Data}
use Rattle.serde_json.specs.View.{view, items_view}
use Rattle.serde_json.specs.declared.value.Value.{Value}
use Rattle.json_fields.specs.Fields.{items_from, under}
use Rattle.json_fields.specs.Outcome.{Reading, below_position}

-- one more item stands before the rest
under-one_more : {T : Type 0} (found : List T) (x : T) (rest : Reading (List T))
    → under (λ xs. found ++ xs) (under (λ xs. x ∷ xs) rest) ≡ under (λ xs. (found ++ x ∷ []) ++ xs) rest
under-one_more found x (Ok xs) = ap Ok (simp append_assoc)
under-one_more found x (Err place) = refl

-- of a list whose first items are read, one more is
pub next_item : {T : Type 0} (reads : Data → Reading T) (values : List Value) (n : ℕ) (found : List T) (v : Value) (x : T)
    → items_from reads 0 (items_view values) ≡ under (λ xs. found ++ xs) (items_from reads n (items_view (drop n values)))
    → drop n values ≡ v ∷ drop (n + 1) values → below_position n (reads (view v)) ≡ Ok x
    → items_from reads 0 (items_view values) ≡ under (λ xs. (found ++ x ∷ []) ++ xs) (items_from reads (n + 1) (items_view (drop (n + 1) values)))
next_item reads values n found v x was step reads_to =
    let next : suc n ≡ n + 1 = omega arith in
    was
    ∙ ap (λ vs. under (λ xs. found ++ xs) (items_from reads n (items_view vs))) step
    ∙ rw (reads_to, next) (under-one_more found x (items_from reads (n + 1) (items_view (drop (n + 1) values))))
