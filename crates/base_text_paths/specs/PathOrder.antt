-- Paths are compared by their components: a path comes right before those below it.
use Rattle.std.specs.Prelude.{◌≡◌, ℕ, Bool, true, List, bytes_eq}
use Rattle.std.proofs.Common.{ap, refl}
use Rattle.std.specs.Cmp.{on_equiv, on_total, partial_order_from_agreeing_total, IsEquivalence, IsPartialOrder, IsTotalOrder}
use Rattle.std.specs.Cmp.Lexicographic.{lists_equiv, lists_ties, lists_total, nat_list_cmp_total, nat_list_eq_equiv, pointwise, pointwise_decides, bytes_decides, slice_cmp, texts_ties}
use Rattle.std.specs.declared.cmp.Ordering.{Ordering}
use Rattle.std.specs.Ordering.{as_partial_cmp, eq_by_cmp, nat_cmp, on}
use Rattle.std.specs.Hash as fed
use Rattle.base_text_paths.specs.Paths.{components, path_text}

-- two texts have equal components
abbrev pub path_eq : List ℕ → List ℕ → Bool
path_eq x y = pointwise bytes_eq (components x) (components y)

-- the first two components that differ decide, and else the path with fewer comes first
abbrev pub path_cmp : List ℕ → List ℕ → Ordering
path_cmp x y = slice_cmp (slice_cmp nat_cmp) (components x) (components y)

-- a path is hashed as the text of its components
abbrev pub path_fed : List ℕ → fed.HashWrites
path_fed text = fed.str (path_text (components text))

-- the laws of these three, as the comparisons' traits ask for them
pub path_eq_equiv : IsEquivalence path_eq
path_eq_equiv = on_equiv components (lists_equiv nat_list_eq_equiv)

-- the order is total
pub path_cmp_total : IsTotalOrder path_cmp
path_cmp_total = on_total components (lists_total nat_list_cmp_total)

-- two texts are equal exactly where neither comes first
pub path_ties : (x y : List ℕ) → path_eq x y ≡ eq_by_cmp path_cmp x y
path_ties x y = lists_ties (slice_cmp nat_cmp) texts_ties (components x) (components y)

-- the same two are a partial order on whatever holds a path
pub path_po : {K : Type 0} (text : K → List ℕ)
    → IsPartialOrder (on text path_eq) (as_partial_cmp (on text path_cmp))
path_po text =
    partial_order_from_agreeing_total (on text path_cmp) (on_total text path_cmp_total) (λ x y. refl)
    (λ x y. path_ties (text x) (text y))

-- equal paths are hashed alike
pub path_fed_alike : (x y : List ℕ) → path_eq x y ≡ true → path_fed x ≡ path_fed y
path_fed_alike x y e =
    ap (λ parts. fed.str (path_text parts))
    ((pointwise_decides bytes_decides (components x) (components y)).0 e)
