-- The laws of the comparisons of paths: equal is one and the same, the order is total and ties where they are
-- equal.
use Rattle.std.specs.Prelude.{◌≡◌, ℕ, Bool, true, false, ◌&&◌, List, nat_eq}
use Rattle.std.proofs.Common.{refl, sym, ◌∙◌, ap, subst, true≢false}
use Rattle.std.specs.Bool.{beq, one_answer}
use Rattle.std.specs.Cmp.{and_equiv, bool_cmp_total, bool_eq_equiv, booleans_Decides, on_equiv, on_total, partial_order_from_agreeing_total, then_total, tied_itself, IsEquivalence, IsPartialOrder, IsTotalOrder}
use Rattle.std.specs.Cmp.Lexicographic.{lists_total, nat_list_cmp_total, nat_list_eq_equiv, pointwise, pointwise_decides, bytes_decides, slice_cmp, texts_ties}
use Rattle.std.specs.declared.cmp.Ordering.{Ordering}
use Rattle.std.specs.declared.cmp.Ordering.TheVariants.{Less, Equal, Greater}
use Rattle.std.specs.Ordering.{as_partial_cmp, bool_cmp, eq_by_cmp, is_eq, nat_cmp, ordering_then}
use Rattle.base_text_paths.specs.PathOrder.{path_cmp, path_ties}
use Rattle.base_text_paths.specs.Paths.{components, path_text, IsClean}
use Rattle.vfs_core.specs.VfsPath.{PathContent, vfs_path_cmp, vfs_path_eq, real_parts}

-- both of two tests that hold together
both : (first second : Bool) → (first && second) ≡ true → (first ≡ true) × (second ≡ true)
both true second h = (refl, h)
both false second h = absurd (true≢false (sym h))

-- paths with the same parts are one
same_parts : (x y : PathContent) → x.is_virtual ≡ y.is_virtual → x.text ≡ y.text → x ≡ y
same_parts x y kind text = λ i. record { is_virtual = kind i; text = text i }

-- equal paths are one path
pub vfs_path_eq-same : (x y : PathContent) → vfs_path_eq x y ≡ true → x ≡ y
vfs_path_eq-same x y h =
    let parts = both (beq x.is_virtual y.is_virtual) (pointwise nat_eq x.text y.text) h in
    same_parts x y ((booleans_Decides x.is_virtual y.is_virtual).0 parts.0)
    ((bytes_decides x.text y.text).0 parts.1)

-- equality of paths is an equivalence
pub vfs_path_equiv : IsEquivalence vfs_path_eq
vfs_path_equiv =
    and_equiv (on_equiv (λ p. p.is_virtual) bool_eq_equiv) (on_equiv (λ p. p.text) nat_list_eq_equiv)

-- the order is total
pub vfs_path_cmp_total : IsTotalOrder vfs_path_cmp
vfs_path_cmp_total = then_total (on_total (λ p. p.is_virtual) bool_cmp_total)
    (then_total (on_total real_parts (lists_total nat_list_cmp_total)) (on_total (λ p. p.text) nat_list_cmp_total))

-- a chain of three ties where its first and its last do
tied_ends : (a b c : Ordering) → is_eq (ordering_then a (ordering_then b c)) ≡ true
    → (is_eq a ≡ true) × (is_eq c ≡ true)
tied_ends Less b c h = absurd (true≢false (sym h))
tied_ends Equal Less c h = absurd (true≢false (sym h))
tied_ends Equal Equal c h = (refl, h)
tied_ends Equal Greater c h = absurd (true≢false (sym h))
tied_ends Greater b c h = absurd (true≢false (sym h))

-- truth values that tie are one
tied_bools : (x y : Bool) → is_eq (bool_cmp x y) ≡ true → x ≡ y
tied_bools true true h = refl
tied_bools true false h = absurd (true≢false (sym h))
tied_bools false true h = absurd (true≢false (sym h))
tied_bools false false h = refl

-- paths that tie are one
tied_paths : (x y : PathContent) → eq_by_cmp vfs_path_cmp x y ≡ true → x ≡ y
tied_paths x y h =
    let ends = tied_ends (bool_cmp x.is_virtual y.is_virtual) (slice_cmp (slice_cmp nat_cmp) (real_parts x) (real_parts y))
    (slice_cmp nat_cmp x.text y.text) h in
    same_parts x y (tied_bools x.is_virtual y.is_virtual ends.0)
    ((bytes_decides x.text y.text).0 (texts_ties x.text y.text ∙ ends.1))

-- paths tie exactly where they are equal
pub vfs_path_ties : (x y : PathContent) → vfs_path_eq x y ≡ eq_by_cmp vfs_path_cmp x y
vfs_path_ties x y = one_answer (vfs_path_eq x y) (eq_by_cmp vfs_path_cmp x y)
    (vfs_path_eq-same x y, λ (e : x ≡ y). subst (λ p. vfs_path_eq x p ≡ true) e (vfs_path_equiv.refl x)) (
      tied_paths x y,
      λ (e : x ≡ y). subst (λ p. eq_by_cmp vfs_path_cmp x p
          ≡ true) e (ap is_eq (tied_itself vfs_path_cmp_total x)),
    )

-- the partial order answers as the total one
pub vfs_path_po : IsPartialOrder vfs_path_eq (as_partial_cmp vfs_path_cmp)
vfs_path_po = partial_order_from_agreeing_total vfs_path_cmp vfs_path_cmp_total (λ x y. refl) vfs_path_ties

-- the same by how the components compare
clean_split : (x y : List ℕ) (r : Ordering) → IsClean x → IsClean y → path_cmp x y ≡ r
    → ordering_then r (slice_cmp nat_cmp x y) ≡ r
clean_split x y Less clean_x clean_y h = refl
clean_split x y Equal clean_x clean_y h =
    let parts : components x ≡ components y =
    (pointwise_decides bytes_decides (components x) (components y)).0 (path_ties x y ∙ ap is_eq h) in
    let same : x ≡ y = clean_x ∙ ap path_text parts ∙ sym clean_y in
    subst (λ t. slice_cmp nat_cmp x t ≡ Equal) same (tied_itself nat_list_cmp_total x)
clean_split x y Greater clean_x clean_y h = refl

-- components decide between clean texts
pub clean_cmp : (x y : List ℕ) → IsClean x → IsClean y
    → ordering_then (path_cmp x y) (slice_cmp nat_cmp x y) ≡ path_cmp x y
clean_cmp x y clean_x clean_y = clean_split x y (path_cmp x y) clean_x clean_y refl
