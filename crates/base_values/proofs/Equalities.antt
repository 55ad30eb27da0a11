-- Equality of contents, of values that are made of others.
use Rattle.std.proofs.Common.{Bool, true, ◌&&◌, nat_eq, ap, sym, ◌∙◌}
use Rattle.std.specs.Cmp.Lexicographic.{pointwise, pointwise_decides, bytes_decides}
use Rattle.std.proofs.lemmas.Bool.{eqb-true, eq-eqb}
use Rattle.std.proofs.lemmas.Bool.Decides.{Decides-and}
use Rattle.std.proofs.Math.Bool.{and-true}
use Rattle.base_values.specs.Equality.{IsContentEquality}
use Rattle.base_values.specs.Version.{version_eq}

-- of texts, seen as their bytes
pub texts : IsContentEquality (pointwise nat_eq)
texts = bytes_decides

-- of numbers
pub numbers : IsContentEquality nat_eq
numbers x y = (eqb-true x y, eq-eqb x y)

-- of lists
pub lists : {A : Type 0} (eq : A → A → Bool) → IsContentEquality eq → IsContentEquality (pointwise eq)
lists eq content = pointwise_decides content

-- of pairs
pub pairs : {A B : Type 0} (eq : A → A → Bool) (eq' : B → B → Bool) → IsContentEquality eq → IsContentEquality eq'
    → IsContentEquality {A = A × B} (λ p q. eq p.0 q.0 && eq' p.1 q.1)
pairs eq eq' first second p q =
    let both = Decides-and _ _ (first p.0 q.0) (second p.1 q.1) in
    (λ h. let parts = both.0 h in λ i. (parts.0 i, parts.1 i), λ h. both.1 (ap (λ x. x.0) h, ap (λ x. x.1) h))

-- of values with a tag, which plays no part
pub tagged : {A : Type 0} (eq : A → A → Bool) → IsContentEquality eq → IsContentEquality (λ x y. eq x y && true)
tagged eq content x y = (
  λ h. (content x y).0 (sym (and-true (eq x y)) ∙ h),
  λ h. and-true (eq x y) ∙ (content x y).1 h,
)

-- of versions, part by part
pub versions : IsContentEquality version_eq
versions p q =
    let metadata = Decides-and _ _ (texts p.3 q.3) (texts p.4 q.4) in
    let patch = Decides-and _ _ (numbers p.2 q.2) metadata in
    let minor = Decides-and _ _ (numbers p.1 q.1) patch in
    let all = Decides-and _ _ (numbers p.0 q.0) minor in (
      λ h. let parts = all.0 h in λ i. (parts.0 i, parts.1.0 i, parts.1.1.0 i, parts.1.1.1.0 i, parts.1.1.1.1 i),
      λ h. all.1 (ap (λ x. x.0) h, (ap (λ x. x.1) h, (ap (λ x. x.2) h, (ap (λ x. x.3) h, ap (λ x. x.4) h)))),
    )
