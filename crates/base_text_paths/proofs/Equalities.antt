-- Equality of contents, for atoms and paths.
use Rattle.std.proofs.Common.{◌≡◌, ◌↔◌, ℕ, List, Bool, true, ◌&&◌, ap, sym, ◌∙◌}
use Rattle.std.proofs.lemmas.Bool.Decides.{Decides-and}
use Rattle.std.specs.Cmp.Lexicographic.{pointwise, pointwise_decides, bytes_decides}
use Rattle.base_values.specs.Equality.{IsContentEquality}
use Rattle.base_text_paths.specs.CfgChange.{CfgChange}
use Rattle.base_text_outside.specs.declared.cfg.CfgAtom.{CfgAtom}
use Rattle.base_text_paths.specs.Paths.{IsClean, components, path_text}
use Rattle.base_text_paths.specs.PathOrder.{path_eq}

-- clean paths with equal components are equal, and only those
pub paths : (x y : List ℕ) → IsClean x → IsClean y → (path_eq x y ≡ true) ↔ (x ≡ y)
paths x y clean_x clean_y =
    let same = pointwise_decides bytes_decides (components x) (components y) in (
      λ e. clean_x ∙ ap path_text (same.0 e) ∙ sym clean_y,
      λ e. same.1 (ap components e),
    )

-- lists of atoms are equal by their atoms
pub atom_lists : (eq : CfgAtom → CfgAtom → Bool) → IsContentEquality eq → IsContentEquality (pointwise eq)
atom_lists eq content = pointwise_decides content

-- and so are changes
pub atom_changes : (eq : CfgAtom → CfgAtom → Bool) → IsContentEquality eq
    → IsContentEquality {A = CfgChange} (λ x y. pointwise eq x.enabled y.enabled && pointwise eq x.disabled y.disabled)
atom_changes eq content x y =
    let enabled = pointwise_decides content x.enabled y.enabled in
    let both = Decides-and _ _ enabled (pointwise_decides content x.disabled y.disabled) in (
      λ h. let parts = both.0 h in λ i. record { enabled = parts.0 i; disabled = parts.1 i },
      λ h. both.1 (ap (λ c. c.enabled) h, ap (λ c. c.disabled) h),
    )
