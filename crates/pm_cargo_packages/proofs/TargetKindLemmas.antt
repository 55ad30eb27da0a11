-- The kind of a target, one kind of the document after another.
use Rattle.std.proofs.Common.{◌≡◌, ℕ, ◌+◌, ◌<◌, suc, List, ap, arith, drop, get_or, length, sym, ◌∙◌}
use Rattle.std.proofs.Math.Seq.{drop-cons}
use Rattle.cargo_meta_values.specs.declared.kinds.TargetKind.{TargetKind}
use Rattle.pm_cargo_packages.specs.TargetKinds.{first_known, known_kind, target_kind}

-- the first kind that is left decides, where it is known
pub kind_at : (kinds : List TargetKind) (i : ℕ) (kind : TargetKind) → i < length kinds → kind ≡ get_or kinds i kind
    → target_kind (drop i kinds) ≡ first_known (known_kind kind) (target_kind (drop (i + 1) kinds))
kind_at kinds i kind within is =
    let next : suc i ≡ i + 1 = omega arith in
    ap target_kind (drop-cons kinds i kind within)
    ∙ ap (λ k. first_known (known_kind k) (target_kind (drop (suc i) kinds))) (sym is)
    ∙ ap (λ n. first_known (known_kind kind) (target_kind (drop n kinds))) next
