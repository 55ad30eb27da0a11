-- Versions as Semantic Versioning has them, in the order of Cargo's `semver`: numbers, pre-release, build
-- metadata.
use Rattle.std.specs.Prelude.{ℕ, Bool, List, ◌==◌}
use Rattle.std.specs.Ordering.{eq_of_both, nat_cmp, on, then_cmp}
use Rattle.std.specs.Cmp.Lexicographic.{pointwise}
use Rattle.std.specs.declared.cmp.Ordering.{Ordering}
use Rattle.semver.specs.Order.{build_cmp, pre_cmp}

-- the three numbers, and the texts of the pre-release and the build metadata
abbrev pub Parts : Type 0
Parts = ℕ × ℕ × ℕ × List ℕ × List ℕ

-- whether two versions are the same
abbrev pub version_eq : Parts → Parts → Bool
version_eq = eq_of_both (on (λ p. p.0) ◌==◌) (eq_of_both (on (λ p. p.1) ◌==◌) (eq_of_both (on (λ p. p.2) ◌==◌)
    (eq_of_both (on (λ p. p.3) (pointwise ◌==◌)) (on (λ p. p.4) (pointwise ◌==◌)))))

-- the order of versions
abbrev pub version_cmp : Parts → Parts → Ordering
version_cmp =
    then_cmp (on (λ p. p.0) nat_cmp) (then_cmp (on (λ p. p.1) nat_cmp) (then_cmp (on (λ p. p.2) nat_cmp)
    (then_cmp (on (λ p. p.3) pre_cmp) (on (λ p. p.4) build_cmp))))
