-- The ids of the targets from one place up to another.
use Rattle.std.proofs.Common.{◌≡◌, ℕ, ◌+◌, ◌-◌, ◌≤◌, max, [], ◌∷◌, ◌++◌, map, ap, sym, ◌∙◌, arith}
use Rattle.std.specs.List.{range_with_len}
use Rattle.std.proofs.lemmas.List.FromFn.{map-range_with_len_more}
use Rattle.base_text_paths.specs.Arena.{number_of}
use Rattle.base_text_paths.specs.declared.arena.Idx.{Idx}
use Rattle.pm_cargo_packages.specs.Ids.{target_id}
use Rattle.pm_cargo_packages.specs.declared.target.TargetTag.{TargetTag}
use Rattle.pm_cargo_reading.specs.Packages.{ids_between}

-- there are none between a place and itself
pub ids_between-none : (first : ℕ) → [] ≡ ids_between first first
ids_between-none first = let none : 0 ≡ first - first = omega arith in ap (λ n. map target_id (range_with_len first n)) none

-- one more
pub ids_between-more : (first number : ℕ) (id : Idx TargetTag) → first ≤ number → number_of id ≡ number
    → ids_between first number ++ id ∷ [] ≡ ids_between first (number + 1)
ids_between-more first number id up is =
    let next : first + (number - first) ≡ number = omega arith in
    let count : number - first + 1 ≡ number + 1 - first = omega arith in
    (λ i. ids_between first number ++ (record { raw = is i; tag = id.tag }) ∷ [])
    ∙ sym (map-range_with_len_more target_id first (number - first) number next)
    ∙ ap (λ n. map target_id (range_with_len first n)) count

-- up to the end, or none where it is before the first
pub ids_between-end : (first number end : ℕ) → first ≤ number → end ≤ number → number ≤ max first end → ids_between first number ≡ ids_between first end
ids_between-end first number end up past within =
    let count : number - first ≡ end - first = omega arith in
    ap (λ n. map target_id (range_with_len first n)) count
