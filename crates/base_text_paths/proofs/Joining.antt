-- A path with a tail behind it, as the row that is built for it.
use Rattle.std.proofs.Common.{◌≡◌, ℕ, ◌++◌, Bool, true, false, if◌then◌else◌, List, [], refl, ap, ◌∙◌}
use Rattle.base_text_paths.specs.Paths.{components, components_with_tail, is_absolute, with_slashes}
use Rattle.base_text_paths.specs.Rows.{IsRow}

-- before an absolute tail nothing stays
pub row_of_none : (tail row : List ℕ) (parts : List (List ℕ)) → is_absolute tail ≡ true → row ≡ [] → IsRow row (if is_absolute tail then [] else parts)
unfolding components with_slashes
row_of_none tail row parts absolute e = rw (e, absolute) (record { text_is = refl; components_are = refl })

-- the row of what stays and of the tail is that of both joined
pub row_joined : (base tail row whole : List ℕ) → IsRow row (if is_absolute tail then [] else components base) → IsRow whole (components row ++ components tail) → IsRow whole (components_with_tail base tail)
unfolding components_with_tail
row_joined base tail row whole first both =
    let P : Bool → Type 0 = λ t. components row ≡ (if t then [] else components base) → components row ++ components tail ≡ (if t then components tail else components base ++ components tail) in
    let same : components row ++ components tail ≡ components_with_tail base tail =
    (elim (is_absolute tail) as (λ t. P t) [ true ↦ λ e. ap (λ parts. parts ++ components tail) e | false ↦ λ e. ap (λ parts. parts ++ components tail) e ]) first.components_are in
    record { text_is = both.text_is ∙ ap with_slashes same; components_are = both.components_are ∙ same }
