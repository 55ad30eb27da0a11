-- a manifest is in the root where what follows the root's components is `Cargo.toml` alone
use Rattle.std.proofs.Common.{◌≡◌, ◌↔◌, ℕ, Bool, true, false, List, [], ◌∷◌, ◌++◌, codes, bytes_eq, Decides, sym, ap, refl, ◌∙◌, arith, rules}
use Rattle.std.proofs.lemmas.Bool.Decides.{same_from_decides}
use Rattle.std.proofs.lemmas.List.{append_cancel_left}
use Rattle.std.proofs.lemmas.Paths.{path_components_join}
use Rattle.std.proofs.lemmas.Slice.Eq.{bytes_eq-Decides, slice_eq-Decides}
use Rattle.std.specs.Cmp.Lexicographic.{pointwise}
use Rattle.std.specs.Path.{path_components, path_join, path_names, PathStartsWith, StripsPrefix}
use Rattle.cargo_meta.specs.Select.{is_manifest_in}

-- the components of the root joined with `Cargo.toml`
joined_components : (root : List ℕ) → path_components (path_join root (codes "Cargo.toml")) ≡ path_components root ++ codes "Cargo.toml" ∷ []
unfolding path_components path_join path_names
joined_components [] = refl
joined_components (b ∷ root) = path_components_join (b ∷ root) (codes "Cargo.toml") (omega arith) (search rules)

-- the test says whether the components are equal
is_manifest_in-Decides : (root manifest : List ℕ) → Decides (is_manifest_in root manifest) (path_components manifest ≡ path_components root ++ codes "Cargo.toml" ∷ [])
is_manifest_in-Decides root manifest =
    slice_eq-Decides bytes_eq-Decides (path_components manifest) (path_components root ++ codes "Cargo.toml" ∷ []) _ (ap (λ parts. pointwise bytes_eq (path_components manifest) parts) (joined_components root))

-- behind the root's components stands `Cargo.toml` alone, or not
pub is_manifest_in-rest : (root manifest rest : List ℕ) (r : Bool) → StripsPrefix manifest root rest → (r ≡ true) ↔ (path_components rest ≡ codes "Cargo.toml" ∷ []) → r ≡ is_manifest_in root manifest
is_manifest_in-rest root manifest rest r strips h =
    same_from_decides {P = path_components manifest ≡ path_components root ++ codes "Cargo.toml" ∷ []} r (is_manifest_in root manifest)
    (λ e. strips ∙ ap (λ parts. path_components root ++ parts) (h.0 e), λ e. h.1 (append_cancel_left (path_components root) _ _ (sym strips ∙ e)))
    (is_manifest_in-Decides root manifest)

-- a manifest that does not begin with the root is not in it
pub is_manifest_in-apart : (root manifest : List ℕ) → ¬ (PathStartsWith manifest root) → false ≡ is_manifest_in root manifest
is_manifest_in-apart root manifest h =
    same_from_decides {P = path_components manifest ≡ path_components root ++ codes "Cargo.toml" ∷ []} false (is_manifest_in root manifest)
    (λ e. cc, λ e. absurd (h (codes "Cargo.toml" ∷ [], e)))
    (is_manifest_in-Decides root manifest)
