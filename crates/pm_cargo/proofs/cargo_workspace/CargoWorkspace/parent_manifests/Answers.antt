use Rattle.std.proofs.Common.{◌≡◌, [], ◌∷◌, Some, ap, sym, true≢false, ◌∙◌}
use Rattle.pm_cargo.specs.Queries.{dependent_manifests, parent_manifests}
use Rattle.pm_cargo.proofs.QueryLemmas.{manifests-found, manifests-none, manifests-root}
use Rattle.pm_cargo.proofs.cargo_workspace.CargoWorkspace.parent_manifests.Goals as goal

pub returns-then-not-is_empty : goal.returns-then-not-is_empty
unfolding parent_manifests
returns-then-not-is_empty c =
    let found = dependent_manifests c.args.self.now c.args.manifest_path.now in
    let some : found ≡ [] → ⊥ = λ none. true≢false (sym (c.is_empty.ensures.1 (c.in_ok-found.ensures ∙ none)) ∙ c.if-not-is_empty.true) in
    ap Some (c.into_inner.ensures ∙ c.in_ok-found.ensures) ∙ manifests-found _ _ found some

pub returns-then-not-has_manifest : goal.returns-then-not-has_manifest
unfolding parent_manifests
returns-then-not-has_manifest c =
    let found = dependent_manifests c.args.self.now c.args.manifest_path.now in
    let none : found ≡ [] = sym c.in_ok-found.ensures ∙ c.is_empty.ensures.0 c.if-not-is_empty.false in
    manifests-none _ _ found none (sym c.has_manifest.ensures ∙ c.if-not-has_manifest.true)

pub returns : goal.returns
unfolding parent_manifests
returns c =
    let found = dependent_manifests c.args.self.now c.args.manifest_path.now in
    let none : found ≡ [] = sym c.in_ok-found.ensures ∙ c.is_empty.ensures.0 c.if-not-is_empty.false in
    ap Some (c.in_ok-vec.ensures.items ∙ ap (λ m. m ∷ []) c.in_ok-root_manifest.ensures)
    ∙ manifests-root _ _ found none (sym c.has_manifest.ensures ∙ c.if-not-has_manifest.false)
