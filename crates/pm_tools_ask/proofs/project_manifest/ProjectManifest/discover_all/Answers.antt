-- The list is sorted, and manifests are equal where they tie.
use Rattle.std.proofs.Common.{◌≡◌, Bool, ◌∙◌, ap, refl}
use Rattle.std.proofs.lemmas.List.Filters.{dedup_is}
use Rattle.std.specs.List.{dedup}
use Rattle.std.specs.Ordering.{eq_by_cmp}
use Rattle.std.specs.declared.cmp.Ordering.{Ordering}
use Rattle.base_values.specs.Sorted.{sorted}
use Rattle.pm_tools_ask.proofs.Orders.{manifests}
use Rattle.pm_tools_ask.specs.Manifest.{manifest_cmp}
use Rattle.pm_tools_ask.specs.ManifestDiscovery.{distinct_manifests}
use Rattle.pm_tools_ask.specs.contracts.project_manifest.ProjectManifestOrd.TheImpl as order
use Rattle.pm_tools_ask.specs.contracts.project_manifest.ProjectManifestOrd.TheImpl.Laws as laws
use Rattle.pm_tools_ask.specs.contracts.project_manifest.ProjectManifestPartialEq.TheImpl as equality
use Rattle.pm_tools_ask.specs.declared.project_manifest.ProjectManifest.{ProjectManifest}
use Rattle.pm_tools_ask.proofs.project_manifest.ProjectManifest.discover_all.Goals as goal

by_kind : (x y : ProjectManifest) → (order.ghosts).cmp x y ≡ manifest_cmp x y
by_kind = manifests (order.ghosts).cmp (λ p q. refl) (λ p q. refl) (λ p q. refl) (λ p q. refl) (λ p q. refl) (λ p q. refl) (λ p q. refl) (λ p q. refl) (λ p q. refl)

pub returns : goal.returns
returns g c =
    let before = c.in_ok-found.found.items in
    let after = c.sort_all.new.items.items in
    dedup_is (equality.ghosts).eq after c.dedup.new.self.items c.dedup.ensures.filtered
    ∙ ap (λ (eq : ProjectManifest → ProjectManifest → Bool). dedup eq after) (λ i x y. laws.matches_eq-law x y i)
    ∙ ap (λ (cmp : ProjectManifest → ProjectManifest → Ordering). dedup (eq_by_cmp cmp) after) (λ i x y. by_kind x y i)
    ∙ ap (dedup (eq_by_cmp manifest_cmp)) c.in_ok-sort_all.ensures.sorted
    ∙ ap (λ (cmp : ProjectManifest → ProjectManifest → Ordering). dedup (eq_by_cmp manifest_cmp) (sorted cmp before)) (λ i x y. by_kind x y i)
    ∙ ap distinct_manifests c.in_ok-found.ensures
