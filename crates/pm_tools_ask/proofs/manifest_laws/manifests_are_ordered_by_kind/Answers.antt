use Rattle.std.proofs.Common.{refl}
use Rattle.pm_tools_ask.proofs.Orders.{manifests}
use Rattle.pm_tools_ask.proofs.manifest_laws.manifests_are_ordered_by_kind.Goals as goal

pub returns : goal.returns
returns c = manifests _ (λ p q. refl) (λ p q. refl) (λ p q. refl) (λ p q. refl) (λ p q. refl) (λ p q. refl) (λ p q. refl) (λ p q. refl) (λ p q. refl)
