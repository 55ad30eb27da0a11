use Rattle.std.proofs.Common.{refl}
use Rattle.pm_cargo_config.proofs.Equalities.{sources}
use Rattle.pm_cargo_config.proofs.laws.equality_of_sources_is_content.Goals as goal

pub returns : goal.returns
returns c = sources _ (λ p q. refl) (λ p. refl) (λ q. refl) refl
