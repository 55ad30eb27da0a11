use Rattle.std.proofs.Common.{refl}
use Rattle.pm_cargo_config.proofs.Equalities.{features}
use Rattle.pm_cargo_config.proofs.laws.equality_of_features_is_content.Goals as goal

pub returns : goal.returns
returns c = features _ refl (λ f n. refl) (λ f n. refl) (λ f g n m. refl)
