use Rattle.std.proofs.Common.{true, refl}
use Rattle.pm_tools_ask.proofs.Equalities.{toolchains}
use Rattle.pm_tools_ask.proofs.laws.equality_is_content.Goals as goal

pub returns-clause-toolchains : goal.returns-clause-toolchains
returns-clause-toolchains c = toolchains _ (λ x y. true) (λ x y. refl) (λ x y. refl)
