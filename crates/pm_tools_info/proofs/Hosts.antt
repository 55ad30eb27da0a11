-- What one line says of the platform that a compiler runs on.
use Rattle.std.proofs.Common.{◌≡◌, ℕ, List, ◌∷◌, Some, None, ap, codes}
use Rattle.std.specs.Option.{option_or}
use Rattle.pm_tools_info.specs.Behind.{behind}
use Rattle.pm_tools_info.specs.Host.{host_in}

-- the line names the platform
pub host_found : (line host : List ℕ) (more : List (List ℕ)) → Some host ≡ behind (codes "host: ") line → Some host ≡ host_in (line ∷ more)
host_found line host more is = ap (λ o. option_or o (host_in more)) is

-- the line names none
pub host_lacks : (line : List ℕ) (more : List (List ℕ)) → None ≡ behind (codes "host: ") line → host_in more ≡ host_in (line ∷ more)
host_lacks line more is = ap (λ o. option_or o (host_in more)) is
