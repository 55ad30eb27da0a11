-- The kinds of a dependency, one after another.
use Rattle.std.proofs.Common.{◌≡◌, ◌<◌, List, [], ◌∷◌, ◌++◌, Bool, true, false, cond, filter, length, refl, ap, arith}
use Rattle.std.specs.List.{list_any}
use Rattle.cargo_meta_values.specs.declared.resolve.DepKindInfo.{DepKindInfo}
use Rattle.pm_cargo_packages.specs.declared.package.DepKind.{DepKind}
use Rattle.pm_cargo_packages.specs.declared.package.DepKind.TheVariants.{Normal, Dev, Build}
use Rattle.pm_cargo_reading.specs.Nodes.{has_kind, is_kind, kinds_of}

-- a list that is not empty has the kinds of its entries alone
pub has_kind-some : (infos : List DepKindInfo) (kind : DepKind) → 0 < length infos → list_any (λ info. is_kind kind info.kind) infos ≡ has_kind infos kind
has_kind-some [] kind some = absurd (omega arith)
has_kind-some (info ∷ infos) Normal some = refl
has_kind-some (info ∷ infos) Dev some = refl
has_kind-some (info ∷ infos) Build some = refl

-- a kind is there or is not
pub kind-there : (infos : List DepKindInfo) (kind : DepKind) → has_kind infos kind ≡ true → filter (has_kind infos) (kind ∷ []) ≡ kind ∷ []
kind-there infos kind is = ap (λ b. cond b (kind ∷ []) []) is

pub kind-missing : (infos : List DepKindInfo) (kind : DepKind) → has_kind infos kind ≡ false → filter (has_kind infos) (kind ∷ []) ≡ []
kind-missing infos kind is = ap (λ b. cond b (kind ∷ []) []) is

-- the kinds are found one after another
pub kinds-parts : (infos : List DepKindInfo) → (filter (has_kind infos) (Normal ∷ []) ++ filter (has_kind infos) (Dev ∷ [])) ++ filter (has_kind infos) (Build ∷ []) ≡ kinds_of infos
unfolding kinds_of
kinds-parts infos = by (has_kind infos Normal) (has_kind infos Dev) (has_kind infos Build)
  where
    by : (n d b : Bool) → (cond n (Normal ∷ []) [] ++ cond d (Dev ∷ []) []) ++ cond b (Build ∷ []) [] ≡ cond n (Normal ∷ cond d (Dev ∷ cond b (Build ∷ []) []) (cond b (Build ∷ []) [])) (cond d (Dev ∷ cond b (Build ∷ []) []) (cond b (Build ∷ []) []))
    by true true b = refl
    by true false b = refl
    by false true b = refl
    by false false b = refl
