-- What a map from numbers ends as, where a `&mut` to one of its values is returned.
use Rattle.std.specs.Prelude.{◌≡◌, ℕ, Option, OnSome}
use Rattle.std.specs.Ordering.{nat_cmp}
use Rattle.std.specs.FinMap.{FinMap, insert}
use Rattle.std.specs.Borrow.{LendsSo, Fml, RattleType, MutBor}
use Rattle.base_values.specs.contracts.by_number.ByNumber.{the_row}

-- once the borrow r ends, the last value written through r stands at n
abbrev pub lends_value : (V : RattleType) → MutBor (FinMap nat_cmp V.Denot) → ℕ → Option (MutBor V.Denot)
    → Fml
lends_value V s n r =
    LendsSo (the_row V) V s r (λ m w. OnSome r (m ≡ insert s.now n w)) (λ m. m ≡ s.now)
