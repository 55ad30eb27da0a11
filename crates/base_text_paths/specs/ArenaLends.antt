-- What an arena ends as, where a `&mut` to one of its values is returned.
use Rattle.std.specs.Prelude.{ℕ, List, Option, slice_set}
use Rattle.std.specs.Borrow.{LendsIf, Fml, RattleType, MutBor}
use Rattle.base_text_paths.specs.contracts.arena.Arena.{the_row}

-- once the borrow r ends, the value at n is the last one written through r
abbrev pub lends_item : (K T : RattleType) → MutBor (List T.Denot) → ℕ → Option (MutBor T.Denot) → Fml
lends_item K T s n r = LendsIf (the_row K T) T s r (slice_set s.now n) s.now
