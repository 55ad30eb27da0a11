use Rattle.std.proofs.Common.{◌≡◌, take}
use Rattle.input_db.specs.Change.{numbers_of}
use Rattle.input_db.proofs.applying.numbers_of.Given as goal

abbrev pub invariant-loop-number : goal.invariant-loop-number
invariant-loop-number l = l.numbers.keys ≡ numbers_of l.is_library (take l.number l.roots)
