use Rattle.base_values.proofs.NumberMaps.{IsCopiedUpTo}
use Rattle.base_values.proofs.by_number.ByNumberTryClone.try_clone.Given as goal

abbrev pub invariant-loop-number : goal.invariant-loop-number
invariant-loop-number g l = IsCopiedUpTo l.self l.copy l.number-iterator
