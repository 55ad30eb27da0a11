use Rattle.std.proofs.Common.{◌≡◌, ◌++◌}
use Rattle.base_values.proofs.copies.copy_entries.Given as goal

abbrev pub invariant-loop-key : goal.invariant-loop-key
invariant-loop-key g l = l.copy.entries ++ l.key-iterator ≡ l.entries.entries
