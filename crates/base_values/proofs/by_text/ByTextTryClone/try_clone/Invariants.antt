use Rattle.std.proofs.Common.{◌≡◌, ◌++◌}
use Rattle.base_values.specs.ByText.{text_entries}
use Rattle.base_values.proofs.by_text.ByTextTryClone.try_clone.Given as goal

abbrev pub invariant-loop-key : goal.invariant-loop-key
invariant-loop-key g l = l.copy ++ text_entries l.key-iterator ≡ l.self
